-- The definitions that give the rules' numbers for each case of an answer (RULES 18.6) tell different answers apart. Assumes nothing.
use mathlib.Core.Path.{◌≡◌, ap}
use Prim.Native.Nat.{ℕ}
use Rattle.std.specs.Prelude.{Result, Ok, Err}
use lib.IntN.{ℤ, pos}
use lib.ListN.{get_or}
use Rattle.records.specs.declared.Vertex.{Vertex}
use Rattle.records.specs.declared.Walk.{Walk}
use Rattle.records.specs.declared.Hop.{Hop}
use Rattle.records.specs.Readings.{Reading, good, refused, told_vertex, told_walk, told_hop}

-- the place of a refusal, and a field of a good record
place : Reading → ℕ
place (good l) = 0
place (refused r) = r.place

field : ℕ → Reading → ℤ
field k (good l) = get_or l k (pos 0)
field k (refused r) = pos 0

number : {a b : ℕ} → pos a ≡ pos b → a ≡ b
number e = cc

-- a record by its fields
four : {A B C D E : Type 0} (f : A → B → C → D → E) {a a' : A} {b b' : B} {c c' : C} {d d' : D} → a ≡ a' → b ≡ b' → c ≡ c' → d ≡ d' → f a b c d ≡ f a' b' c' d'
four f p q r s = cc

five : {A B C D E F : Type 0} (f : A → B → C → D → E → F) {a a' : A} {b b' : B} {c c' : C} {d d' : D} {e e' : E} → a ≡ a' → b ≡ b' → c ≡ c' → d ≡ d' → e ≡ e'
    → f a b c d e ≡ f a' b' c' d' e'
five f p q r s t = cc

pub vertex-injective : (a b : Result Vertex ℕ) → told_vertex a ≡ told_vertex b → a ≡ b
unfolding told_vertex place field
vertex-injective (Ok a) (Ok b) e =
    four (λ (x y z w : ℕ). Ok (record { first_walk = x; first_hop = y; departing = z; zeros = w }))
    (number (ap (field 0) e)) (number (ap (field 1) e)) (number (ap (field 2) e)) (number (ap (field 3) e))
vertex-injective (Ok a) (Err b) e = cc
vertex-injective (Err a) (Ok b) e = cc
vertex-injective (Err a) (Err b) e = ap Err (ap place e)

pub walk-injective : (a b : Result Walk ℕ) → told_walk a ≡ told_walk b → a ≡ b
unfolding told_walk place field
walk-injective (Ok a) (Ok b) e =
    five (λ (x y z : ℕ) (t : ℤ) (w : ℕ). Ok (record { from = x; to = y; len = record { 0 = z }; wait = record { 0 = t }; twin = w }))
    (number (ap (field 0) e)) (number (ap (field 1) e)) (number (ap (field 2) e)) (ap (field 3) e) (number (ap (field 4) e))
walk-injective (Ok a) (Err b) e = cc
walk-injective (Err a) (Ok b) e = cc
walk-injective (Err a) (Err b) e = ap Err (ap place e)

pub hop-injective : (a b : Result Hop ℕ) → told_hop a ≡ told_hop b → a ≡ b
unfolding told_hop place field
hop-injective (Ok a) (Ok b) e =
    four (λ (x y : ℕ) (z w : ℤ). Ok (record { from = x; to = y; departure = record { 0 = z }; arrival = record { 0 = w } }))
    (number (ap (field 0) e)) (number (ap (field 1) e)) (ap (field 2) e) (ap (field 3) e)
hop-injective (Ok a) (Err b) e = cc
hop-injective (Err a) (Ok b) e = cc
hop-injective (Err a) (Err b) e = ap Err (ap place e)
