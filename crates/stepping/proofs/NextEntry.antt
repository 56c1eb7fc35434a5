-- What the next vertex and the records that arrive at it are, from the answers of the table and of the vertex records. Assumes nothing.
use Rattle.std.specs.Prelude.{Option, Some, None}
use mathlib.Core.Path.{◌≡◌, refl, sym, ap, ◌∙◌, subst}
use mathlib.Core.Bool.{Bool, true, false}
use mathlib.Core.Logic.{◌⊎◌, inl, inr}
use mathlib.Core.List.{List}
use Prim.Native.Nat.{ℕ, ◌-◌, ◌/◌, ◌≤◌, ◌<◌}
use native.Mathlib.Omega.{arith}
use lib.ListN.{length}
use Rattle.journeys.specs.Tables.{vertex_at}
use Rattle.journeys.proofs.Tests.{never, cond-true, cond-false}
use Rattle.records.specs.Arriving.{table_of, size_of, first_of, end_of, run}
use Rattle.records.specs.declared.Kind.TheVariants.{Walks, Hops}
use Rattle.words.specs.declared.Seconds.{Seconds}
use Rattle.worktable.specs.Table.{NearestIs}
use Rattle.worktable.specs.declared.Table.{Table}
use Rattle.worktable.specs.declared.Nearest.{Nearest}
use Rattle.worktable.proofs.NearestLaws.{nearest-is, nearest-nothing}
use Rattle.stretches.specs.Stretch.{stretch_of}
use Rattle.stretches.specs.declared.Stretch.{Stretch}
use Rattle.passing.specs.declared.Arriving.{Arriving}
use Rattle.heldmap.specs.Model.{walks_at, hops_at, arriving_at}
use Rattle.heldmap.specs.RowsOfTables.{stretch_in, walks_in, hops_in, directed_at}
use Rattle.stepping.specs.Taken.{NextIs}

module _ (t : Table) (b : List ℕ) (D : ℕ) (r : Option Nearest) (h : NearestIs t b r) where
  pub next-none : r ≡ None → NextIs t b D None
  unfolding NextIs
  next-none e u n w = absurd (nearest-nothing t b h e u n w)

  module _ (x : Nearest) (e : r ≡ Some x) where
    pub next-beyond : D < x.distance → NextIs t b D None
    unfolding NextIs
    next-beyond l u n w = go ((nearest-is h e).1.first u n w)
      where
        go : (x.distance < n) ⊎ ((x.distance ≡ n) × (x.vertex ≤ u)) → D < n
        go (inl q) = omega arith
        go (inr q) = omega (arith, q.0)

    pub next-at : x.distance ≤ D → NextIs t b D (Some x)
    unfolding NextIs
    next-at l = ((nearest-is h e).0, (nearest-is h e).1, l)

-- what the answer of `next` tells in each of its cases, where D is written in another way
module _ (t : Table) (b : List ℕ) (D D' : ℕ) (q : D ≡ D') (r : Option Nearest) (h : NextIs t b D r) where
  as-next : {n : Option Nearest} → r ≡ n → NextIs t b D' n
  as-next {n} e = subst (λ (z : ℕ). NextIs t b z n) q (subst (NextIs t b D) e h)

  pub next-nothing : r ≡ None → NextIs t b D' None
  next-nothing e = as-next e

  pub next-found : {x : Nearest} → r ≡ Some x → NextIs t b D' (Some x)
  next-found e = as-next e

-- how many records arrive, from the firsts and the ends as they are read
pub arriving-is : (size : ℕ) (v w h : List ℕ) (x d : ℕ) (A : Seconds) (speed D fw ew fh eh : ℕ) → fw ≡ first_of Walks (vertex_at v x) → ew ≡ end_of Walks v (length w / 16) x → fh ≡ first_of Hops (vertex_at v x)
    → eh ≡ end_of Hops v (length h / size) x → record { walks = ew - fw; hops = eh - fh; size = size; distance = record { 0 = d }; arrival = A; speed = speed; allowed = record { 0 = D } } ≡ arriving_at size v w h x d A speed D
unfolding arriving_at
arriving-is size v w h x d A speed D fw ew fh eh a b c e = rw (a, b, c, e) refl

-- the part of a table from its first and its end as they are read
pub walks-are : (size : ℕ) (v w h : List ℕ) (x first end : ℕ) {c : Bool} {part : List ℕ} → c ≡ false → first ≡ first_of Walks (vertex_at v x) → end ≡ end_of Walks v (length w / 16) x → part ≡ run (size_of Walks size) (table_of Walks w h) first end → part ≡ walks_in c v w x
unfolding walks_in walks_at table_of size_of
walks-are size v w h x first end t a b p = p ∙ ap (λ (k : ℕ). run 16 w k end) a ∙ ap (run 16 w (first_of Walks (vertex_at v x))) b ∙ sym (cond-false w (walks_at v w x) t)

pub hops-are : (size : ℕ) (v w h : List ℕ) (x first end : ℕ) {c : Bool} {part : List ℕ} → c ≡ false → first ≡ first_of Hops (vertex_at v x) → end ≡ end_of Hops v (length h / size) x → part ≡ run (size_of Hops size) (table_of Hops w h) first end → part ≡ hops_in c size v h x
unfolding hops_in hops_at table_of size_of
hops-are size v w h x first end t a b p = p ∙ ap (λ (k : ℕ). run size h k end) a ∙ ap (run size h (first_of Hops (vertex_at v x))) b ∙ sym (cond-false h (hops_at size v h x) t)

-- the whole tables for the courier
pub all-walks : (v w : List ℕ) (x : ℕ) {c : Bool} → c ≡ true → w ≡ walks_in c v w x
unfolding walks_in
all-walks v w x t = sym (cond-true w (walks_at v w x) t)

pub all-hops : (size : ℕ) (v h : List ℕ) (x : ℕ) {c : Bool} → c ≡ true → h ≡ hops_in c size v h x
unfolding hops_in
all-hops size v h x t = sym (cond-true h (hops_at size v h x) t)

-- where the numbers of x stand
pub stretch-found : (size : ℕ) (w h : List ℕ) (x : ℕ) {c : Bool} {s : Stretch} → c ≡ true → s ≡ stretch_of size w h x → s ≡ stretch_in c size w h x
unfolding stretch_in
stretch-found size w h x t e = e ∙ sym (cond-true (stretch_of size w h x) _ t)

pub no-stretch : (size : ℕ) (w h : List ℕ) (x : ℕ) {c : Bool} → c ≡ false → record { first = 0; many = 0 } ≡ stretch_in c size w h x
unfolding stretch_in
no-stretch size w h x t = sym (cond-false (stretch_of size w h x) _ t)

-- the row in each direction
module _ (size : ℕ) (v w h : List ℕ) (s : Stretch) (x d : ℕ) (A : Seconds) (speed D : ℕ) where
  pub courier-row : (c : Bool) → c ≡ true
      → record {
        arriving = record { walks = s.many; hops = 0; size = size; distance = record { 0 = d }; arrival = A; speed = speed; allowed = record { 0 = D } };
        courier = true;
        ways = length w / 16;
        rides = length h / size;
      }
      ≡ directed_at c size v w h s x d A speed D
  unfolding directed_at
  courier-row true t = refl
  courier-row false t = never t refl

  pub ordinary-row : (c : Bool) → c ≡ false → (a : Arriving) → a ≡ arriving_at size v w h x d A speed D
      → record { arriving = a; courier = false; ways = length w / 16; rides = length h / size } ≡ directed_at c size v w h s x d A speed D
  unfolding directed_at arriving_at
  ordinary-row true t a e = never refl t
  ordinary-row false t a e = ap (λ (b : Arriving). record { arriving = b; courier = false; ways = length w / 16; rides = length h / size }) e
