-- A loop over the records of a row: the first j have gone by f, each on the entry of the vertex at its other end. Assumes nothing.
use mathlib.Core.Path.{◌≡◌, refl, sym, ap, ◌∙◌, subst}
use mathlib.Core.List.{List}
use Prim.Native.Nat.{ℕ, suc, ◌+◌, ◌≤◌, ◌<◌}
use native.Mathlib.Numerals.{add-one}
use native.Mathlib.Omega.{arith}
use lib.ListN.{length}
use Rattle.passing.specs.Row.{Row, passes}
use Rattle.directed.specs.Directed.{row_in, Near}
use Rattle.directed.specs.declared.Directed.{Directed}
use Rattle.worktable.specs.Map.{Entry, Map, put}
use Rattle.worktable.specs.Table.{map_of, InOrder}
use Rattle.worktable.specs.declared.Table.{Table}
use Rattle.meeting.specs.Passing.{goes, meets, met, passed, left, Enough}
use Rattle.meeting.specs.Answer.{Leads}
use Rattle.meeting.proofs.Entries.{met-left}
use Rattle.meeting.proofs.Along.{goes-along, some_left}
use Rattle.meeting.proofs.Leading.{leads-here, leads-same, leads-on}

-- where the loop stands, from the table t₀ with b₀ on
pub record Went (from : ℕ → ℕ) (f : ℕ → Entry → Entry) (n : ℕ) (t₀ : Table) (b₀ : List ℕ) (t : Table) (b : List ℕ) (j : ℕ) : Type 0 where
  pub below : j ≤ n
  pub lengths : length b ≡ length b₀
  pub leads : Leads t₀ t b (goes from f j (map_of t₀ b₀))

-- a record with u at its other end and the offer x goes by g
pub step_map : (from offer : ℕ → ℕ) (g : ℕ → ℕ → Entry → Entry) (m : Map) (j : ℕ) {M : Map} {u x : ℕ} → M ≡ goes from (λ i e. g (from i) (offer i) e) j m → u ≡ from j → x ≡ offer j
    → put M u (g u x (M u)) ≡ goes from (λ i e. g (from i) (offer i) e) (j + 1) m
unfolding goes
step_map from offer g m j {M} {u} {x} p q r =
    ap (λ (y : ℕ). put M u (g u y (M u))) r
    ∙ ap (λ (v : ℕ). put M v (g v (offer j) (M v))) q
    ∙ ap (λ (K : Map). put K (from j) (g (from j) (offer j) (K (from j)))) p
    ∙ ap (λ (k : ℕ). goes from (λ i e. g (from i) (offer i) e) k m) (sym (add-one j))

module _ {from : ℕ → ℕ} {f : ℕ → Entry → Entry} {n : ℕ} {t₀ : Table} {b₀ : List ℕ} where
  pub went-none : InOrder t₀ b₀ → Went from f n t₀ b₀ t₀ b₀ 0
  unfolding goes
  went-none o = record { below = omega arith; lengths = refl; leads = leads-here o refl }

  pub went-all : {t : Table} {b : List ℕ} {j : ℕ} → Went from f n t₀ b₀ t b j → n ≤ j → Leads t₀ t b (goes from f n (map_of t₀ b₀))
  went-all {t} {b} {j} w h =
      let e : j ≡ n = omega (arith, w.below, h) in
      leads-same w.leads (ap (λ (k : ℕ). goes from f k (map_of t₀ b₀)) e)

module _ (from offer : ℕ → ℕ) (g : ℕ → ℕ → Entry → Entry) {n : ℕ} {t₀ : Table} {b₀ : List ℕ} where
  pub went_on : {t r : Table} {b c : List ℕ} {j u x : ℕ} → Went from (λ i e. g (from i) (offer i) e) n t₀ b₀ t b j → j < n → length c ≡ length b
      → Leads t r c (put (map_of t b) u (g u x (map_of t b u))) → u ≡ from j → x ≡ offer j → Went from (λ i e. g (from i) (offer i) e) n t₀ b₀ r c (j + 1)
  went_on {j = j} w h l d q p =
      record {
        below = omega arith;
        lengths = l ∙ w.lengths;
        leads = leads-on w.leads (leads-same d (step_map from offer g (map_of t₀ b₀) j w.leads.holds.map q p));
      }

-- something remains to a vertex when one of its records comes
pub passed-left : (R : Row) (n : ℕ) (m : Map) (j : ℕ) → j < n → {M : Map} {u : ℕ} → u ≡ R.from j → Enough R n m → M ≡ passed R j m → 0 < left (R.departing u) (M u)
passed-left R n m j l {M} {u} q enough p =
    rw (p, q, goes-along R.from (meets R) j m (R.from j))
    (some_left R.from (meets R) (R.departing (R.from j)) n j
    (λ i e x. subst (λ (v : ℕ). left (R.departing (R.from j)) x ≤ suc (left (R.departing (R.from j)) (met R.allowed (R.offer i) (R.departing v) x))) (sym e) (met-left R.allowed (R.offer i) (R.departing (R.from j)) x))
    (m (R.from j)) (enough (R.from j)) l)

pub from_low : (v w h l : List ℕ) (a : Directed) → Near v w h l a → (j : ℕ) → j < passes a.arriving → (row_in v w h l a).from j < 65536
from_low v w h l a s j k = omega (arith, s.low j k, s.vertices)
