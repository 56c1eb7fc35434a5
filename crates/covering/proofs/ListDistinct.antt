-- A list of which no entry is bad names each vertex once, so its parts are few. Assumes nothing.
use mathlib.Core.Path.{◌≡◌, refl, sym, ap}
use mathlib.Core.Logic.{⊎_elim}
use mathlib.Core.Bool.{Bool, true, false, cond, ◌&&◌}
use mathlib.Core.List.{List, [], ◌∷◌, ◌++◌}
use Prim.Native.Nat.{ℕ, zero, suc, ◌≤◌, ◌<◌}
use native.Mathlib.Omega.{arith}
use lib.Dec.{eqb, ltb}
use borrow.Author.Tests.{eqb-false, eq-eqb, ne_eqb, not-true}
use Rattle.journeys.specs.Counting.{none, joined}
use Rattle.journeys.specs.Order.{Settled, settled}
use Rattle.journeys.specs.Network.{distance_in}
use Rattle.journeys.specs.Lists.{allows, named, vertex_in, distance_at, entry_ok}
use Rattle.journeys.proofs.Tests.{split, never, and_both, cond-true, cond-false, or_left, or_right}
use Rattle.journeys.proofs.Fits.{Distinct}

snoc-other : (l : List Settled) (x : Settled) (v : ℕ) → (v ≡ x.vertex → ⊥) → distance_in (l ++ x ∷ []) v ≡ distance_in l v
unfolding distance_in
snoc-other [] x v n = cond-false x.distance none (ne_eqb v x.vertex n)
snoc-other (y ∷ l) x v n = ap (λ (z : ℕ). cond (eqb v y.vertex) y.distance z) (snoc-other l x v n)

distinct_snoc : (l : List Settled) (x : Settled) → Distinct l → none ≤ distance_in l x.vertex → x.distance < none → Distinct (l ++ x ∷ [])
unfolding distance_in
distinct_snoc [] x d far low = (omega arith, low, tt)
distinct_snoc (y ∷ l) x d far low =
    ⊎_elim
    (λ (t : eqb x.vertex y.vertex ≡ true). absurd (let z : ⊥ = omega (arith, d.1, far, cond-true y.distance (distance_in l x.vertex) t) in z))
    (λ (t : eqb x.vertex y.vertex ≡ false).
    let far' : none ≤ distance_in l x.vertex = omega (arith, far, cond-false y.distance (distance_in l x.vertex) t) in
    let apart : y.vertex ≡ x.vertex → ⊥ = λ e. eqb-false x.vertex y.vertex t (sym e) in
    (omega (arith, d.0, snoc-other l x y.vertex apart), d.1, distinct_snoc l x d.2 far' low))
    (split _)

module _ (size vertices most : ℕ) (list : List ℕ) where
  abbrev at : ℕ → Settled
  at i = settled (vertex_in size list i) (distance_at size list i)

  unnamed-far : (n v : ℕ) → named size list n v ≡ false → none ≤ distance_in (joined (λ i. at i ∷ []) n) v
  unfolding joined named distance_in
  unnamed-far zero v e = omega arith
  unnamed-far (suc n) v e =
      let a : named size list n v ≡ false = is_false (named size list n v) (λ t. never (or_left _ t) e) in
      let c : vertex_in size list n ≡ v → ⊥ = λ q. never (or_right (named size list n v) (eq-eqb (vertex_in size list n) v q)) e in
      omega (arith, unnamed-far n v a, snoc-other (joined (λ i. at i ∷ []) n) (at n) v (λ q. c (sym q)))
    where
      is_false : (b : Bool) → (b ≡ true → ⊥) → b ≡ false
      is_false true h = absurd (h refl)
      is_false false h = refl

  pub list-distinct : (n : ℕ) → ((i : ℕ) → i < n → entry_ok size vertices most list i ≡ true) → ((i : ℕ) → i < n → distance_at size list i < none) → Distinct (joined (λ i. at i ∷ []) n)
  unfolding joined entry_ok
  list-distinct zero h low = tt
  list-distinct (suc n) h low =
      let ok = and_both (ltb (vertex_in size list n) vertices && allows most (distance_at size list n)) _ (h n (omega arith)) in
      distinct_snoc (joined (λ i. at i ∷ []) n) (at n) (list-distinct n (λ i l. h i (omega arith)) (λ i l. low i (omega arith))) (unnamed-far n (vertex_in size list n) (not-true _ ok.1)) (low n (omega arith))
