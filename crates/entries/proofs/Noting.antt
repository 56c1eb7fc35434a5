-- An array that has a distance at each vertex read so far tells a vertex that stands twice. Assumes nothing.
use mathlib.Core.Path.{◌≡◌, sym, ap, ◌∙◌}
use mathlib.Core.Logic.{◌≢◌, ⊎_elim}
use mathlib.Core.Bool.{true, ◌&&◌}
use mathlib.Core.List.{List}
use Prim.Native.Nat.{ℕ, ◌+◌, ◌≤◌, ◌<◌}
use native.Mathlib.Omega.{arith}
use native.Mathlib.Decide.{ℕ_discrete}
use lib.Dec.{eqb, ltb}
use lib.ListN.{length, set, length-set}
use lib.Seq.{get_or-set_same, get_or-set_other}
use borrow.Author.Tests.{eq-eqb, eqb-true, lt-ltb, ltb-true}
use Rattle.journeys.specs.Counting.{none}
use Rattle.journeys.specs.Lists.{vertex_in, distance_at, entry_ok}
use Rattle.journeys.proofs.Tests.{same_test, same-or-below, and_both, and-true}
use Rattle.lists.proofs.Meaning.{entry-means, not-looked-at}
use Rattle.entries.specs.Noted.{heard, Noted}

-- the array with d at v
module _ (far : List ℕ) (long : length far ≡ 65536) (v d : ℕ) (low : v < 65536) where
  pub here : (u : ℕ) → u ≡ v → heard (set far v d) u ≡ d
  here u e = ap (heard (set far v d)) e ∙ get_or-set_same far v d 0 (omega (arith, low, long))

  pub there : (u : ℕ) → u ≢ v → heard (set far v d) u ≡ heard far u
  there u n = get_or-set_other far v u d 0 n

module _ (list far : List ℕ) (i : ℕ) (N : Noted list far i) (v : ℕ) (p : v ≡ vertex_in 12 list i) where
  -- one entry more; which distance stands there is not asked any more
  pub more-noted : v < 65536 → Noted list (set far v 0) (i + 1)
  more-noted low = record { long = length-set far v 0 ∙ N.long; here = λ j h. at j h (ℕ_discrete (vertex_in 12 list j) v); old = λ u l k. of u l k (ℕ_discrete u v) }
    where
      at : (j : ℕ) → j < i + 1 → Dec (vertex_in 12 list j ≡ v) → heard (set far v 0) (vertex_in 12 list j) ≢ none
      at j h (yes e) z = let y : ⊥ = omega (arith, here far N.long v 0 low (vertex_in 12 list j) e, z) in y
      at j h (no n) z =
          let b : j ≤ i = omega arith in
          ⊎_elim (λ (e : j ≡ i). n (ap (vertex_in 12 list) e ∙ sym p)) (λ (l : j < i). N.here j l (sym (there far N.long v 0 low (vertex_in 12 list j) n) ∙ z)) (same-or-below b)

      of : (u : ℕ) → u < 65536 → heard (set far v 0) u ≢ none → Dec (u ≡ v) → (j : ℕ) × (j < i + 1) × (vertex_in 12 list j ≡ u)
      of u l k (yes e) = (i, omega arith, sym p ∙ sym e)
      of u l k (no n) = let r = N.old u l (λ z. k (there far N.long v 0 low u n ∙ z)) in (r.0, omega (arith, r.1), r.2)

  -- the test of 25 by the array
  pub fresh-is : (n : ℕ) → n ≤ 65536 → (ltb v n && eqb (heard far v) none) ≡ entry_ok 12 n none list i
  fresh-is n few = same_test (ltb v n && eqb (heard far v) none) (entry_ok 12 n none list i) to from
    where
      to : (ltb v n && eqb (heard far v) none) ≡ true → entry_ok 12 n none list i ≡ true
      to e =
          let q = and_both (ltb v n) (eqb (heard far v) none) e in
          (entry-means 12 n none list i).1 (
            omega (arith, ltb-true v n q.0, p),
            not-looked-at (distance_at 12 list i),
            λ j h d. N.here j h (ap (heard far) (d ∙ sym p) ∙ eqb-true (heard far v) none q.1),
          )

      unlisted : ((j : ℕ) → j < i → vertex_in 12 list j ≢ vertex_in 12 list i) → v < 65536 → Dec (heard far v ≡ none) → heard far v ≡ none
      unlisted f l (yes e) = e
      unlisted f l (no k) = let r = N.old v l k in absurd (f r.0 r.1 (r.2 ∙ p))

      from : entry_ok 12 n none list i ≡ true → (ltb v n && eqb (heard far v) none) ≡ true
      from e =
          let m = (entry-means 12 n none list i).0 e in
          let l : v < n = omega (arith, m.0, p) in
          and-true (lt-ltb v n l) (eq-eqb (heard far v) none (unlisted m.2 (omega arith) (ℕ_discrete (heard far v) none)))
