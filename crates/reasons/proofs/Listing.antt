-- What the array of listed distances holds as the list is read. Assumes nothing.
use mathlib.Core.Path.{◌≡◌, sym, ap, ◌∙◌}
use mathlib.Core.Logic.{◌≢◌}
use mathlib.Core.Bool.{Bool, cond}
use mathlib.Core.List.{List}
use Prim.Native.Nat.{ℕ, suc, ◌+◌, ◌≤◌, ◌<◌}
use native.Mathlib.Omega.{arith}
use native.Mathlib.Decide.{ℕ_discrete}
use lib.ListN.{length, get_or, set, replicate, length-set, length-replicate, get_or-replicate}
use Rattle.journeys.specs.Counting.{none}
use Rattle.journeys.specs.Order.{Settled, settled}
use Rattle.journeys.specs.Lists.{vertex_in, distance_at}
use Rattle.journeys.specs.VendorLists.{listed, far_before}
use Rattle.journeys.proofs.Tests.{Test, same, other, test}
use Rattle.journeys.proofs.Firsts.{distance-in}
use Rattle.journeys.proofs.VendorLists.{in_entry, far-entry, far-more, far_none}
use Rattle.entries.specs.Noted.{heard, Noted}
use Rattle.entries.proofs.Noting.{here, there}
use Rattle.reasons.specs.Rows.{Figures, Gives}

-- ---- the array: nothing is listed at first; then one entry more
pub first-figures : (list far : List ℕ) → far ≡ replicate 65536 none → Figures far × Gives far (far_before list 0)
first-figures list far e =
    let none-at : (u : ℕ) → u < 65536 → heard far u ≡ none = λ u h. ap (λ (l : List ℕ). get_or l u 0) e ∙ get_or-replicate 65536 u none 0 h in (
      record { long = ap length e ∙ length-replicate {A = ℕ} 65536 none; small = λ u h n. absurd (n (none-at u h)) },
      λ u h. none-at u h ∙ sym (far_none list u),
    )

-- v and d are the vertex and the distance of entry i, which is new and in time
module _ (list far : List ℕ) (i : ℕ) (F : Figures far) (g : Gives far (far_before list i)) (v d : ℕ) (p : v ≡ vertex_in 12 list i) (q : d ≡ distance_at 12 list i) (low : v < 65536)
  where
    pub more-figures : d ≤ 8640000 → Figures (set far v d)
    more-figures m = record { long = length-set far v d ∙ F.long; small = λ u l k. go u l k (ℕ_discrete u v) }
      where
        go : (u : ℕ) → u < 65536 → heard (set far v d) u ≢ none → Dec (u ≡ v) → heard (set far v d) u ≤ 8640000
        go u l k (yes e) = omega (arith, here far F.long v d low u e, m)
        go u l k (no n) = omega (arith, there far F.long v d low u n, F.small u l (λ z. k (there far F.long v d low u n ∙ z)))

    pub more_given : ((j : ℕ) → j < i → vertex_in 12 list j ≢ vertex_in 12 list i) → Gives (set far v d) (far_before list (i + 1))
    more_given new u l =
        let e : i + 1 ≡ suc i = omega arith in
        go (test u (vertex_in 12 list i)) ∙ sym (ap (λ (n : ℕ). far_before list n u) e ∙ far-more list i new u)
      where
        go : {t : Bool} → Test u (vertex_in 12 list i) t → heard (set far v d) u ≡ cond t (distance_at 12 list i) (far_before list i u)
        go (same e) = here far F.long v d low u (e ∙ sym p) ∙ q
        go (other n) = there far F.long v d low u (λ z. n (z ∙ p)) ∙ g u l

-- ---- where it has a distance
-- An array that lists the first n entries, which differ, has a distance at each of their vertices and at no other.
pub noted-by : (list far : List ℕ) (n : ℕ) → Figures far → Gives far (far_before list n) → ((k : ℕ) → k < n → vertex_in 12 list k < 65536)
    → ((k : ℕ) → k < n → distance_at 12 list k < none) → ((k j : ℕ) → k < n → j < k → vertex_in 12 list j ≢ vertex_in 12 list k) → Noted list far n
noted-by list far n F g low near differ =
    record {
      long = F.long;
      here = λ j h z. let y : ⊥ = omega (arith, g (vertex_in 12 list j) (low j h), far-entry list n differ n j (omega arith) h, near j h, z) in y;
      old = λ u l k.
          let f : far_before list n u < none = omega (arith, F.small u l k, g u l) in
          let r = in_entry list n (settled u (far_before list n u)) (distance-in (listed list n) u f) in
          (r.0, r.1, sym (ap (λ (y : Settled). y.vertex) r.2));
    }
