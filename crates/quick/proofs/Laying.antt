-- Groups of claims laid one behind the other. Assumes nothing.
use Rattle.std.proofs.Common.{◌≡◌, ℕ, ◌+◌, ◌-◌, ◌*◌, ◌<◌, ◌≤◌, List, ap, ◌∙◌, ⊎_elim, arith}
use Rattle.journeys.proofs.Tests.{le-or-lt}
use Rattle.tally.specs.Laid.{Same, More}
use Rattle.tally.proofs.Groups.{laid_none, laid_kept}
use Rattle.quick.specs.Lists.{Claims, Claimed}

pub claimed-none : (claim : ℕ → ℕ) (s : List ℕ) → Claimed claim 0 0 s
claimed-none claim s = record { small = λ k l. absurd (omega arith); laid = laid_none claim (λ _. 0) s }

-- the list is no part of it
pub claimed-kept : {claim : ℕ → ℕ} {groups words : ℕ} {s s' : List ℕ} → Same 0 1984 s s' → Claimed claim groups words s → Claimed claim groups words s'
claimed-kept same c = record { small = c.small; laid = laid_kept (λ k p q. same k p (omega arith)) c.laid }

-- one group more, of the claims in the list
pub claimed-more : (f : ℕ → ℕ) (base groups words r : ℕ) (s s' : List ℕ) → Claimed (λ k. f (base + k)) groups words s → Claims (λ j. f (base + 64 * groups + j)) 64 s → More groups words r s s' → Claimed (λ k. f (base + k)) (groups + 1) r s'
claimed-more f base groups words r s s' c h m =
    record {
      small = λ k l.
          ⊎_elim (λ (q : 64 * groups ≤ k).
          let e : base + 64 * groups + (k - 64 * groups) ≡ base + k = omega arith in
          rw e at (h (k - 64 * groups) (omega arith)).1)
          (λ (q : k < 64 * groups). c.small k q)
          (le-or-lt (64 * groups) k);
      laid = m (λ k. f (base + k)) (λ _. 0) c.laid
          (λ i l.
          let e : base + 64 * groups + i ≡ base + (64 * groups + i) = omega arith in
          omega (arith, (h i l).0 ∙ ap f e));
    }
