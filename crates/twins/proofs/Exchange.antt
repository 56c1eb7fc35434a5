-- In good tables twin exchanges the walks that have one, and swaps their ends. Assumes nothing.
use mathlib.Core.Path.{◌≡◌, sym, ap, ◌∙◌}
use mathlib.Core.Bool.{true, not, ◌&&◌}
use Prim.Native.Nat.{ℕ, ◌≤◌, ◌<◌}
use native.Mathlib.Nat.{le_antisymm}
use native.Mathlib.Omega.{arith}
use lib.Dec.{eqb}
use borrow.Author.Tests.{eqb-true, eqb-false, eq-eqb, ne_eqb, not-true}
use Rattle.journeys.specs.Counting.{none, count}
use Rattle.journeys.specs.Tables.{Tables, Walk, walk, walk_count}
use Rattle.journeys.specs.Refusals.{walk_ok}
use Rattle.journeys.proofs.Tests.{and_both, and-true}
use Rattle.journeys.proofs.Valid.{Paired, twin-says}
use Rattle.twins.specs.Paired.{has_twin}
use Rattle.twins.proofs.Injection.{Leads, count-leads}

module _ (N : Tables) (few : walk_count N ≤ 262144) (ok : (i : ℕ) → i < walk_count N → walk_ok N i ≡ true) where
  abbrev twin : ℕ → ℕ
  twin i = (walk N i).twin

  says : (i : ℕ) → i < walk_count N → has_twin N i ≡ true → (twin i < walk_count N) × Paired N i (twin i)
  says i l e = twin-says N i (ok i l) (eqb-false (twin i) none (not-true _ e))

  has-too : (i : ℕ) → i < walk_count N → has_twin N i ≡ true → has_twin N (twin i) ≡ true
  has-too i l e = ap not (ne_eqb (twin (twin i)) none (λ q. let b = (says i l e).1.back in omega arith))

  -- walks with a twin and v in one column lead by twin to such with v in another, where twin swaps the columns
  leads : (f g : Walk → ℕ) → ((i : ℕ) → Paired N i (twin i) → g (walk N (twin i)) ≡ f (walk N i)) → (v : ℕ) → Leads (λ i. has_twin N i && eqb (f (walk N i)) v) (λ i. has_twin N i && eqb (g (walk N i)) v) (walk_count N) (walk_count N) twin
  leads f g swaps v =
      record {
        within = λ i l e. (says i l (has i e)).0;
        passes = λ i l e. and-true (has-too i l (has i e)) (eq-eqb _ v (swaps i (says i l (has i e)).1 ∙ eqb-true _ v (and_both (has_twin N i) _ e).1));
        apart = λ i j l k a b s. sym (says i l (has i a)).1.back ∙ ap twin s ∙ (says j k (has j b)).1.back;
      }
    where
      has : (i : ℕ) → has_twin N i && eqb (f (walk N i)) v ≡ true → has_twin N i ≡ true
      has i e = (and_both (has_twin N i) _ e).0

  pub paired-leave-as-arrive : (v : ℕ) → count (λ i. has_twin N i && eqb (walk N i).from v) (walk_count N) ≡ count (λ i. has_twin N i && eqb (walk N i).to v) (walk_count N)
  paired-leave-as-arrive v =
      le_antisymm (count-leads _ _ _ _ twin (leads (λ w. w.from) (λ w. w.to) (λ i p. p.to) v)) (count-leads _ _ _ _ twin (leads (λ w. w.to) (λ w. w.from) (λ i p. p.from) v))
