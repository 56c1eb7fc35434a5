-- The list's buffer, the boarding time and the scratch: each return is the first test that fails. Assumes nothing.
use mathlib.Core.Path.{◌≡◌, sym, ap, ◌∙◌}
use mathlib.Core.Bool.{Bool, true, false, not}
use mathlib.Core.List.{List}
use Prim.Native.Nat.{ℕ, ◌*◌, ◌/◌, ◌%◌, ◌≤◌, ◌<◌}
use native.Mathlib.Omega.{arith}
use lib.Dec.{leb}
use lib.ListN.{length}
use borrow.Author.Tests.{eq-eqb, ne_eqb, le-leb, lt-leb, not-true, not-false}
use Rattle.journeys.specs.Tables.{tables_of, hop_count}
use Rattle.journeys.specs.Refusals.{fine, unless, or_else, whole_of}
use Rattle.journeys.proofs.Decoding.{hop-count}
use Rattle.intake.proofs.FirstFault.{failed, passed, last, last-failed}

module _ (settled : List ℕ) where
  pub list-cut : (length settled % 8 ≡ 0 → ⊥) → record { number = 1; place = 4 } ≡ unless (whole_of 8 settled) 1 4
  unfolding whole_of
  list-cut n = sym (last-failed (whole_of 8 settled) 1 4 (ne_eqb (length settled % 8) 0 n))

  pub list-whole : length settled % 8 ≡ 0 → fine ≡ unless (whole_of 8 settled) 1 4
  unfolding whole_of
  list-whole e = sym (last (whole_of 8 settled) 1 4 (eq-eqb (length settled % 8) 0 e))

module _ (size : ℕ) (v w h scratch : List ℕ) (boarding : ℕ) where
  abbrev enough : Bool
  enough = leb (4 * hop_count (tables_of size v w h)) (length scratch)

  -- the test as the bytes have it
  enough-is : enough ≡ leb (4 * (length h / size)) (length scratch)
  enough-is = ap (λ (n : ℕ). leb (4 * n) (length scratch)) (hop-count size v w h)

  pub boarding-long : 600 < boarding → record { number = 7; place = 5 } ≡ or_else (unless (leb boarding 600) 7 5) (unless enough 18 0)
  boarding-long l = sym (failed (leb boarding 600) 7 5 (unless enough 18 0) (omega arith) (lt-leb boarding 600 l))

  module _ (low : boarding ≤ 600) where
    pub scratch-short : not (leb (4 * (length h / size)) (length scratch)) ≡ true → record { number = 18; place = 0 } ≡ or_else (unless (leb boarding 600) 7 5) (unless enough 18 0)
    scratch-short e = sym (passed (leb boarding 600) 7 5 (unless enough 18 0) (le-leb boarding 600 low) ∙ last-failed enough 18 0 (enough-is ∙ not-true _ e))

    pub mode-good : not (leb (4 * (length h / size)) (length scratch)) ≡ false → fine ≡ or_else (unless (leb boarding 600) 7 5) (unless enough 18 0)
    mode-good e = sym (passed (leb boarding 600) 7 5 (unless enough 18 0) (le-leb boarding 600 low) ∙ last enough 18 0 (enough-is ∙ not-false _ e))
