-- A loop that has come to record i of n, where what is left gives the answer of the whole: one record more, where it stops, and its end. Assumes nothing.
use mathlib.Core.Path.{◌≡◌, sym, ◌∙◌}
use mathlib.Core.Bool.{Bool, true, false}
use Prim.Native.Nat.{ℕ, ◌+◌, ◌-◌, ◌≤◌, ◌<◌}
use native.Mathlib.Nat.{sub-zero}
use native.Mathlib.Omega.{arith}
use Rattle.journeys.specs.Refusals.{Refusal, fine, first_from, first_bad}
use Rattle.audit.proofs.Scan.{refusing, scan_step, scan-stop, scan-end}

module _ (number : ℕ) (good : ℕ → Bool) where
  abbrev pub left : ℕ → ℕ → Refusal
  left n i = first_from (refusing number good) (n - i) i

  pub left-start : (n : ℕ) → left n 0 ≡ first_bad number good n
  unfolding first_bad
  left-start n = rw sub-zero

  pub left-good : {r : Refusal} (n i : ℕ) → i < n → good i ≡ true → left n i ≡ r → left n (i + 1) ≡ r
  left-good n i l g e = sym (scan_step number good (n - i) (n - (i + 1)) i (omega arith) g) ∙ e

  pub left-bad : {q r : Refusal} (n i : ℕ) → 0 < number → i < n → good i ≡ false → left n i ≡ r → q ≡ record { number = number; place = i } → q ≡ r
  left-bad n i p l g e f = f ∙ sym (scan-stop number good (n - i) (n - (i + 1)) i (omega arith) p g) ∙ e

  pub left-none : {q r : Refusal} (n i : ℕ) → n ≤ i → left n i ≡ r → q ≡ fine → q ≡ r
  left-none n i l e f = f ∙ sym (scan-end number good (n - i) i (omega arith)) ∙ e
