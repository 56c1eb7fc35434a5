-- Refusal 1, place 4, and refusal 25 from the judge of lists. Assumes nothing.
use mathlib.Core.Path.{◌≡◌, sym, ◌∙◌}
use mathlib.Core.List.{List}
use Prim.Native.Nat.{ℕ, ◌%◌}
use native.Mathlib.Omega.{arith}
use lib.Dec.{eqb}
use lib.ListN.{length}
use borrow.Author.Tests.{eq-eqb, ne_eqb}
use Rattle.journeys.specs.Refusals.{Refusal, unless, or_else, whole_of}
use Rattle.intake.proofs.FirstFault.{failed, passed}

pub list-cut : (list : List ℕ) → (length list % 12 ≡ 0 → ⊥) → (rest : Refusal) → record { number = 1; place = 4 } ≡ or_else (unless (whole_of 12 list) 1 4) rest
unfolding whole_of
list-cut list n rest = sym (failed (eqb (length list % 12) 0) 1 4 rest (omega arith) (ne_eqb (length list % 12) 0 n))

pub list-whole : (list : List ℕ) {x rest : Refusal} → length list % 12 ≡ 0 → x ≡ rest → x ≡ or_else (unless (whole_of 12 list) 1 4) rest
unfolding whole_of
list-whole list {x} {rest} e q = q ∙ sym (passed (eqb (length list % 12) 0) 1 4 rest (eq-eqb (length list % 12) 0 e))
