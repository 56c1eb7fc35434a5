-- `surveys::note_and_tally` meets its contract: the tally changes as the counter comes from 0 or goes to 0. Assumes nothing.
use mathlib.Core.Path.{refl, ap, ap₂, ◌∙◌}
use mathlib.Core.Bool.{Bool, not}
use Prim.Native.Nat.{ℕ, ◌+◌, ◌-◌, ◌%◌}
use native.Mathlib.Omega.{arith}
use lib.Dec.{eqb}
use borrow.Author.Tests.{eq-eqb}
use Rattle.journeys.specs.Counting.{one}
use Rattle.journeys.proofs.Tests.{cond-true}
use Rattle.blocks.specs.Block.{stays_in}
use Rattle.surveys.specs.Survey.{tallied}
use Rattle.surveys.proofs.note_and_tally.Goals as goal

pub returns : goal.returns
unfolding tallied stays_in
returns c =
    let a = c.args in
    let k = a.u % 2048 in
    let n = c.note.ensures in record {
      value = c.changed.ensures ∙ ap₂ (λ (x y : Bool). (a.tally + one x) - one y) (c.stays.ensures ∙ ap (λ (z : ℕ). not (eqb z 0)) (n k (omega arith) ∙ cond-true _ _ (eq-eqb k k refl))) c.stays-before.ensures;
      by_index = n;
    }
