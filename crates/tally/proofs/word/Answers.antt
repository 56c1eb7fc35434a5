-- `tally::word` meets its contract: four, two or one claim make a word. Assumes nothing.
use mathlib.Core.Path.{◌≡◌, sym, ◌∙◌}
use native.Mathlib.Omega.{arith}
use Rattle.tally.specs.Laid.{listed}
use Rattle.tally.proofs.Digits.{word-four, word_two, word-one, width_four}
use Rattle.tally.proofs.word.Goals as goal
use Rattle.tally.proofs.word.Goals.{Else-size-eq2}

size-four : (c : Else-size-eq2) → c.args.size ≡ 4
size-four c = width_four c.requires.width.0 c.if-size-eq1.false c.if-size-eq2.false

pub returns-then-size-eq1 : goal.returns-then-size-eq1
returns-then-size-eq1 c =
    let a = c.args in
    c.four.ensures ∙ sym (word-four (listed a.scratch.now) a.size a.w (omega arith))

pub returns-then-size-eq2 : goal.returns-then-size-eq2
returns-then-size-eq2 c =
    let a = c.args in
    c.two.ensures ∙ sym (word_two (listed a.scratch.now) a.size a.w (omega arith))

pub returns : goal.returns
returns c =
    let a = c.args in
    sym (word-one (listed a.scratch.now) a.size a.w (size-four (goal.at.returns c).Else-size-eq2))
