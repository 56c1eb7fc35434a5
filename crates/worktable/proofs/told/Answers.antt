-- `told`: one comparison with the upper half of the word tells whether its entry is spent.
use mathlib.Core.Path.{sym, ap, ◌∙◌}
use mathlib.Core.Bool.{Bool, cond}
use Rattle.worktable.specs.Inside.{told_of}
use Rattle.worktable.specs.declared.Passed.{Passed}
use Rattle.worktable.proofs.WordLaws.{word-spent}
use Rattle.worktable.proofs.told.Goals as goal

pub returns-then-w-allowed : goal.returns-then-w-allowed
unfolding told_of
returns-then-w-allowed c =
    let a = c.args in
    sym (ap (λ (b : Bool). cond b (Passed.Spent a.s) Passed.Kept) (word-spent a.w a.allowed c.requires ∙ c.if-w-allowed.true))

pub returns : goal.returns
unfolding told_of
returns c =
    let a = c.args in
    sym (ap (λ (b : Bool). cond b (Passed.Spent a.s) Passed.Kept) (word-spent a.w a.allowed c.requires ∙ c.if-w-allowed.false))
