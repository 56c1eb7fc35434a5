-- `short::new_mark` meets its contract. Assumes nothing.
use mathlib.Core.Path.{◌≡◌, sym, ap}
use Rattle.journeys.specs.Counting.{one}
use Rattle.worktable.specs.declared.Passed.{Passed}
use Rattle.blocks.specs.Lack.{is_new}
use Rattle.short.proofs.new_mark.Goals as goal

told : {p q : Passed} → p ≡ q → one (is_new q) ≡ one (is_new p)
told e = ap (λ (x : Passed). one (is_new x)) (sym e)

pub returns-in-Absent : goal.returns-in-Absent
unfolding is_new
returns-in-Absent c = told c.in-Absent.is

pub returns-in-Kept : goal.returns-in-Kept
unfolding is_new
returns-in-Kept c = told c.in-Kept.is

pub returns-in-Spent : goal.returns-in-Spent
unfolding is_new
returns-in-Spent c = told c.in-Spent.is
