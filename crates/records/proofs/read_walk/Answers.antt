-- `records::read_walk` meets its contract: its test is that of the definition. Assumes nothing.
use mathlib.Core.Path.{sym, ◌∙◌}
use mathlib.Core.List.{[]}
use Rattle.records.proofs.Judged.{walk-good, walk-bad}
use Rattle.records.proofs.read_walk.Goals as goal

pub returns-then-walk_ok : goal.returns-then-walk_ok
returns-then-walk_ok c =
    rw c.walk_at.ensures (walk-good 16 _ _ [] c.args.i c.requires.i_bound.0 (sym c.walk_ok.ensures ∙ c.if-walk_ok.true))

pub returns-else-walk_ok : goal.returns-else-walk_ok
returns-else-walk_ok c =
    walk-bad 16 _ _ [] c.args.i (sym c.walk_ok.ensures ∙ c.if-walk_ok.false)
