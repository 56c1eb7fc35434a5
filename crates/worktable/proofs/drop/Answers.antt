-- `drop`: the chains, then the word and the tree, then the slot goes on top of the vacant ones.
use mathlib.Core.Path.{◌∙◌}
use Rattle.table_bytes.proofs.Access.{sized}
use Rattle.worktable.proofs.TableLaws.{gives-gone}
use Rattle.worktable.proofs.drop.Goals as goal

pub returns : goal.returns
returns c =
    gives-gone c.requires.0 c.requires.1 (sized c.args.t.slots c.cut.new.b) c.cut.ensures c.vacate.ensures c.set_next.ensures
    (c.set_next.auto.b ∙ c.vacate.auto.b ∙ c.cut.auto.b)
