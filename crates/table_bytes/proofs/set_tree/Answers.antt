use mathlib.Core.Path.{ap, ◌∙◌}
use Rattle.table_bytes.specs.Columns.{cols}
use Rattle.table_bytes.proofs.Access.{tree_set}
use Rattle.table_bytes.proofs.set_tree.Goals as goal

pub returns : goal.returns
returns c =
    let a = c.args in
    ap (cols a.r) c.set_half.ensures ∙ tree_set a.r a.b.now a.i a.x c.requires.0 c.requires.1 c.requires.2
