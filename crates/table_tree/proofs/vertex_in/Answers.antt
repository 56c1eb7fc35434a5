use borrow.Author.Rules.{rules}
use Rattle.table_tree.specs.Words.{vertex_in}
use Rattle.table_tree.proofs.vertex_in.Goals as goal

pub returns : goal.returns
unfolding vertex_in
returns c = search rules
