use Rattle.table_bytes.specs.Columns.{cols}
use Rattle.table_tree.proofs.SearchLaws.{Walking}
use Rattle.table_tree.proofs.before.Given as goal

abbrev pub invariant-loop-x : goal.invariant-loop-x
invariant-loop-x l = Walking l.cap l.mask (cols l.r l.b).w (cols l.r l.b).n l.k l.s l.p l.x

abbrev pub decreases-loop-x : goal.decreases-loop-x
decreases-loop-x l = l.p
