use Rattle.table_bytes.specs.Columns.{cols}
use Rattle.table_tree.proofs.SearchLaws.{Seeking}
use Rattle.table_tree.proofs.find.Given as goal

abbrev pub invariant-loop-x : goal.invariant-loop-x
invariant-loop-x l = Seeking l.cap l.mask (cols l.r l.b).w l.u l.k l.s

abbrev pub decreases-loop-x : goal.decreases-loop-x
decreases-loop-x l = l.s
