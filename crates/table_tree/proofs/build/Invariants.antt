use Rattle.table_bytes.specs.Columns.{cols}
use Rattle.table_tree.proofs.BuildLaws.{Building}
use Rattle.table_tree.proofs.build.Given as goal

abbrev pub invariant-loop-p : goal.invariant-loop-p
invariant-loop-p l = Building l.r l.cap (cols l.r l.initial.b) l.b l.p
