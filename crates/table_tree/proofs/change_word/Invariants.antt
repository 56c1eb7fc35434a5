use Rattle.table_bytes.specs.Columns.{cols}
use Rattle.table_tree.proofs.ReplayLaws.{Climbing}
use Rattle.table_tree.proofs.change_word.Given as goal

abbrev pub invariant-loop-p : goal.invariant-loop-p
invariant-loop-p l = Climbing l.r l.cap (cols l.r l.initial.b) l.b l.p l.winner l.least

abbrev pub decreases-loop-p : goal.decreases-loop-p
decreases-loop-p l = l.p
