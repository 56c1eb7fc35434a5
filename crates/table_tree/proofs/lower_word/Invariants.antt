use Rattle.table_bytes.specs.Columns.{cols}
use Rattle.table_tree.proofs.RiseLaws.{Climbs}
use Rattle.table_tree.proofs.lower_word.Given as goal

abbrev pub invariant-loop-p : goal.invariant-loop-p
invariant-loop-p l = Climbs l.r l.cap (cols l.r l.initial.b) l.b l.i l.x l.p

abbrev pub decreases-loop-p : goal.decreases-loop-p
decreases-loop-p l = l.p
