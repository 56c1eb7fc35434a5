use native.Mathlib.Omega.{arith}
use mathlib.Core.Path.{sym}
use lib.Seq.{length-take-le}
use Rattle.lines.proofs.Passes.{stop-within}
use Rattle.timetable.proofs.opened.Goals as goal

pub line_next-from-requires : goal.line_next-from-requires
line_next-from-requires c =
    (stop-within c.args.text.now 0 c.line_stop-stop.result 0 (omega arith) c.line_stop-stop.ensures).1

pub slice_bounds-opening-end : goal.slice_bounds-opening-end
slice_bounds-opening-end c =
    sym (length-take-le _ _ (stop-within c.args.text.now 0 c.line_stop-stop.result 0 (omega arith) c.line_stop-stop.ensures).1)
