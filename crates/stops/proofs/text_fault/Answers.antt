use native.Mathlib.Omega.{arith}
use mathlib.Core.Path.{sym, ◌∙◌}
use lib.Seq.{length-take-le}
use Rattle.lines.proofs.Passes.{stop-within, next-within}
use Rattle.stops.proofs.StopLines.{text-parts}
use Rattle.stops.proofs.text_fault.Goals as goal

pub line_next-from-requires : goal.line_next-from-requires
line_next-from-requires c = (stop-within c.args.text.now 0 c.line_stop-stop.result 0 (omega arith) c.line_stop-stop.ensures).1

pub slice_bounds-fault_below-end : goal.slice_bounds-fault_below-end
slice_bounds-fault_below-end c = sym (length-take-le _ _ (stop-within c.args.text.now 0 c.line_stop-stop.result 0 (omega arith) c.line_stop-stop.ensures).1)

pub fault_below-requires : goal.fault_below-requires
fault_below-requires c = (next-within c.args.text.now 0 c.line_stop-stop.result c.line_next-from.result (omega arith) c.line_stop-stop.ensures c.line_next-from.ensures).1

pub returns : goal.returns
returns c = c.fault_below.ensures ∙ text-parts _ _ _ c.line_stop-stop.ensures c.line_next-from.ensures
