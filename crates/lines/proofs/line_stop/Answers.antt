use native.Mathlib.Omega.{arith}
use mathlib.Core.Path.{sym, ◌∙◌}
use Rattle.lines.proofs.Steps.{width-over, width-ends, width-on}
use Rattle.lines.proofs.line_stop.Goals as goal

pub returns-then-ends_at : goal.returns-then-ends_at
returns-then-ends_at c = omega (arith, width-ends c.args.text.now c.loop-i.i (omega arith) (sym c.ends_at.ensures ∙ c.if-ends_at.true))

pub loop-i-preserved : goal.loop-i-preserved
loop-i-preserved c = omega (arith, width-on c.args.text.now c.loop-i.i (omega arith) (sym c.ends_at.ensures ∙ c.if-ends_at.false))

pub returns : goal.returns
returns c = omega (arith, width-over c.args.text.now c.loop-i.i (omega arith))
