use native.Mathlib.Omega.{arith}
use mathlib.Core.Path.{sym}
use Rattle.lines.proofs.Steps.{end-over, end-not, end-lf, end-crlf}
use Rattle.lines.proofs.line_next.Goals as goal

pub returns-then-stop-text : goal.returns-then-stop-text
returns-then-stop-text c = omega (arith, end-over c.args.text.now c.args.stop (omega arith))

pub returns-then-not-ends_at : goal.returns-then-not-ends_at
returns-then-not-ends_at c = omega (arith, end-not c.args.text.now c.args.stop (omega arith) (sym c.if-not-ends_at.ensures))

pub returns-then-text-stop-eq10 : goal.returns-then-text-stop-eq10
returns-then-text-stop-eq10 c = omega (arith, end-lf c.args.text.now c.args.stop (omega arith) (sym c.if-not-ends_at.ensures) c.if-text-stop-eq10.true)

pub returns : goal.returns
returns c = omega (arith, end-crlf c.args.text.now c.args.stop (omega arith) (sym c.if-not-ends_at.ensures) c.if-text-stop-eq10.false)
