use native.Mathlib.Omega.{arith}
use mathlib.Core.Path.{◌≡◌, sym, ◌∙◌}
use lib.ListN.{length}
use Rattle.lines.proofs.Steps.{plain_over, plain_here, plain-on}
use Rattle.lines.proofs.plain_stop.Goals as goal

pub returns-then-b : goal.returns-then-b
returns-then-b c = sym (plain_here _ _ (omega arith) c.if-b.true) ∙ c.loop-i.invariant.1

pub loop-i-preserved : goal.loop-i-preserved
loop-i-preserved c = (omega arith, sym (plain-on _ _ (omega arith) c.if-b.false) ∙ c.loop-i.invariant.1)

pub returns : goal.returns
returns c = let over : length c.args.line.now ≡ c.loop-i.i = omega arith in over ∙ sym (plain_over c.args.line.now c.loop-i.i (omega arith)) ∙ c.loop-i.invariant.1
