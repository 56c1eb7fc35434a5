use native.Mathlib.Omega.{arith}
use mathlib.Core.Path.{sym, ◌∙◌}
use Rattle.naming.proofs.Plainly.{above-not, above-next, above-over}
use Rattle.naming.proofs.plain_name.Goals as goal

pub returns-then-b-le44 : goal.returns-then-b-le44
returns-then-b-le44 c =
    sym (sym c.loop-b.invariant.1 ∙ above-not c.args.name.now c.loop-b.b-index c.loop-b-test.true c.if-b-le44.true)

pub loop-b-preserved : goal.loop-b-preserved
loop-b-preserved c =
    (omega (arith, c.loop-b-test.true), sym (above-next c.args.name.now c.loop-b.b-index c.loop-b-test.true (omega (arith, c.if-b-le44.false))) ∙ c.loop-b.invariant.1)

pub returns : goal.returns
returns c = sym (sym c.loop-b.invariant.1 ∙ above-over c.args.name.now c.loop-b.b-index c.loop-b-test.false)
