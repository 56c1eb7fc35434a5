use native.Mathlib.Omega.{arith}
use mathlib.Core.Path.{◌≡◌, sym, ◌∙◌}
use Prim.Native.Nat.{◌+◌}
use mathlib.Core.Bool.{true}
use Rattle.lines.specs.Passing.{opens_at}
use Rattle.lines.proofs.Steps.{quoted-over, quoted-on, quoted-closes, quoted-doubled, opens-within}
use Rattle.lines.proofs.quoted_stop.Goals as goal

pub loop-i-preserved-then-line-i-ne34 : goal.loop-i-preserved-then-line-i-ne34
loop-i-preserved-then-line-i-ne34 c = (omega arith, sym (quoted-on _ _ (omega arith) c.if-line-i-ne34.true) ∙ c.loop-i.invariant.1)

pub returns-then-not-opens : goal.returns-then-not-opens
returns-then-not-opens c = sym (quoted-closes _ _ (omega arith) c.if-line-i-ne34.false (sym c.if-not-opens.ensures)) ∙ c.loop-i.invariant.1

pub loop-i-preserved : goal.loop-i-preserved
loop-i-preserved c =
    let two : opens_at c.args.line.now (c.loop-i.i + 1) ≡ true = sym c.if-not-opens.ensures in
    (omega (arith, opens-within _ _ two), sym (quoted-doubled _ _ (omega arith) c.if-line-i-ne34.false two) ∙ c.loop-i.invariant.1)

pub returns : goal.returns
returns c = sym (quoted-over _ _ (omega arith)) ∙ c.loop-i.invariant.1
