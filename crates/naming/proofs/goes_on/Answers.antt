use Prim.Native.Nat.{◌-◌}
use native.Mathlib.Omega.{arith}
use mathlib.Core.Path.{sym, ◌∙◌}
use lib.ListN.{take, drop, length-drop}
use borrow.Author.Tests.{eq-eqb, ne_eqb}
use Rattle.journeys.proofs.Tests.{and_right}
use Rattle.naming.specs.Named.{leads}
use Rattle.naming.proofs.Leading.{leads-short, leads-back, leads-none, and-here}
use Rattle.naming.proofs.goes_on.Goals as goal

pub returns-then-name-text : goal.returns-then-name-text
returns-then-name-text c = let a = c.args in sym (leads-short a.name.now (drop a.at a.text.now) (omega (arith, c.if-name-text.true, length-drop a.at a.text.now)))

pub returns-then-name-k : goal.returns-then-name-k
returns-then-name-k c =
    let a = c.args in
    let i = c.loop-k.k in
    let t = c.loop-k-test.true in
    sym (sym c.loop-k.invariant.2 ∙ leads-back a.name.now a.text.now a.at (i - 1) i (omega (arith, t)) c.loop-k.invariant.0 c.loop-k.invariant.1 c.requires ∙ and_right (leads (take (i - 1) a.name.now) (drop a.at a.text.now)) (ne_eqb _ _ c.if-name-k.true))

pub loop-k-preserved : goal.loop-k-preserved
loop-k-preserved c =
    let a = c.args in
    let i = c.loop-k.k in
    let t = c.loop-k-test.true in
    (omega (arith, c.loop-k.invariant.0), c.loop-k.invariant.1, sym (leads-back a.name.now a.text.now a.at (i - 1) i (omega (arith, t)) c.loop-k.invariant.0 c.loop-k.invariant.1 c.requires ∙ and-here (eq-eqb _ _ c.if-name-k.false)) ∙ c.loop-k.invariant.2)

pub returns : goal.returns
returns c =
    let a = c.args in
    sym (sym c.loop-k.invariant.2 ∙ leads-none a.name.now (drop a.at a.text.now) c.loop-k.k (omega (arith, c.loop-k-test.false)))
