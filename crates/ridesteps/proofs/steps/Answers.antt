-- `ridesteps::steps` meets its contract: one step after another, each listed, until the limit, the end of the order or the end of the list's buffer. Assumes nothing.
use mathlib.Core.Path.{refl}
use Prim.Native.Nat.{◌-◌}
use native.Mathlib.Omega.{arith}
use Rattle.marking.specs.Setting.{tables, query, mode}
use Rattle.stepping.proofs.NextEntry.{next-nothing, next-found}
use Rattle.ridesteps.proofs.Riding.{rides-none, table-order, counts-fit, whole, at_limit, stops, may-step, onward}
use Rattle.ridesteps.proofs.steps.Goals as goal

pub loop-n-init : goal.loop-n-init
loop-n-init c =
    let a = c.args in
    let N = tables a.vertices.now a.walks.now a.hops.now a.a in
    let M = mode a.hops.now a.a in
    let j = c.requires.judged.0 in
    (rides-none N (query a.a) M a.settled.now c.requires.opened, omega arith, refl, refl, refl, refl, refl)

pub next-requires : goal.next-requires
next-requires c =
    let a = c.args in
    let N = tables a.vertices.now a.walks.now a.hops.now a.a in
    let M = mode a.hops.now a.a in
    let j = c.requires.judged.0 in
    let i = c.loop-n.invariant in
    table-order N (query a.a) M j.valid _ _ _ _ _ i.0

pub returns-in_default : goal.returns-in_default
returns-in_default c =
    let a = c.args in
    let N = tables a.vertices.now a.walks.now a.hops.now a.a in
    let M = mode a.hops.now a.a in
    let j = c.requires.judged.0 in
    let i = c.loop-n.invariant in
    whole N (query a.a) M j.valid _ _ _ _ _ i.0 a.limit i.1 (next-nothing _ _ _ _ j.allowed _ c.next.ensures c.in_default.is)

pub returns-then-n-settled : goal.returns-then-n-settled
returns-then-n-settled c =
    let a = c.args in
    let N = tables a.vertices.now a.walks.now a.hops.now a.a in
    let M = mode a.hops.now a.a in
    let j = c.requires.judged.0 in
    let i = c.loop-n.invariant in
    let w = next-found _ _ _ _ j.allowed _ c.next.ensures c.in-Some.is in
    stops N (query a.a) M j.valid _ _ _ _ _ i.0 _ _ _ w a.limit c.loop-n-test.true c.if-n-settled.true

pub overflow_cast-x : goal.overflow_cast-x
overflow_cast-x c =
    let a = c.args in
    let N = tables a.vertices.now a.walks.now a.hops.now a.a in
    let M = mode a.hops.now a.a in
    let j = c.requires.judged.0 in
    let i = c.loop-n.invariant in
    let w = next-found _ _ _ _ j.allowed _ c.next.ensures c.in-Some.is in
    omega (arith, (may-step N (query a.a) M j.valid _ _ _ _ _ i.0 _ _ _ w).low, j.valid.tables.vertices_few)

pub add_settled-requires : goal.add_settled-requires
add_settled-requires c =
    let a = c.args in
    let N = tables a.vertices.now a.walks.now a.hops.now a.a in
    let M = mode a.hops.now a.a in
    let j = c.requires.judged.0 in
    let i = c.loop-n.invariant in
    omega (arith, (counts-fit N (query a.a) M j.valid _ _ _ _ _ i.0).0, c.if-n-settled.false)

pub step-p-requires : goal.step-p-requires
step-p-requires c =
    let a = c.args in
    let N = tables a.vertices.now a.walks.now a.hops.now a.a in
    let M = mode a.hops.now a.a in
    let j = c.requires.judged.0 in
    let i = c.loop-n.invariant in
    let w = next-found _ _ _ _ j.allowed _ c.next.ensures c.in-Some.is in record {
      judged = c.requires.judged;
      steps = may-step N (query a.a) M j.valid _ _ _ _ _ i.0 _ _ _ w;
    }

pub loop-n-preserved : goal.loop-n-preserved
loop-n-preserved c =
    let a = c.args in
    let N = tables a.vertices.now a.walks.now a.hops.now a.a in
    let M = mode a.hops.now a.a in
    let j = c.requires.judged.0 in
    let i = c.loop-n.invariant in
    let w = next-found _ _ _ _ j.allowed _ c.next.ensures c.in-Some.is in (
      onward N (query a.a) M j.valid _ _ _ _ _ i.0 _ _ _ w c.step-p.ensures (omega (arith, (counts-fit N (query a.a) M j.valid _ _ _ _ _ i.0).0, c.if-n-settled.false)) c.add_settled.ensures,
      omega (arith, c.loop-n-test.true),
      omega (arith, i.2, c.set-1.given),
      omega (arith, i.3, c.table-1.given),
      omega (arith, i.4, c.marks-1.given),
      omega (arith, i.5, c.stack-1.given),
      omega (arith, i.6, c.settled-1.given),
    )

pub next-requires-2 : goal.next-requires-2
next-requires-2 c =
    let a = c.args in
    let N = tables a.vertices.now a.walks.now a.hops.now a.a in
    let M = mode a.hops.now a.a in
    let j = c.requires.judged.0 in
    let i = c.loop-n.invariant in
    table-order N (query a.a) M j.valid _ _ _ _ _ i.0

pub returns : goal.returns
returns c =
    let a = c.args in
    let N = tables a.vertices.now a.walks.now a.hops.now a.a in
    let M = mode a.hops.now a.a in
    let j = c.requires.judged.0 in
    let i = c.loop-n.invariant in
    at_limit N (query a.a) M j.valid _ _ _ _ _ i.0 a.limit (omega (arith, i.1, c.loop-n-test.false)) j.allowed _ c.next-2.ensures _ c.is_none.ensures
