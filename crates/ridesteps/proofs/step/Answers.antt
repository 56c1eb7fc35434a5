-- `ridesteps::step` meets its contract. Assumes nothing.
use native.Mathlib.Omega.{arith}
use Rattle.journeys.proofs.Decoding.{vertex-count}
use Rattle.marking.specs.Setting.{tables, query, mode}
use Rattle.ridesteps.proofs.OneStep.{passable, offered-fit, still-pends, still-prefix, one-step}
use Rattle.ridesteps.proofs.step.Goals as goal

pub pass-t-requires : goal.pass-t-requires
pass-t-requires c =
    let a = c.args in
    let N = tables a.vertices.now a.walks.now a.hops.now a.a in
    let M = mode a.hops.now a.a in
    let j = c.requires.judged.0 in
    (j, passable N (query a.a) M j.valid c.requires.steps _ c.put.ensures c.set-1.given c.drop-gone.ensures)

pub alight-r-requires : goal.alight-r-requires
alight-r-requires c =
    let a = c.args in
    let N = tables a.vertices.now a.walks.now a.hops.now a.a in
    let M = mode a.hops.now a.a in
    let j = c.requires.judged.0 in record {
      judged = (j, offered-fit N (query a.a) M j.valid c.requires.steps _ c.put.ensures c.set-1.given c.drop-gone.ensures _ _ c.pass-t.ensures.0 c.pass-t.ensures.1);
      x_in_bounds = omega (arith, c.requires.steps.low, vertex-count a.a.size a.vertices.now a.walks.now a.hops.now);
    }

pub spread-requires : goal.spread-requires
spread-requires c =
    let a = c.args in
    let N = tables a.vertices.now a.walks.now a.hops.now a.a in
    let M = mode a.hops.now a.a in
    let j = c.requires.judged.0 in
    let k = c.alight-r.ensures in record {
      judged = (j, k.moved.fit);
      sorted = (c.requires.judged.1, still-pends N (query a.a) M j.valid c.requires.steps _ c.put.ensures c.set-1.given c.drop-gone.ensures _ _ c.pass-t.ensures.0 c.pass-t.ensures.1 c.alight-r.ensures, still-prefix N (query a.a) M j.valid c.requires.steps _ c.put.ensures c.set-1.given c.drop-gone.ensures _ _ c.pass-t.ensures.0 c.pass-t.ensures.1 c.alight-r.ensures);
    }

pub returns : goal.returns
returns c =
    let a = c.args in
    let N = tables a.vertices.now a.walks.now a.hops.now a.a in
    let M = mode a.hops.now a.a in
    let j = c.requires.judged.0 in
    one-step N (query a.a) M j.valid c.requires.steps _ c.put.ensures c.set-1.given c.drop-gone.ensures _ _ c.pass-t.ensures.0 c.pass-t.ensures.1 c.alight-r.ensures c.spread.ensures
