-- `spreading::stay_from` meets its contract: the words below g have been marked. Assumes nothing.
use mathlib.Core.Path.{◌∙◌}
use native.Mathlib.Omega.{arith}
use Rattle.marking.specs.Setting.{tables, query, mode}
use Rattle.spreading.proofs.Staying.{from_one, stays-timely}
use Rattle.spreading.proofs.stay_from.Goals as goal

pub stay_by-r-requires : goal.stay_by-r-requires
stay_by-r-requires c =
    let a = c.args in
    let L = c.loop-g in
    let t = c.loop-g-test.true in
    let st = c.requires.staying.0 in
    let k = L.invariant.2.moved in
    let l = st.there L.g L.invariant.0 t in
    rw c.word-i.ensures
    (record {
      judged = (c.requires.judged.0, k.fit);
      i_bound = (l, stays-timely (tables a.vertices.now a.walks.now a.hops.now a.a) (query a.a) (mode a.hops.now a.a) c.requires.judged.0.valid _ a.j l (st.stays L.g L.invariant.0 t) (k.fit.timely a.j (k.carries.grows a.j c.requires.staying.1)));
    })

pub loop-g-preserved : goal.loop-g-preserved
loop-g-preserved c =
    let a = c.args in
    let L = c.loop-g in
    let t = c.loop-g-test.true in
    let v = c.stay_by-r in (
      omega (arith, L.invariant.0),
      omega (arith, t),
      from_one (tables a.vertices.now a.walks.now a.hops.now a.a) (query a.a) (mode a.hops.now a.a) a.low a.q L.g a.j _ _ _ t L.invariant.0 c.requires.staying.1 c.requires.staying.0 L.invariant.2 c.word-i.ensures v.ensures,
      v.auto.table ∙ L.invariant.3,
      v.auto.marks ∙ L.invariant.4,
      v.auto.stack ∙ L.invariant.5,
    )
