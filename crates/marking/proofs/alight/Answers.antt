-- `marking::alight` meets its contract: the hops below i have been asked. Assumes nothing.
use mathlib.Core.Path.{refl, ◌∙◌}
use native.Mathlib.Omega.{arith}
use Rattle.heldmap.proofs.ArrivingRun.{hop-run}
use Rattle.marking.specs.Setting.{tables, query, mode}
use Rattle.marking.proofs.Moving.{asking-none, asking-one, asking-all}
use Rattle.marking.proofs.alight.Goals as goal

pub loop-i-init : goal.loop-i-init
loop-i-init c =
    let a = c.args in
    let r = hop-run a.a.size a.vertices.now a.walks.now a.hops.now c.requires.judged.0.valid.tables a.x c.requires.x_in_bounds in (
      asking-none (tables a.vertices.now a.walks.now a.hops.now a.a) (query a.a) (mode a.hops.now a.a)
          (omega (arith, r.order, c.first_arriving-i.ensures, c.end_arriving-end.ensures)) c.requires.judged.1,
      refl,
      refl,
      refl,
    )

pub alight_by-q-requires : goal.alight_by-q-requires
alight_by-q-requires c =
    let a = c.args in
    let r = hop-run a.a.size a.vertices.now a.walks.now a.hops.now c.requires.judged.0.valid.tables a.x c.requires.x_in_bounds in record {
      judged = (c.requires.judged.0, c.loop-i.invariant.0.moved.fit);
      i_bound = omega (arith, c.loop-i-test.true, r.fit, c.end_arriving-end.ensures);
    }

pub loop-i-preserved : goal.loop-i-preserved
loop-i-preserved c =
    let a = c.args in
    let L = c.loop-i in
    let r = hop-run a.a.size a.vertices.now a.walks.now a.hops.now c.requires.judged.0.valid.tables a.x c.requires.x_in_bounds in
    let e = c.end_arriving-end.ensures in
    let f = c.first_arriving-i.ensures in
    let t = c.loop-i-test.true in
    let v = c.alight_by-q in (
      asking-one (tables a.vertices.now a.walks.now a.hops.now a.a) (query a.a) (mode a.hops.now a.a) a.x a.d _ _ _ _ _ L.i t
          (r.inside L.i (omega (arith, f, L.invariant.0.from)) (omega (arith, e, t))) L.invariant.0 v.ensures,
      v.auto.table ∙ L.invariant.1,
      v.auto.marks ∙ L.invariant.2,
      v.auto.stack ∙ L.invariant.3,
    )

pub returns : goal.returns
returns c =
    let a = c.args in
    let L = c.loop-i in
    let r = hop-run a.a.size a.vertices.now a.walks.now a.hops.now c.requires.judged.0.valid.tables a.x c.requires.x_in_bounds in
    asking-all (tables a.vertices.now a.walks.now a.hops.now a.a) (query a.a) (mode a.hops.now a.a) a.x a.d _ _ _ _ L.i c.loop-i-test.false
    (λ j h. r.before j (omega (arith, c.first_arriving-i.ensures))) (λ j h l. r.after j (omega (arith, c.end_arriving-end.ensures)) l) L.invariant.0
