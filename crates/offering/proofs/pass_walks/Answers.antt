-- `offering::pass_walks` meets its contract: the records below i have made their offers. Assumes nothing.
use mathlib.Core.Path.{refl, ◌∙◌}
use native.Mathlib.Omega.{arith}
use Rattle.journeys.specs.Tables.{walk_count}
use Rattle.heldmap.proofs.ArrivingRun.{walk-run}
use Rattle.marking.specs.Setting.{tables, query, mode}
use Rattle.offering.proofs.Along.{vertex-low, passes_same, passes-skip, passes-walk, no-walks}
use Rattle.offering.proofs.pass_walks.Goals as goal

pub end_arriving-end-requires : goal.end_arriving-end-requires
end_arriving-end-requires c = vertex-low c.requires.0 c.requires.1.low

pub first_arriving-i-requires : goal.first_arriving-i-requires
first_arriving-i-requires c = vertex-low c.requires.0 c.requires.1.low

pub loop-i-init : goal.loop-i-init
loop-i-init c =
    let a = c.args in
    let r = walk-run a.a.size a.vertices.now a.walks.now a.hops.now c.requires.0.valid.tables a.x (vertex-low c.requires.0 c.requires.1.low) in (
      omega arith,
      omega (arith, r.order, c.first_arriving-i.ensures, c.end_arriving-end.ensures),
      passes-skip (tables a.vertices.now a.walks.now a.hops.now a.a) (query a.a) (mode a.hops.now a.a) c.requires.0.valid a.set.now a.marks.now a.x a.d (passes_same (tables a.vertices.now a.walks.now a.hops.now a.a) (query a.a) (mode a.hops.now a.a) c.requires.0.valid a.set.now a.marks.now a.x a.d c.requires.1.ready) (omega arith) (no-walks (tables a.vertices.now a.walks.now a.hops.now a.a) (query a.a) (mode a.hops.now a.a) c.requires.0.valid a.set.now a.marks.now a.x a.d 0 _ (omega (arith, r.order, r.fit, c.first_arriving-i.ensures)) (λ i f g. r.before i (omega (arith, c.first_arriving-i.ensures)))),
      refl,
    )

pub pass_walk-q-requires : goal.pass_walk-q-requires
pass_walk-q-requires c =
    let a = c.args in
    let L = c.loop-i in
    let r = walk-run a.a.size a.vertices.now a.walks.now a.hops.now c.requires.0.valid.tables a.x (vertex-low c.requires.0 c.requires.1.low) in
    (c.requires.0, L.invariant.2.ready, c.requires.1.set_long, omega (arith, c.loop-i-test.true, r.fit, c.end_arriving-end.ensures), c.requires.1.near)

pub loop-i-preserved : goal.loop-i-preserved
loop-i-preserved c =
    let a = c.args in
    let L = c.loop-i in
    let r = walk-run a.a.size a.vertices.now a.walks.now a.hops.now c.requires.0.valid.tables a.x (vertex-low c.requires.0 c.requires.1.low) in
    let e = c.end_arriving-end.ensures in
    let f = c.first_arriving-i.ensures in
    let t = c.loop-i-test.true in
    let v = c.pass_walk-q in (
      omega (arith, L.invariant.0),
      omega arith,
      passes-walk (tables a.vertices.now a.walks.now a.hops.now a.a) (query a.a) (mode a.hops.now a.a) c.requires.0.valid a.set.now a.marks.now a.x a.d L.i L.invariant.2 (omega (arith, r.fit, e, t)) (r.inside L.i (omega (arith, f, L.invariant.0)) (omega (arith, e, t))) v.ensures.0 v.ensures.1,
      v.auto.table ∙ L.invariant.3,
    )

pub returns : goal.returns
returns c =
    let a = c.args in
    let L = c.loop-i in
    let r = walk-run a.a.size a.vertices.now a.walks.now a.hops.now c.requires.0.valid.tables a.x (vertex-low c.requires.0 c.requires.1.low) in
    let e = c.end_arriving-end.ensures in
    passes-skip (tables a.vertices.now a.walks.now a.hops.now a.a) (query a.a) (mode a.hops.now a.a) c.requires.0.valid a.set.now a.marks.now a.x a.d L.invariant.2 (omega (arith, r.fit, e, L.invariant.1)) (no-walks (tables a.vertices.now a.walks.now a.hops.now a.a) (query a.a) (mode a.hops.now a.a) c.requires.0.valid a.set.now a.marks.now a.x a.d _ (walk_count (tables a.vertices.now a.walks.now a.hops.now a.a)) (omega arith) (λ i g l. r.after i (omega (arith, e, c.loop-i-test.false)) l))
