-- `ride_opening::seeds` meets its contract: both seeds are offered to an empty map. Assumes nothing.
use mathlib.Core.Path.{sym, ap, ◌∙◌}
use mathlib.Core.Bool.{not}
use native.Mathlib.Omega.{arith}
use Rattle.marking.specs.Setting.{query}
use Rattle.ride_opening.proofs.SeedFigures.{empty-ready, road-fits, ticks-small, ends_low, seeded-one, seeded-both}
use Rattle.ride_opening.proofs.seeds.Goals as goal

pub read_road-road-requires : goal.read_road-road-requires
read_road-road-requires c =
    let a = c.args in
    road-fits a.a.size a.vertices.now a.walks.now a.hops.now (query a.a) c.requires.0.valid

pub walk_at-e-requires : goal.walk_at-e-requires
walk_at-e-requires c =
    let a = c.args in
    (road-fits a.a.size a.vertices.now a.walks.now a.hops.now (query a.a) c.requires.0.valid).0

pub from_ticks-near-requires : goal.from_ticks-near-requires
from_ticks-near-requires c =
    let a = c.args in
    (ticks-small a.a.size a.vertices.now a.walks.now a.hops.now (query a.a) c.requires.0.valid _ c.read_road-road.ensures).0

pub improve-one-requires : goal.improve-one-requires
improve-one-requires c =
    let a = c.args in
    let road = c.read_road-road.ensures in
    let start = c.start-empty.ensures in (
      empty-ready start.0 start.1 c.requires.1,
      (ends_low a.a.size a.vertices.now a.walks.now a.hops.now (query a.a) c.requires.0.valid _ road _ c.walk_at-e.ensures).0,
      omega (arith, (ticks-small a.a.size a.vertices.now a.walks.now a.hops.now (query a.a) c.requires.0.valid _ road).0, c.from_ticks-near.ensures),
    )

pub returns-then-not-to_is_seed : goal.returns-then-not-to_is_seed
returns-then-not-to_is_seed c =
    let a = c.args in
    seeded-one a.a.size a.vertices.now a.walks.now a.hops.now (query a.a) c.requires.0.valid _ c.read_road-road.ensures _ c.walk_at-e.ensures
    c.start-empty.ensures.0 _ c.from_ticks-near.ensures c.improve-one.ensures (sym (ap not c.to_is_seed.ensures) ∙ c.if-not-to_is_seed.true-raw)

pub to_ticks-back-requires : goal.to_ticks-back-requires
to_ticks-back-requires c =
    let a = c.args in
    (ticks-small a.a.size a.vertices.now a.walks.now a.hops.now (query a.a) c.requires.0.valid _ c.read_road-road.ensures).1

pub improve-requires : goal.improve-requires
improve-requires c =
    let a = c.args in
    let road = c.read_road-road.ensures in (
      c.improve-one.ensures.ready,
      (ends_low a.a.size a.vertices.now a.walks.now a.hops.now (query a.a) c.requires.0.valid _ road _ c.walk_at-e.ensures).1,
      omega (arith, (ticks-small a.a.size a.vertices.now a.walks.now a.hops.now (query a.a) c.requires.0.valid _ road).1, c.to_ticks-back.ensures),
    )

pub returns : goal.returns
returns c =
    let a = c.args in
    seeded-both a.a.size a.vertices.now a.walks.now a.hops.now (query a.a) c.requires.0.valid _ c.read_road-road.ensures _ c.walk_at-e.ensures
    c.start-empty.ensures.0 _ c.from_ticks-near.ensures c.improve-one.ensures (sym (ap not c.to_is_seed.ensures) ∙ c.if-not-to_is_seed.false-raw) _ c.to_ticks-back.ensures c.improve.ensures
