-- `directed::offer_listed` meets its contract; what is brought is none or far below the limit of an entry. Assumes nothing.
use Rattle.directed.proofs.RideFits.{way-fits, ride-distance}
use Rattle.directed.specs.Directed.{listed_of}
use Rattle.journeys.specs.Bytes.{clocked}
use Rattle.journeys.specs.CourierRecords.{offer}
use Rattle.journeys.specs.Tables.{walk_at, hop_at}
use Rattle.worktable.specs.Map.{distance_limit}
use borrow.Author.Tests.{lt-ltb, le-ltb}
use native.Mathlib.Omega.{arith}
use Prim.Native.Nat.{◌+◌, ◌-◌, ◌/◌, ◌<◌}
use lib.ListN.{length}
use mathlib.Core.Logic.{inl}
use Rattle.directed.proofs.offer_listed.Goals as goal
use Rattle.directed.proofs.offer_listed.Goals.{Then-r-row}

walk_low : (c : Then-r-row) → c.number_at-r.result < length c.args.walks.now / 16
walk_low c = omega (arith, c.requires.0.listed.walks, c.if-r-row.true)

pub returns-then-r-row : goal.returns-then-r-row
unfolding offer listed_of walk_at
returns-then-r-row c =
    let d : c.args.row.arriving.distance.0 + c.walk_ticks-way.result.0 < distance_limit = omega (arith, c.requires.0.distance, c.walk_ticks-way.ensures, way-fits c.word_at.result c.args.row.arriving.speed (omega arith) c.requires.0.speed) in
    (rw (c.walk_ticks-way.ensures, c.word_at.ensures, ← c.number_at-r.ensures, lt-ltb _ _ c.if-r-row.true), inl d)

pub returns : goal.returns
unfolding listed_of
returns c =
    let r = c.args.row.arriving in
    let n = c.number_at-r in
    let left = c.if-r-row.false in
    let t = rw (← n.ensures) at (c.requires.0.times c.args.j c.requires.1) in (
      rw (c.ride_offer.ensures, ← n.ensures, le-ltb _ _ left),
      rw c.ride_offer.ensures (ride-distance (hop_at r.size c.args.hops.now (n.result - c.args.row.ways)) (clocked r.arrival.0) r.speed r.distance.0 (t left).arrival c.requires.0.arrival c.requires.0.speed),
    )
