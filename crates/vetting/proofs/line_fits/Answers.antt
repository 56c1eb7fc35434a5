use native.Mathlib.Omega.{arith}
use mathlib.Core.Path.{sym, ◌∙◌}
use Rattle.journeys.specs.Counting.{none}
use Rattle.rows.proofs.Picks.{nowhere-uncounted, fits-counted, trip-placed, arrival-placed, departure-placed, stop-placed, sequence-placed}
use Rattle.stops.proofs.StopLines.{long, other-count}
use Rattle.vetting.proofs.FitLaws.{not-timely, no_stop_lem, by-trip, found-is, found_none, found_some}
use Rattle.vetting.proofs.line_fits.Goals as goal

pub returns-in_default : goal.returns-in_default
returns-in_default c = sym (not-timely _ _ _ _ (other-count _ _ _ _ _ (nowhere-uncounted _ _ _ _ _ _ _ c.in_default.ensures)))

pub timely-requires : goal.timely-requires
timely-requires c =
    let i = c.requires.inside in
    let e = c.in-Some.ensures in record {
      arrival_lt_count = (i.arrival, i.departure, i.sequence, fits-counted _ _ _ _ _ _ _ e);
      first_value = (arrival-placed _ _ _ _ _ _ _ e, departure-placed _ _ _ _ _ _ _ e, sequence-placed _ _ _ _ _ _ _ e);
    }

pub returns-then-not-timely : goal.returns-then-not-timely
returns-then-not-timely c = sym (not-timely _ _ _ _ (sym c.if-not-timely.ensures))

pub listed_from-requires : goal.listed_from-requires
listed_from-requires c =
    let e = c.in-Some.ensures in
    let many = long c.args.c.count 0 0 0 c.args.line.now (fits-counted _ _ _ _ _ _ _ e) in
    (omega (arith, many, c.requires.inside.stop), stop-placed _ _ _ _ _ _ _ e)

pub returns-then-listed_from-eq0 : goal.returns-then-listed_from-eq0
returns-then-listed_from-eq0 c =
    let many = long c.args.c.count 0 0 0 c.args.line.now (fits-counted _ _ _ _ _ _ _ c.in-Some.ensures) in
    sym (no_stop_lem c.args.c c.args.stops.now c.args.trips.now c.args.line.now (sym c.if-not-timely.ensures)
    (found_none 65535 _ _ _ c.requires.stops_good (omega (arith, many, c.requires.inside.stop)) c.listed_from.ensures c.if-listed_from-eq0.true))

pub listed_from-requires-2 : goal.listed_from-requires-2
listed_from-requires-2 c =
    let e = c.in-Some.ensures in
    let many = long c.args.c.count 0 0 0 c.args.line.now (fits-counted _ _ _ _ _ _ _ e) in
    (omega (arith, many, c.requires.inside.trip), trip-placed _ _ _ _ _ _ _ e)

pub returns : goal.returns
returns c =
    let many = long c.args.c.count 0 0 0 c.args.line.now (fits-counted _ _ _ _ _ _ _ c.in-Some.ensures) in
    sym (by-trip c.args.c c.args.stops.now c.args.trips.now c.args.line.now (sym c.if-not-timely.ensures)
    (found_some 65535 _ _ _ c.requires.stops_good (omega (arith, many, c.requires.inside.stop)) c.listed_from.ensures c.if-listed_from-eq0.false)
    ∙ found-is none _ _ _ c.requires.trips_good (omega (arith, many, c.requires.inside.trip)) c.listed_from-2.ensures)
