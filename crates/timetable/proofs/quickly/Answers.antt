use native.Mathlib.Omega.{arith}
use mathlib.Core.Path.{sym, ap, ◌∙◌}
use lib.Seq.{length-take-le}
use Rattle.journeys.specs.Counting.{none}
use Rattle.journeys.specs.Refusals.{Refusal}
use Rattle.lines.proofs.Passes.{stop-within}
use Rattle.headings.proofs.OpenedLaws.{opened}
use Rattle.vetting.proofs.VettedLaws.{ids-fine, fit-known}
use Rattle.timetable.specs.Lent.{feed_of}
use Rattle.timetable.proofs.FaultLaws.{opening_of, fitted, passed}
use Rattle.timetable.proofs.quickly.Goals as goal

pub slice_bounds-columns_of-end : goal.slice_bounds-columns_of-end
slice_bounds-columns_of-end c =
    sym (length-take-le _ _ (stop-within c.args.text.now 0 c.args.stop 0 (omega arith) c.requires.target_value.1).1)

pub all_fit-requires : goal.all_fit-requires
all_fit-requires c =
    let a = c.args in
    let p = c.requires.target_value in
    let w = opening_of a.text.now a.stops.now a.trips.now a.stop a.from p.1 p.2 p.3 in
    let o = opened a.text.now a.stop a.from p.1 p.2 c.columns_of-c.result w.columns c.columns_of-c.ensures in record {
      inside = (o.inside, o.within);
      stops_good = ids-fine 65535 a.stops.now w.stops-none;
      trips_good = ids-fine none a.trips.now w.trips-none;
    }

pub passed-requires : goal.passed-requires
passed-requires c =
    let a = c.args in
    let p = c.requires.target_value in
    let F = feed_of a.text.now a.stops.now a.trips.now a.target.now in
    let w = opening_of a.text.now a.stops.now a.trips.now a.stop a.from p.1 p.2 p.3 in
    let o = opened a.text.now a.stop a.from p.1 p.2 c.columns_of-c.result w.columns c.columns_of-c.ensures in
    let e = sym c.all_fit.ensures ∙ c.if-all_fit.true in
    let v = fitted a.text.now a.stops.now a.trips.now a.from c.columns_of-c.result o w e in
    let k = ap (λ (r : Refusal). r.number) (fit-known a.text.now a.from c.columns_of-c.result o a.stops.now a.trips.now e) in
    record { target_value = (p.0, passed F p.0 v k, o) }
