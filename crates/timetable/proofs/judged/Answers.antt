use mathlib.Core.Path.{sym, ap, ◌∙◌}
use native.Mathlib.Omega.{arith}
use lib.Seq.{length-take-le}
use Rattle.lines.proofs.Passes.{stop-within}
use Rattle.headings.proofs.OpenedLaws.{opened}
use Rattle.timetable.specs.Lent.{feed_of}
use Rattle.timetable.proofs.FaultLaws.{vetted, id-refused, passed}
use Rattle.words.specs.Told.{told}
use Rattle.words.proofs.Chains.{refuses, passes}
use Rattle.timetable.proofs.judged.Goals as goal

pub line_next-from-requires : goal.line_next-from-requires
line_next-from-requires c =
    (stop-within c.args.text.now 0 c.line_stop-stop.result 0 (omega arith) c.line_stop-stop.ensures).1

pub slice_bounds-columns_of-end : goal.slice_bounds-columns_of-end
slice_bounds-columns_of-end c =
    sym (length-take-le _ _ (stop-within c.args.text.now 0 c.line_stop-stop.result 0 (omega arith) c.line_stop-stop.ensures).1)

pub unknown-requires : goal.unknown-requires
unknown-requires c =
    let v = vetted c.args.text.now c.args.stops.now c.args.trips.now c.requires.target_value.1 in
    let o = opened c.args.text.now c.line_stop-stop.result c.line_next-from.result c.line_stop-stop.ensures c.line_next-from.ensures c.columns_of-c.result v.columns c.columns_of-c.ensures in record {
      opened = (o, v.lines-fine);
      stops_good = v.stops-fine;
      trips_good = v.trips-fine;
    }

pub returns-in-Err : goal.returns-in-Err
returns-in-Err c =
    let v = vetted c.args.text.now c.args.stops.now c.args.trips.now c.requires.target_value.1 in
    let F = feed_of c.args.text.now c.args.stops.now c.args.trips.now c.args.target.now in
    id-refused F c.requires.target_value.0 v c.refuse.result _ (refuses c.in-Err.is c.unknown.ensures)
    (c.refuse.ensures.0 ∙ sym (ap told c.in-Err.is) ∙ c.unknown.ensures) c.refuse.ensures.1 c.refuse.ensures.2

pub passed-requires : goal.passed-requires
passed-requires c =
    let v = vetted c.args.text.now c.args.stops.now c.args.trips.now c.requires.target_value.1 in
    let o = opened c.args.text.now c.line_stop-stop.result c.line_next-from.result c.line_stop-stop.ensures c.line_next-from.ensures c.columns_of-c.result v.columns c.columns_of-c.ensures in
    let F = feed_of c.args.text.now c.args.stops.now c.args.trips.now c.args.target.now in
    let p = passed F c.requires.target_value.0 v (passes c.in_default.is c.unknown.ensures) in
    record { target_value = (c.requires.target_value.0, p, o) }
