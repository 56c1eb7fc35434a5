use native.Mathlib.Omega.{arith}
use mathlib.Core.Path.{refl, sym, ◌∙◌}
use Rattle.lines.proofs.Passes.{stop-within, next-within, next-later}
use Rattle.stoplist.specs.Made.{entry_good}
use Rattle.vetting.proofs.FitLaws.{fit-over, fit-good, fit-bad}
use Rattle.vetting.proofs.all_fit.Goals as goal

pub part_fits-requires : goal.part_fits-requires
part_fits-requires c =
    let w = stop-within c.args.text.now c.loop-at.at c.line_stop-stop.result 0 c.loop-at.invariant.0 c.line_stop-stop.ensures in
    record {
      inside = (c.requires.inside.0, w.0, w.1);
      stops_good = c.requires.stops_good;
      trips_good = c.requires.trips_good;
    }

pub returns-then-not-part_fits : goal.returns-then-not-part_fits
returns-then-not-part_fits c =
    let a = c.args in
    sym (fit-bad (entry_good a.c a.stops.now a.trips.now) a.text.now c.loop-at.at c.line_stop-stop.result _ c.loop-at-test.true c.line_stop-stop.ensures refl (sym c.if-not-part_fits.ensures))
    ∙ c.loop-at.invariant.1

pub line_next-at-requires : goal.line_next-at-requires
line_next-at-requires c =
    (stop-within c.args.text.now c.loop-at.at c.line_stop-stop.result 0 c.loop-at.invariant.0 c.line_stop-stop.ensures).1

pub loop-at-smaller : goal.loop-at-smaller
loop-at-smaller c =
    let t = c.loop-at-test.true in
    let later = next-later c.args.text.now c.loop-at.at c.line_stop-stop.result c.line_next-at.result c.loop-at.invariant.0 c.line_stop-stop.ensures t c.line_next-at.ensures in
    omega (arith, later, t)

pub loop-at-preserved : goal.loop-at-preserved
loop-at-preserved c =
    let a = c.args in
    let at = c.loop-at.at in
    let t = c.loop-at-test.true in
    let s = c.line_stop-stop.ensures in
    let n = c.line_next-at.ensures in (
      (next-within a.text.now at c.line_stop-stop.result c.line_next-at.result c.loop-at.invariant.0 s n).1,
      sym (fit-good (entry_good a.c a.stops.now a.trips.now) a.text.now at c.line_stop-stop.result c.line_next-at.result t s n (sym c.if-not-part_fits.ensures)) ∙ c.loop-at.invariant.1,
    )

pub returns : goal.returns
returns c = sym (fit-over _ _ _ c.loop-at-test.false) ∙ c.loop-at.invariant.1
