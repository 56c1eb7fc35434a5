use native.Mathlib.Omega.{arith}
use mathlib.Core.Path.{refl, sym, ap, ◌∙◌}
use lib.ListN.{drop}
use Rattle.feed.specs.Lines.{lines_of, first_bad_line}
use Rattle.stops.specs.StopLines.{line_good}
use Rattle.lines.proofs.Passes.{place_is, next_place, pass-over, pass-good, pass-bad, stop-within, next-within, next-later}
use Rattle.stops.proofs.lines_fault.Goals as goal

pub line_good-requires : goal.line_good-requires
line_good-requires c = record {
  at_le_stop = stop-within c.args.text.now c.loop-at.at c.line_stop-stop.result 0 c.loop-at.invariant.0 c.line_stop-stop.ensures;
  arrival_lt_count = c.requires.arrival_lt_count;
}

pub returns-then-not-line_good : goal.returns-then-not-line_good
returns-then-not-line_good c = c.refused.ensures.told ∙ ap (λ n. record { number = 13; place = n }) (sym (place_is _ c.loop-at.invariant.1)) ∙ sym (pass-bad 13 (line_good c.args.count c.args.arrival c.args.departure c.args.sequence) c.args.text.now c.loop-at.line c.loop-at.at c.line_stop-stop.result _ (omega arith) c.line_stop-stop.ensures refl refl (sym c.if-not-line_good.ensures)) ∙ c.loop-at.invariant.2

pub line_next-at-requires : goal.line_next-at-requires
line_next-at-requires c = (stop-within c.args.text.now c.loop-at.at c.line_stop-stop.result 0 c.loop-at.invariant.0 c.line_stop-stop.ensures).1

pub loop-at-smaller : goal.loop-at-smaller
loop-at-smaller c = let later = next-later c.args.text.now c.loop-at.at c.line_stop-stop.result c.line_next-at.result c.loop-at.invariant.0 c.line_stop-stop.ensures (omega arith) c.line_next-at.ensures in omega arith

pub loop-at-preserved : goal.loop-at-preserved
loop-at-preserved c = ((next-within c.args.text.now c.loop-at.at c.line_stop-stop.result c.line_next-at.result c.loop-at.invariant.0 c.line_stop-stop.ensures c.line_next-at.ensures).1, omega arith, ap (λ n. first_bad_line 13 (line_good c.args.count c.args.arrival c.args.departure c.args.sequence) n (lines_of (drop c.line_next-at.result c.args.text.now))) c.next_number-line.ensures ∙ sym (next_place 13 (line_good c.args.count c.args.arrival c.args.departure c.args.sequence) c.loop-at.line (lines_of (drop c.line_next-at.result c.args.text.now)) c.loop-at.invariant.1) ∙ sym (pass-good 13 (line_good c.args.count c.args.arrival c.args.departure c.args.sequence) c.args.text.now c.loop-at.line c.loop-at.at c.line_stop-stop.result c.line_next-at.result (omega arith) c.line_stop-stop.ensures c.line_next-at.ensures (sym c.if-not-line_good.ensures)) ∙ c.loop-at.invariant.2)

pub returns : goal.returns
returns c = sym (pass-over 13 _ _ _ _ c.loop-at-test.false) ∙ c.loop-at.invariant.2
