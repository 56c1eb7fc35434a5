use native.Mathlib.Omega.{arith}
use mathlib.Core.Path.{refl, sym, ap, ◌∙◌}
use lib.ListN.{drop}
use Rattle.feed.specs.Lines.{lines_of, first_bad_line}
use Rattle.lines.proofs.Passes.{place_is, next_place, pass-over, pass-good, pass-bad, stop-within, next-within, next-later}
use Rattle.known.specs.Counted.{counted, id_known}
use Rattle.known.proofs.Lookups.{good-here, good-on}
use Rattle.known.proofs.unlisted.Goals as goal

pub part_known-requires : goal.part_known-requires
part_known-requires c =
    let a = c.args in
    let s = c.line_stop-stop.ensures in record {
      list_good = c.requires.list_good;
      at_le_stop = stop-within a.text.now c.loop-at.at c.line_stop-stop.result 0 c.loop-at.invariant.0 s;
      text_value = good-here 13 (counted a.count) a.text.now c.loop-at.line c.loop-at.at c.line_stop-stop.result _ c.loop-at-test.true s refl refl c.loop-at.invariant.2;
    }

pub returns-then-not-part_known : goal.returns-then-not-part_known
returns-then-not-part_known c =
    let a = c.args in
    c.refused.ensures.told ∙ ap (λ n. record { number = 14; place = n }) (sym (place_is _ c.loop-at.invariant.1))
    ∙ sym (pass-bad 14 (id_known a.list.now a.k) a.text.now c.loop-at.line c.loop-at.at c.line_stop-stop.result _ c.loop-at-test.true c.line_stop-stop.ensures refl refl (sym c.if-not-part_known.ensures))
    ∙ c.loop-at.invariant.3

pub line_next-at-requires : goal.line_next-at-requires
line_next-at-requires c =
    (stop-within c.args.text.now c.loop-at.at c.line_stop-stop.result 0 c.loop-at.invariant.0 c.line_stop-stop.ensures).1

pub loop-at-smaller : goal.loop-at-smaller
loop-at-smaller c =
    let t = c.loop-at-test.true in
    let later = next-later c.args.text.now c.loop-at.at c.line_stop-stop.result c.line_next-at.result c.loop-at.invariant.0 c.line_stop-stop.ensures t c.line_next-at.ensures in
    omega (arith, later, t)

pub loop-at-preserved : goal.loop-at-preserved
loop-at-preserved c =
    let a = c.args in
    let text = a.text.now in
    let at = c.loop-at.at in
    let l = c.loop-at.line in
    let t = c.loop-at-test.true in
    let s = c.line_stop-stop.ensures in
    let n = c.line_next-at.ensures in
    let rest = lines_of (drop c.line_next-at.result text) in
    let known14 = id_known a.list.now a.k in (
      (next-within text at c.line_stop-stop.result c.line_next-at.result c.loop-at.invariant.0 s n).1,
      omega (arith, c.next_number-line.ensures),
      ap (λ i. first_bad_line 13 (counted a.count) i rest) c.next_number-line.ensures ∙ sym (next_place 13 (counted a.count) l rest c.loop-at.invariant.1) ∙ good-on 13 (counted a.count) text l at c.line_stop-stop.result c.line_next-at.result t s n refl c.loop-at.invariant.2,
      ap (λ i. first_bad_line 14 known14 i rest) c.next_number-line.ensures ∙ sym (next_place 14 known14 l rest c.loop-at.invariant.1)
          ∙ sym (pass-good 14 known14 text l at c.line_stop-stop.result c.line_next-at.result t s n (sym c.if-not-part_known.ensures)) ∙ c.loop-at.invariant.3,
    )

pub returns : goal.returns
returns c = sym (pass-over 14 _ _ _ _ c.loop-at-test.false) ∙ c.loop-at.invariant.3
