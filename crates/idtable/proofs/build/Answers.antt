use Rattle.std.proofs.Common.{ap, arith, sym, ◌∙◌}
use lib.ListN.{length, replicate}
use Rattle.lines.proofs.Passes.{stop-within, next-within, next-later}
use Rattle.naming.proofs.Places.{next-as, stop_is_lem, no_line}
use Rattle.idtable.proofs.TableLaws.{cleared, holds-none, holds-past, holds_as}
use Rattle.idtable.proofs.build.Goals as goal

pub loop-at-init : goal.loop-at-init
loop-at-init c =
    let long = c.fill.ensures.len in
    (long, omega arith, holds-none (omega (arith, long, c.requires)) (cleared (length c.fill.new.self) c.fill.new.self (c.fill.ensures.after (λ y p. p) ∙ ap (λ n. replicate n 0) (sym long))))

pub line_next-next-requires : goal.line_next-next-requires
line_next-next-requires c = (stop-within c.args.text.now c.loop-at.at c.line_stop-stop.result 0 c.loop-at.invariant.1 c.line_stop-stop.ensures).1

pub graft_part-requires-clause-table_len : goal.graft_part-requires-clause-table_len
graft_part-requires-clause-table_len c =
    let i = c.loop-at.invariant in
    let w = stop-within c.args.text.now c.loop-at.at c.line_stop-stop.result 0 i.1 c.line_stop-stop.ensures in
    (omega (arith, i.0, c.requires), omega (arith, i.0, c.requires), c.if-at-stop.true, w.1, omega (arith, c.if-at-gt4294967294.false))

pub graft_part-requires-clause-stop_value : goal.graft_part-requires-clause-stop_value
graft_part-requires-clause-stop_value c =
    let i = c.loop-at.invariant in
    (stop_is_lem c.args.text.now c.loop-at.at c.line_stop-stop.result 0 i.1 c.line_stop-stop.ensures, i.2)

pub loop-at-preserved-then-at-stop : goal.loop-at-preserved-then-at-stop
loop-at-preserved-then-at-stop c =
    let text = c.args.text.now in
    let i = c.loop-at.invariant in
    let s = c.line_stop-stop.ensures in (
      c.graft_part.auto.table ∙ i.0,
      (next-within text c.loop-at.at c.line_stop-stop.result c.line_next-next.result i.1 s c.line_next-next.ensures).1,
      holds_as c.in-Some.ensures.1 (sym (next-as text c.loop-at.at c.line_stop-stop.result c.line_next-next.result i.1 s c.line_next-next.ensures)),
    )

pub loop-at-smaller : goal.loop-at-smaller
loop-at-smaller c =
    let t = c.loop-at-test.true in
    let later = next-later c.args.text.now c.loop-at.at c.line_stop-stop.result c.line_next-next.result c.loop-at.invariant.1 c.line_stop-stop.ensures t c.line_next-next.ensures in
    omega (arith, later, t)

pub loop-at-preserved : goal.loop-at-preserved
loop-at-preserved c =
    let text = c.args.text.now in
    let i = c.loop-at.invariant in
    let s = c.line_stop-stop.ensures in
    let e = no_line text c.loop-at.at c.line_stop-stop.result 0 i.1 s (omega (arith, c.if-at-stop.false)) in (
      i.0,
      (next-within text c.loop-at.at c.line_stop-stop.result c.line_next-next.result i.1 s c.line_next-next.ensures).1,
      holds_as (holds-past text c.loop-at.at i.2 c.loop-at-test.true e) (sym (next-as text c.loop-at.at c.line_stop-stop.result c.line_next-next.result i.1 s c.line_next-next.ensures)),
    )
