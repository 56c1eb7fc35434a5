-- `whole` meets its contract: of a refusal the first line, else all lines. Assumes nothing.
use native.Mathlib.Omega.{arith}
use lib.ListN.{length}
use Rattle.report.specs.Text.{given}
use Rattle.copying.proofs.Copied.{both}
use Rattle.report.proofs.LineLaws.{Room, has_room, as-text, refusal-text, answer-text}
use Rattle.report.proofs.whole.Goals as goal
use Rattle.report.proofs.whole.Goals.{Start}

room : (c : Start) → Room (given c.args.answer c.args.settled.now c.args.parts.now c.args.held.now) (length c.args.out.now)
room c = has_room (given c.args.answer c.args.settled.now c.args.parts.now c.args.held.now) (length c.args.out.now) c.requires

pub answer_line-a-requires : goal.answer_line-a-requires
answer_line-a-requires c = omega (arith, (room (goal.at.answer_line-a-requires c).Start).out)

pub returns-then-answer-ne0 : goal.returns-then-answer-ne0
returns-then-answer-ne0 c =
    as-text (refusal-text (given c.args.answer c.args.settled.now c.args.parts.now c.args.held.now) c.if-answer-ne0.true) c.answer_line-a.ensures.wrote

pub lists-b-requires : goal.lists-b-requires
lists-b-requires c =
    let r = room (goal.at.lists-b-requires c).Start in
    let l = c.answer_line-a in
    (r.settled, r.parts, r.held, omega (arith, r.out, l.ensures.upper_bound, l.auto.out))

pub end_line-requires : goal.end_line-requires
end_line-requires c =
    let r = room (goal.at.end_line-requires c).Start in
    let l = c.answer_line-a in
    let m = c.lists-b in
    omega (arith, r.out, l.ensures.upper_bound, l.auto.out, m.ensures.upper_bound, m.auto.out)

pub returns : goal.returns
returns c =
    let r = room (goal.at.returns c).Start in
    let l = c.answer_line-a in
    let m = c.lists-b in
    let e = c.end_line in
    let b = both (omega (arith, r.out, l.ensures.upper_bound)) l.ensures.wrote m.ensures.wrote in
    as-text (answer-text (given c.args.answer c.args.settled.now c.args.parts.now c.args.held.now) c.if-answer-ne0.false) (both (omega (arith, r.out, l.ensures.upper_bound, m.ensures.upper_bound)) b e.ensures.wrote)
