-- `report` meets its contract: with room the whole text, else nothing. Assumes nothing.
use lib.ListN.{length}
use Rattle.report.specs.Text.{given, fits, report}
use Rattle.report.proofs.Shown.{text-shown, none-shown}
use Rattle.report.proofs.LineLaws.{text-fits, text-lacks}
use Rattle.report.proofs.report.Goals as goal

pub whole-requires : goal.whole-requires
unfolding fits
whole-requires c = c.if-room.true

pub returns-then-room : goal.returns-then-room
unfolding fits
returns-then-room c =
    let n = length c.args.out.now in
    let all = text-shown (report (given c.args.answer c.args.settled.now c.args.parts.now c.args.held.now) n) (text-fits (given c.args.answer c.args.settled.now c.args.parts.now c.args.held.now) n c.if-room.true) c.whole.ensures in record { out_after = all.0; value = all.1.0; prefix_len = all.1.1 }

pub returns-else-room : goal.returns-else-room
unfolding fits
returns-else-room c =
    let d = c.args.out.now in
    let all = none-shown d (report (given c.args.answer c.args.settled.now c.args.parts.now c.args.held.now) (length d)) (text-lacks (given c.args.answer c.args.settled.now c.args.parts.now c.args.held.now) (length d) c.if-room.false) in record { out_after = all.0; value = all.1.0; prefix_len = all.1.1 }
