-- `fault_line` meets its contract: with room the line, else nothing. Assumes nothing.
use native.Mathlib.Omega.{arith}
use lib.ListN.{length}
use Rattle.report.specs.Text.{fault_in}
use Rattle.copying.proofs.Copied.{both}
use Rattle.report.proofs.Shown.{text-shown, none-shown}
use Rattle.report.proofs.Decimal.{length-64}
use Rattle.report.proofs.LineLaws.{as-text, fault-is, fault-fits, fault-lacks}
use Rattle.report.proofs.fault_line.Goals as goal

pub returns-then-out-lt25 : goal.returns-then-out-lt25
returns-then-out-lt25 c =
    let d = c.args.out.now in
    let all = none-shown d (fault_in c.args.n (length d)) (fault-lacks c.args.n (length d) c.if-out-lt25.true) in record { out_after = all.0; value = all.1.0; prefix_len = all.1.1 }

pub number-b-requires : goal.number-b-requires
number-b-requires c =
    let p = c.put-a in
    omega (arith, length-64 c.args.n c.ranges.n.fits, p.ensures.next, p.auto.out)

pub newline-requires : goal.newline-requires
newline-requires c =
    let p = c.put-a in
    let q = c.number-b in
    omega (arith, length-64 c.args.n c.ranges.n.fits, p.ensures.next, p.auto.out, q.ensures.next, q.auto.out)

pub returns : goal.returns
returns c =
    let d = c.args.out.now in
    let p = c.put-a in
    let q = c.number-b in
    let n = c.newline in
    let l = c.if-out-lt25.false in
    let most = length-64 c.args.n c.ranges.n.fits in
    let b = both (omega (arith, p.ensures.next, l)) p.ensures q.ensures in
    let w = both (omega (arith, most, p.ensures.next, q.ensures.next, l)) b n.ensures in
    let all = text-shown (fault_in c.args.n (length d)) (fault-fits c.args.n (length d) l) (as-text (fault-is c.args.n) w) in record { out_after = all.0; value = all.1.0; prefix_len = all.1.1 }
