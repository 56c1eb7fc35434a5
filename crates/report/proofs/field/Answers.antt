-- `field` meets its contract: a space and at most ten digits. Assumes nothing.
use native.Mathlib.Omega.{arith}
use Rattle.copying.proofs.Copied.{both}
use Rattle.report.proofs.Decimal.{length-32}
use Rattle.report.proofs.LineLaws.{as-text, field_is}
use Rattle.report.proofs.field.Goals as goal

pub number-requires : goal.number-requires
number-requires c =
    let p = c.put-next in
    omega (arith, length-32 c.args.x c.ranges.x.fits, p.ensures.next, p.auto.out, c.requires)

pub returns : goal.returns
returns c =
    let p = c.put-next in
    let q = c.number in record {
      wrote = as-text (field_is c.args.x) (both (omega (arith, p.ensures.next, c.requires)) p.ensures q.ensures);
      upper_bound = omega (arith, length-32 c.args.x c.ranges.x.fits, p.ensures.next, q.ensures.next);
    }
