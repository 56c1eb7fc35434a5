-- `number` meets its contract: the digits that `io` writes are the decimal number. Assumes nothing.
use mathlib.Core.Path.{◌∙◌}
use Rattle.report.proofs.Decimal.{decimal-is}
use Rattle.report.proofs.number.Goals as goal

pub put-requires : goal.put-requires
put-requires c =
    let d = c.decimal-k in
    rw (d.ensures.digits ∙ decimal-is c.args.x d.result c.ranges.x.fits d.ensures.len) c.requires

pub returns : goal.returns
returns c =
    let d = c.decimal-k in
    rw (d.ensures.digits ∙ decimal-is c.args.x d.result c.ranges.x.fits d.ensures.len) at c.put.ensures
