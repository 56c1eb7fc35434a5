-- `pair` meets its contract: two fields, one behind the other. Assumes nothing.
use native.Mathlib.Omega.{arith}
use Rattle.copying.proofs.Copied.{both}
use Rattle.report.proofs.pair.Goals as goal

pub returns : goal.returns
returns c =
    let p = c.field-next in
    let q = c.field in record {
      wrote = both (omega (arith, p.ensures.upper_bound, c.requires)) p.ensures.wrote q.ensures.wrote;
      upper_bound = omega (arith, p.ensures.upper_bound, q.ensures.upper_bound);
    }
