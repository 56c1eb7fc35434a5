-- `lists` meets its contract: three runs of lines, one behind the other. Assumes nothing.
use native.Mathlib.Omega.{arith}
use Rattle.copying.proofs.Copied.{both}
use Rattle.report.proofs.LineLaws.{as-text, three-lists}
use Rattle.report.proofs.lists.Goals as goal

pub returns : goal.returns
returns c =
    let a = c.args in
    let v = c.lines-a in
    let p = c.lines-b in
    let h = c.lines in
    let b = both (omega (arith, v.ensures.upper_bound, c.requires.3)) v.ensures.wrote p.ensures.wrote in
    let w = both (omega (arith, v.ensures.upper_bound, p.ensures.upper_bound, c.requires.3)) b h.ensures.wrote in record {
      wrote = as-text (three-lists a.s a.p a.h a.settled.now a.parts.now a.held.now) w;
      upper_bound = omega (arith, v.ensures.upper_bound, p.ensures.upper_bound, h.ensures.upper_bound);
    }
