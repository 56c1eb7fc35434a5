-- `answer_line` meets its contract: a word, two fields and LF, one behind the other. Assumes nothing.
use native.Mathlib.Omega.{arith}
use mathlib.Core.Path.{ap, ◌∙◌}
use Rattle.copying.proofs.Copied.{both}
use Rattle.report.specs.Text.{line, answer_word}
use Rattle.report.proofs.LineLaws.{as-text, line-is, two_fields}
use Rattle.report.proofs.answer_line.Goals as goal

pub returns : goal.returns
returns c =
    let p = c.put-a in
    let q = c.pair-b in
    let n = c.newline in
    let e = ap (line answer_word) (two_fields c.args.refusal c.args.place) in
    let a = both (omega (arith, p.ensures.next, c.requires)) p.ensures q.ensures.wrote in record {
      wrote = as-text (line-is answer_word _ ∙ e) (both (omega (arith, p.ensures.next, q.ensures.upper_bound, c.requires)) a n.ensures);
      upper_bound = omega (arith, p.ensures.next, q.ensures.upper_bound, n.ensures.next);
    }
