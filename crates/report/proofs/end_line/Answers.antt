-- `end_line` meets its contract: a word, four fields and LF, one behind the other. Assumes nothing.
use native.Mathlib.Omega.{arith}
use mathlib.Core.Path.{ap, ◌∙◌}
use mathlib.Core.List.{List, ◌++◌, append_assoc}
use Rattle.copying.proofs.Copied.{both}
use Prim.Native.Nat.{ℕ}
use Rattle.report.specs.Text.{field, end_word}
use Rattle.report.proofs.LineLaws.{as-text, line-is, four-fields}
use Rattle.report.proofs.end_line.Goals as goal

pub returns : goal.returns
returns c =
    let p = c.put-a in
    let q = c.pair-b in
    let r = c.pair-d in
    let n = c.newline in
    let a = both (omega (arith, p.ensures.next, c.requires)) p.ensures q.ensures.wrote in
    let b = both (omega (arith, p.ensures.next, q.ensures.upper_bound, c.requires)) a r.ensures.wrote in
    let d = as-text (append_assoc end_word (field c.args.settled ++ field c.args.parts) (field c.args.held ++ field c.args.finished) ∙ ap (λ (l : List ℕ). end_word ++ l) (four-fields c.args.settled c.args.parts c.args.held c.args.finished)) b in record {
      wrote = as-text (line-is end_word _) (both (omega (arith, p.ensures.next, q.ensures.upper_bound, r.ensures.upper_bound, c.requires)) d n.ensures);
      upper_bound = omega (arith, p.ensures.next, q.ensures.upper_bound, r.ensures.upper_bound, n.ensures.next);
    }
