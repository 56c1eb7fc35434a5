use native.Mathlib.Omega.{arith}
use mathlib.Core.Path.{◌∙◌}
use Rattle.lines.proofs.Passes.{stop-within}
use Rattle.spelling.proofs.SpellLaws.{line-good, number-there}
use Rattle.spelling.proofs.number_at.Goals as goal

pub number_between-requires : goal.number_between-requires
number_between-requires c =
    let a = c.args in
    let s = c.line_stop-stop.ensures in
    let w = stop-within a.list.now a.place c.line_stop-stop.result 0 (omega (arith, c.requires.0)) s in
    (w.0, w.1, line-good _ _ _ s c.requires.1)

pub returns : goal.returns
returns c = c.number_between.ensures ∙ number-there _ _ _ c.line_stop-stop.ensures
