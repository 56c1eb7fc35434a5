use native.Mathlib.Omega.{arith}
use mathlib.Core.Path.{sym, ◌∙◌}
use borrow.Author.Tests.{not-true}
use Rattle.journeys.proofs.Tests.{and_both}
use Rattle.lines.proofs.Passes.{stop-within}
use Rattle.naming.proofs.Places.{line-named}
use Rattle.naming.proofs.Leading.{other-id}
use Rattle.naming.proofs.names_at.Goals as goal

pub returns-then-text-at : goal.returns-then-text-at
returns-then-text-at c =
    let a = c.args in
    let both = and_both _ _ c.if-text-at.true in
    sym (other-id a.text.now a.name.now a.at c.requires (not-true _ both.0) (sym c.goes_on-led.ensures ∙ not-true _ both.1))

pub begins_between-requires : goal.begins_between-requires
begins_between-requires c = let h = c.requires in stop-within _ _ c.line_stop-stop.result 0 (omega (arith, h)) c.line_stop-stop.ensures

pub returns : goal.returns
returns c = c.begins_between.ensures ∙ line-named _ _ _ _ c.line_stop-stop.ensures
