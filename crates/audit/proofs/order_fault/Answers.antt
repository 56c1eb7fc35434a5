-- `audit::order_fault` meets its contract: each return is the case that its tests pick. Assumes nothing.
use mathlib.Core.Path.{refl, sym, ◌∙◌}
use Rattle.journeys.specs.Refusals.{unless}
use Rattle.journeys.proofs.Refusals.{unless-good, unless-bad}
use Rattle.words.specs.Told.{number_of}
use Rattle.words.proofs.Chains.{stops, goes-on}
use Rattle.audit.proofs.order_fault.Goals as goal

pub returns-in_err-first : goal.returns-in_err-first
returns-in_err-first c = stops _ (unless c.args.ascends (number_of c.args.reason) c.args.i) c.in_err-first.was refl c.from_residual.ensures

pub returns-then-ascends : goal.returns-then-ascends
returns-then-ascends c =
    let a = c.args in
    goes-on c.in_ok-first.was refl (sym (unless-good a.ascends (number_of a.reason) a.i c.if-ascends.true))

pub returns : goal.returns
returns c =
    let a = c.args in
    goes-on c.in_ok-first.was refl (c.refused.ensures.told ∙ sym (unless-bad a.ascends (number_of a.reason) a.i c.if-ascends.false))
