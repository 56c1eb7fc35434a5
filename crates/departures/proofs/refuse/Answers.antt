-- `refuse`: a refusal leaves nothing.
use mathlib.Core.Path.{refl}
use Rattle.journeys.specs.Bytes.{cleared}
use borrow.Author.Rules.{rules}
use Rattle.departures.proofs.refuse.Goals as goal

pub returns : goal.returns
unfolding cleared
returns g c = (refl, refl, (c.fill.ensures.after (λ y e. search rules)), refl)
