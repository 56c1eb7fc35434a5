use mathlib.Core.Path.{ap, ◌∙◌}
use mathlib.Core.Bool.{Bool, not}
use Rattle.journeys.specs.Counting.{one}
use Rattle.worktable.proofs.Ones.{as-one}
use Rattle.meeting.proofs.comes.Goals as goal

pub returns : goal.returns
returns c = c.from.ensures ∙ as-one _ ∙ ap (λ (b : Bool). one (not b)) c.hopeless.ensures
