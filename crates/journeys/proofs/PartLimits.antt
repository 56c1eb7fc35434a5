-- The parts operation at the limits of its list and of its room: the table of specs/PartLimits under one statement. Assumes nothing.
use mathlib.Core.Path.{◌≡◌, refl}
use mathlib.Core.Bool.{true}
use Rattle.journeys.specs.Counting.{In}
use Rattle.journeys.specs.PartAnswers.{parts_answer}
use Rattle.journeys.specs.Limits.{changed}
use Rattle.journeys.specs.PartLimits.{PartsCase, whole, part_limits}
use Rattle.journeys.proofs.Cases.{tested, parts_tested, parts-hold}

table : parts_tested part_limits ≡ true
unfolding tested parts_tested changed part_limits
table = refl

-- In each row the answer is what the row says, in every byte.
pub part-limit-cases : (c : PartsCase) → In c part_limits → whole (parts_answer c.lent c.query) ≡ c.want
part-limit-cases = parts-hold part_limits table
