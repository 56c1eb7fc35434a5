-- Waits at crossings: the table of specs/Waits under one statement. Assumes nothing.
use mathlib.Core.Path.{◌≡◌, refl}
use mathlib.Core.Bool.{true}
use Rattle.journeys.specs.Counting.{In}
use Rattle.journeys.specs.Answers.{Answer, Allowed}
use Rattle.journeys.specs.PartAnswers.{parts_answer}
use Rattle.journeys.specs.OneRun.{own_list}
use Rattle.journeys.specs.Marked.{Case, parts_over}
use Rattle.journeys.specs.Limits.{changed}
use Rattle.journeys.specs.Waits.{wait_limits, wait_seeds, wait_walks, wait_parts, waits}
use Rattle.journeys.proofs.Cases.{tested, cases-hold}

table : tested waits ≡ true
unfolding tested changed wait_limits wait_seeds wait_walks wait_parts waits
table = refl

-- In each row, whatever answer the definitions allow, with the parts of its own list, shows what the row says.
pub wait-cases : (c : Case) → In c waits → (a : Answer) → Allowed c.lent c.query c.limit a
    → c.view a (parts_answer (parts_over c.lent (own_list a) c.parts) c.query) ≡ c.want
wait-cases = cases-hold waits table
