-- Rides of no minutes: the table of specs/Moments under one statement. Assumes nothing.
use mathlib.Core.Path.{◌≡◌, refl}
use mathlib.Core.Bool.{true}
use Rattle.journeys.specs.Counting.{In}
use Rattle.journeys.specs.Answers.{Answer, Allowed}
use Rattle.journeys.specs.PartAnswers.{parts_answer}
use Rattle.journeys.specs.OneRun.{own_list}
use Rattle.journeys.specs.Marked.{Case, parts_over}
use Rattle.journeys.specs.Moments.{chain, circles, ties, moments}
use Rattle.journeys.proofs.Cases.{tested, cases-hold}

table : tested moments ≡ true
unfolding tested chain circles ties moments
table = refl

-- In each row, whatever answer the definitions allow, with the parts of its own list, shows what the row says.
pub moment-cases : (c : Case) → In c moments → (a : Answer) → Allowed c.lent c.query c.limit a
    → c.view a (parts_answer (parts_over c.lent (own_list a) c.parts) c.query) ≡ c.want
moment-cases = cases-hold moments table
