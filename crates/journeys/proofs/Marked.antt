-- The marked cases of RULES 16, proved from the definitions as one table under one statement. Assumes nothing.
use mathlib.Core.Path.{◌≡◌, refl}
use mathlib.Core.Bool.{true}
use Rattle.journeys.specs.Counting.{In}
use Rattle.journeys.specs.Answers.{Answer, Allowed}
use Rattle.journeys.specs.PartAnswers.{parts_answer}
use Rattle.journeys.specs.OneRun.{own_list}
use Rattle.journeys.specs.Marked.{Case, parts_over, marked}
use Rattle.journeys.proofs.Cases.{tested, cases-hold}

table : tested marked ≡ true
unfolding tested marked
table = refl

-- In each marked case, whatever answer the definitions allow, with the parts of its own list, shows what RULES 16 says.
pub marked-cases : (c : Case) → In c marked → (a : Answer) → Allowed c.lent c.query c.limit a
    → c.view a (parts_answer (parts_over c.lent (own_list a) c.parts) c.query) ≡ c.want
marked-cases = cases-hold marked table
