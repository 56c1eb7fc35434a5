-- A run, and the parts operation that gets the run's own list. Assumes nothing.
use Rattle.std.specs.Prelude.{List, ℕ, ◌/◌, ◌≤◌, ◌<◌, length}
use Rattle.journeys.specs.Query.{Query}
use Rattle.journeys.specs.Order.{Settled}
use Rattle.journeys.specs.Answers.{Lent, Answer}
use Rattle.journeys.specs.PartAnswers.{PartsLent}
use Rattle.journeys.specs.OneRun.{own_list, parts_after}
use Rattle.covering.specs.Lending.{parts_lent}

-- the tables of the run, its own list, and a part buffer
abbrev pub handed : Lent → Answer → List ℕ → PartsLent
handed b a parts = parts_lent b.vertices b.walks b.hops b.hop_size (own_list a) parts

-- the one run of RULES 11.7 has room for its parts after step j; and the first of the steps 0 to k after which it has not
module _ (b : Lent) (parts : List ℕ) (Q : Query) (l : List Settled) where
  abbrev pub PartsFit : ℕ → Type 0
  PartsFit j = length (parts_after b parts Q l j) ≤ length parts / 12

  pub record FirstShort (k j : ℕ) : Type 0 where
    pub made : j ≤ k
    pub short : ¬ PartsFit j
    pub before : (i : ℕ) → i < j → PartsFit i
