-- What is lent to a courier's run. Assumes nothing.
use Rattle.std.specs.Prelude.{List, ℕ}
use Rattle.journeys.specs.CourierAnswers.{CourierLent}
use Rattle.intake.specs.Lending.{lent}

-- as to a run, and the list by "from" behind the tables
abbrev pub courier_lent : List ℕ → List ℕ → List ℕ → ℕ → List ℕ → List ℕ → List ℕ → CourierLent
courier_lent v w h size records held settled = record { lent = lent v w h size held settled; records = records }
