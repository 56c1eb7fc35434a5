-- Two queries that differ in the duration alone. Assumes nothing.
use Rattle.std.specs.Prelude.{◌≡◌, ℕ, ◌≤◌}
use Rattle.journeys.specs.Query.{Query}

-- the query with another duration
abbrev pub during : Query → ℕ → Query
during Q seconds = record { walk = Q.walk; offset = Q.offset; arrival = Q.arrival; duration = seconds; speed = Q.speed }

-- the second query is the first with as much time or more
pub record Longer (Q Q' : Query) : Type 0 where
  pub only : Q' ≡ during Q Q'.duration
  pub more : Q.duration ≤ Q'.duration
