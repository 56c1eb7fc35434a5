-- What a run with a boarding time is asked, in the numbers that its functions have. Assumes nothing.
use Rattle.std.specs.Prelude.{◌≡◌, List, ℕ, ◌≤◌}
use Rattle.journeys.specs.Tables.{Tables, tables_of}
use Rattle.journeys.specs.Query as queries
use Rattle.journeys.specs.Valid.{Valid}
use Rattle.records.specs.Asked.{query_of}
use Rattle.boarding.specs.Rides.{Mode, trip_at}
use Rattle.marking.specs.declared.Asked.{Asked}

abbrev pub tables : List ℕ → List ℕ → List ℕ → Asked → Tables
tables v w h a = tables_of a.size v w h

abbrev pub query : Asked → queries.Query
query a = query_of a.query

abbrev pub mode : List ℕ → Asked → Mode
mode h a = record { trip = trip_at a.size h; boarding = a.boarding }

-- nothing of it is refused, and `allowed` is D
pub record Judged (v w h : List ℕ) (a : Asked) : Type 0 where
  pub valid : Valid (tables v w h a) (query a)
  pub wide : 16 ≤ a.size
  pub boarding : a.boarding ≤ 600
  pub allowed : a.allowed ≡ queries.allowed (query a)
