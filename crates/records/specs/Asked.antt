-- The query as it is asked, in the numbers of RULES 5.1. Assumes nothing.
use Rattle.std.specs.Prelude.{ℕ, ℤ}
use Rattle.journeys.specs.Bytes.{clocked}
use Rattle.journeys.specs.Query as query
use Rattle.records.specs.declared.Query.{Query}

-- by its five numbers: a walk record, the offset on it, the arrival in signed seconds, the duration, the speed
abbrev pub query_by : ℕ → ℕ → ℤ → ℕ → ℕ → query.Query
query_by walk offset arrival duration speed = record { walk = walk; offset = offset; arrival = clocked arrival; duration = duration; speed = speed }

-- as the code has it
abbrev pub query_of : Query → query.Query
query_of q = query_by q.walk q.offset.0 q.arrival.0 q.duration q.speed
