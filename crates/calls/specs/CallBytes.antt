-- A query and an answer in 24 bytes each: RULES 13 and 24. Assumes nothing.
use Rattle.std.specs.Prelude.{List, ◌++◌, ℕ, ◌+◌}
use Rattle.journeys.specs.Bytes.{be32, clock, word}
use Rattle.journeys.specs.Query as query
use Rattle.journeys.specs.Answers as answers
use Rattle.words.specs.Quantities.{seconds_of}
use Rattle.records.specs.Meaning.{offset_of}
use Rattle.records.specs.declared.Query.{Query}

-- the query that stands at a place, and the step limit behind it
abbrev pub query_in : List ℕ → ℕ → query.Query
query_in b at =
    record {
      walk = be32 b at;
      offset = be32 b (at + 4);
      arrival = clock (be32 b (at + 8));
      duration = be32 b (at + 12);
      speed = be32 b (at + 16);
    }

abbrev pub limit_in : List ℕ → ℕ → ℕ
limit_in b at = be32 b (at + 20)

-- the same query as the code has it
abbrev pub query_from : List ℕ → ℕ → Query
query_from b at =
    record {
      walk = be32 b at;
      offset = offset_of (be32 b (at + 4));
      arrival = seconds_of (clock (be32 b (at + 8)));
      duration = be32 b (at + 12);
      speed = be32 b (at + 16);
    }

-- the 24 bytes of an answer: a run counts no parts
abbrev pub answer_bytes : answers.Answer → List ℕ
answer_bytes a = word a.refusal ++ word a.place ++ word a.settled_count ++ word 0 ++ word a.held_count ++ word a.finished
