-- The seeds of a query's road, as the code reads them. Assumes nothing.
use Rattle.std.specs.Prelude.{cond, List, ℕ}
use Rattle.journeys.specs.Counting.{none}
use Rattle.journeys.specs.Tables.{walk_at}
use Rattle.parts.specs.declared.Road.{Road}
use Rattle.opening.specs.Seeds.{from_ticks_of, to_ticks_of, to_is_seed}
use Rattle.reasons.specs.declared.Seeds.{Seeds}

-- what it takes from "to" to the query place, none where that is no seed
unfoldable pub back_of : Road → ℕ
back_of e = cond (to_is_seed e) (to_ticks_of e) none

-- "from" by what it takes from there, and "to", where it is a seed
abbrev pub seeds_of : List ℕ → Road → Seeds
seeds_of w e =
    record {
      from = (walk_at w e.walk).from;
      near = record { 0 = from_ticks_of e };
      to = (walk_at w e.walk).to;
      back = record { 0 = back_of e };
    }
