-- The parts of walk records that the courier reaches, in the order in which they are written: RULES 27. Assumes nothing.
-- A part ends where the time or the road does: the wait stands behind the length, so none is shortened by it.
use Rattle.std.specs.Prelude.{cond, ◌||◌, ℕ, ◌+◌, ◌-◌, min, eqb}
use mathlib.Core.List.{List, [], ◌++◌, flat_map}
use Rattle.journeys.specs.Counting.{none, joined}
use Rattle.journeys.specs.Tables.{Tables, walk, walk_count}
use Rattle.journeys.specs.Query.{Query, allowed, asked}
use Rattle.journeys.specs.Order.{Settled}
use Rattle.journeys.specs.Parts.{Part, part, near}

module _ (N : Tables) (Q : Query) where
  -- how far a part may reach that starts at "from" of record i: on e and its twin to the query place, on any other record to its end
  unfoldable pub reach : ℕ → ℕ
  reach i = cond (eqb i Q.walk || eqb i (asked N Q).twin) (near N Q i) (walk N i).len

  -- from the query place on, at most D long
  unfoldable pub first_part : ℕ → List Part
  first_part i = part i (near N Q i) (min (walk N i).len (near N Q i + allowed Q))

  -- step 0: on e, then on the twin, if any
  unfoldable pub first_parts : List Part
  first_parts = first_part Q.walk ++ cond (eqb (asked N Q).twin none) [] (first_part (asked N Q).twin)

  -- from "from", which has the distance d: what is left of D, and on e and its twin not beyond the query place
  unfoldable pub part_at : ℕ → ℕ → List Part
  part_at d i = part i 0 (min (min (walk N i).len (allowed Q - d)) (reach i))

  -- at a settled vertex: its departing walks, ascending
  unfoldable pub parts_at : Settled → List Part
  parts_at x = joined (λ i. cond (eqb (walk N i).from x.vertex) (part_at x.distance i) []) (walk_count N)

  unfoldable pub part_list : List Settled → List Part
  part_list S = first_parts ++ flat_map parts_at S
