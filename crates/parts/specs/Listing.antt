-- The parts of step 0 and of a vertex, by the numbers of the query's road. Assumes nothing.
use Rattle.std.specs.Prelude.{◌≡◌, cond, ◌||◌, ℕ, ◌+◌, ◌-◌, ◌*◌, ◌/◌, ◌<◌, ◌≤◌, max, min, eqb, ltb, length}
use mathlib.Core.List.{List, [], ◌++◌, flat_map}
use Rattle.journeys.specs.Counting.{none, joined}
use Rattle.journeys.specs.Bytes.{be32}
use Rattle.journeys.specs.Tables.{walk_at}
use Rattle.journeys.specs.Query.{Query}
use Rattle.journeys.specs.Parts.{Part, part, part_bytes}
use Rattle.words.specs.Written.{written}
use Rattle.std.specs.Prelude.{Option, Some, None}
use Rattle.parts.specs.declared.Piece.{Piece}
use Rattle.parts.specs.declared.Road.{Road}

-- what a piece lists: a part, or none
abbrev pub part_in : Piece → List Part
part_in p = part p.walk p.start.0 p.end.0

-- what is waited for a place on record i of the walks w, at a speed: `past_ticks` of that record
unfoldable pub past_on : List ℕ → ℕ → ℕ → ℕ → ℕ
past_on w speed i place = cond (ltb i (length w / 16)) (cond (eqb place (walk_at w i).len) ((walk_at w i).wait * speed) 0) 0

-- the road of the query
abbrev pub road_of : List ℕ → Query → Road
road_of w Q =
    let e = walk_at w Q.walk in
    record {
      walk = Q.walk;
      twin = e.twin;
      near = record { 0 = Q.offset };
      back = record { 0 = e.len - Q.offset };
      past = record { 0 = past_on w Q.speed Q.walk Q.offset };
      past_back = record { 0 = past_on w Q.speed e.twin (e.len - Q.offset) };
      speed = Q.speed;
    }

-- the offset of the query place on record i
unfoldable pub near_on : Road → ℕ → ℕ
near_on e i = cond (eqb i e.walk) e.near.0 (cond (eqb i e.twin) e.back.0 0)

-- step 0: where its part on the record starts, and where that on the twin does
abbrev pub near_start : Road → ℕ → ℕ
near_start e allowed = e.near.0 - (allowed - e.past.0)

abbrev pub back_start : Road → ℕ → ℕ
back_start e allowed = e.back.0 - (allowed - e.past_back.0)

-- a part on the record, and one on the twin, if any
unfoldable pub pair_on : Road → ℕ → ℕ → ℕ → ℕ → List Part
pair_on e a z a' z' = part e.walk a z ++ cond (eqb e.twin none) [] (part e.twin a' z')

abbrev pub first_on : Road → ℕ → List Part
first_on e allowed = pair_on e (near_start e allowed) e.near.0 (back_start e allowed) e.back.0

-- the part of walk i where `left` ticks are left at its end, the wait among them; those of n walks from `first` on
unfoldable pub part_on : List ℕ → Road → ℕ → ℕ → List Part
part_on w e left i = part i (max ((walk_at w i).len - (left - (walk_at w i).wait * e.speed)) (near_on e i)) (walk_at w i).len

-- what g gives for n numbers from `first` on
unfoldable pub run_on : (ℕ → List Part) → ℕ → ℕ → List Part
run_on g first n = joined (λ k. g (first + k)) n

abbrev pub parts_on : List ℕ → Road → ℕ → ℕ → ℕ → List Part
parts_on w e left = run_on (part_on w e left)

-- ---- the courier's: from the query place on
abbrev pub first_ahead : Road → ℕ → List Part
first_ahead e allowed = pair_on e e.near.0 (e.near.0 + min e.back.0 allowed) e.back.0 (e.back.0 + min e.near.0 allowed)

-- how far a part on record i may reach
unfoldable pub reach_on : Road → ℕ → ℕ → ℕ
reach_on e i len = cond (eqb i e.walk || eqb i e.twin) (near_on e i) len

-- the part of walk i where `left` ticks are left at its start; those of n walks whose numbers stand in the list r from `first` on
unfoldable pub ahead_on : List ℕ → Road → ℕ → ℕ → List Part
ahead_on w e left i = part i 0 (min (min (walk_at w i).len left) (reach_on e i (walk_at w i).len))

abbrev pub aheads_on : List ℕ → Road → ℕ → List ℕ → ℕ → ℕ → List Part
aheads_on w e left r = run_on (λ j. ahead_on w e left (be32 r (4 * j)))

-- What listing parts behind `count` others answers and leaves: all of them behind these, or that there is no room for all.
pub record Behind (count : ℕ) (ps : List Part) (b b' : List ℕ) (c : ℕ) : Type 0 where
  pub counted : c ≡ count + length ps
  pub room : c ≤ length b / 12
  pub bytes : b' ≡ written b (12 * count) (flat_map part_bytes ps)

pub record Overfull (count : ℕ) (ps : List Part) (b b' : List ℕ) : Type 0 where
  pub over : length b / 12 < count + length ps
  pub same : length b' ≡ length b

unfoldable pub ListedIs : ℕ → List Part → List ℕ → List ℕ → Option ℕ → Type 0
ListedIs count ps b b' (Some c) = Behind count ps b b' c
ListedIs count ps b b' None = Overfull count ps b b'
