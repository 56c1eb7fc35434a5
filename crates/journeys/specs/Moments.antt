-- Rides that leave and arrive at one second, as one table beside the marked cases: the order of settling, and the working table at limits inside a tie.
-- Assumes nothing.
use mathlib.Core.List.{List, [], ◌∷◌, ◌++◌, flat_map}
use Rattle.std.specs.Prelude.{ℕ, ◌*◌, replicate}
use Rattle.journeys.specs.Counting.{none}
use Rattle.journeys.specs.Bytes.{word}
use Rattle.journeys.specs.Answers.{Lent}
use Rattle.journeys.specs.Marked.{Case, when, parted, vertex_bytes, ask, numbers, settled_of, held_of, parts_of, refused}

-- a one-way walk; a ride from vertex to vertex at one second
abbrev pub road : ℕ → ℕ → ℕ → List ℕ
road from to len = from ∷ to ∷ len ∷ none ∷ []

abbrev pub ride : ℕ → ℕ → ℕ → List ℕ
ride from to second = from ∷ to ∷ second ∷ second ∷ []

abbrev pub lent : List ℕ → List ℕ → List ℕ → ℕ → Lent
lent vertices walks hops settled =
    record { vertices = vertices; walks = flat_map word walks; hops = flat_map word hops; hop_size = 16; held = replicate (16 * 6) 7; settled = replicate (8 * settled) 7 }

-- 4 rides to 0 and 0 to 5, where the place is, both at T: all three have the distance 0, and the largest number comes first
unfoldable pub chain : Lent
chain =
    lent (vertex_bytes 0 0 1 ++ vertex_bytes 0 1 1 ++ vertex_bytes 0 1 0 ++ vertex_bytes 0 1 0 ++ vertex_bytes 0 1 1 ++ vertex_bytes 0 1 0)
    (road 1 5 1000) (ride 4 0 36000 ++ ride 0 5 36000) 6

-- 0 and 1 ride to each other and 1 to the place, all at one second: 1 comes first; 4 and 5 ride to each other only and have no distance
unfoldable pub circles : Lent
circles =
    lent (vertex_bytes 0 0 1 ++ vertex_bytes 0 1 2 ++ vertex_bytes 0 2 1 ++ vertex_bytes 0 2 0 ++ vertex_bytes 1 3 1 ++ vertex_bytes 1 4 1)
    (road 2 3 500) (ride 1 0 35980 ++ ride 0 1 35980 ++ ride 1 3 35980 ++ ride 5 4 35980 ++ ride 4 5 35980) 6

-- 2 walks and 4 rides to the place, both from 200; at that second 0 rides to 2 and 1 to 4; 1 can walk to 0 as well, but that takes longer
unfoldable pub ties : ℕ → Lent
ties =
    lent (vertex_bytes 0 0 1 ++ vertex_bytes 1 0 2 ++ vertex_bytes 1 0 1 ++ vertex_bytes 2 1 1 ++ vertex_bytes 2 1 2 ++ vertex_bytes 2 2 0)
    (road 1 0 50 ++ road 4 2 60 ++ road 2 5 200 ++ road 3 5 1000) (ride 0 2 35980 ++ ride 1 4 35980 ++ ride 4 5 35980)

unfoldable pub moments : List Case
moments =
    when chain (ask 0 1000 300) none settled_of (5 ∷ 0 ∷ 0 ∷ 0 ∷ 4 ∷ 0 ∷ 1 ∷ 1000 ∷ [])
    ∷ when chain (ask 0 1000 300) none numbers (0 ∷ 0 ∷ 4 ∷ 0 ∷ 1 ∷ [])
    ∷ when chain (ask 0 1000 300) 0 held_of (1 ∷ 1000 ∷ 0 ∷ 1 ∷ 5 ∷ 0 ∷ 0 ∷ 0 ∷ [])
    ∷ when chain (ask 0 1000 300) 1 held_of (0 ∷ 0 ∷ 0 ∷ 0 ∷ 1 ∷ 1000 ∷ 0 ∷ 0 ∷ [])
    ∷ when chain (ask 0 1000 300) 2 held_of (1 ∷ 1000 ∷ 0 ∷ 0 ∷ 4 ∷ 0 ∷ 0 ∷ 0 ∷ [])
    ∷ when chain (ask 0 1000 300) 3 held_of (1 ∷ 1000 ∷ 0 ∷ 0 ∷ [])
    ∷ when circles (ask 0 500 300) none settled_of (3 ∷ 0 ∷ 1 ∷ 200 ∷ 0 ∷ 200 ∷ 2 ∷ 500 ∷ [])
    ∷ when circles (ask 0 500 300) none numbers (0 ∷ 0 ∷ 4 ∷ 0 ∷ 1 ∷ [])
    ∷ when circles (ask 0 500 300) 1 held_of (1 ∷ 200 ∷ 0 ∷ 1 ∷ 2 ∷ 500 ∷ 0 ∷ 0 ∷ [])
    ∷ when circles (ask 0 500 300) 2 held_of (0 ∷ 200 ∷ 0 ∷ 0 ∷ 1 ∷ 200 ∷ 1 ∷ 1 ∷ 2 ∷ 500 ∷ 0 ∷ 0 ∷ [])
    ∷ when circles (ask 0 500 300) 3 held_of (2 ∷ 500 ∷ 0 ∷ 0 ∷ [])
    ∷ when (ties 6) (ask 3 1000 300) none settled_of (5 ∷ 0 ∷ 2 ∷ 200 ∷ 0 ∷ 200 ∷ 4 ∷ 200 ∷ 1 ∷ 200 ∷ 3 ∷ 1000 ∷ [])
    ∷ when (ties 6) (ask 3 1000 300) 1 held_of (2 ∷ 200 ∷ 0 ∷ 0 ∷ 3 ∷ 1000 ∷ 0 ∷ 0 ∷ 4 ∷ 200 ∷ 0 ∷ 1 ∷ [])
    ∷ when (ties 6) (ask 3 1000 300) 2 held_of (0 ∷ 200 ∷ 0 ∷ 0 ∷ 3 ∷ 1000 ∷ 0 ∷ 0 ∷ 4 ∷ 200 ∷ 0 ∷ 0 ∷ [])
    -- 1 is offered 250, which is not its distance: 4 comes first
    ∷ when (ties 6) (ask 3 1000 300) 3 held_of (1 ∷ 250 ∷ 0 ∷ 1 ∷ 3 ∷ 1000 ∷ 0 ∷ 0 ∷ 4 ∷ 200 ∷ 0 ∷ 0 ∷ [])
    ∷ when (ties 6) (ask 3 1000 300) 4 held_of (1 ∷ 200 ∷ 0 ∷ 0 ∷ 3 ∷ 1000 ∷ 0 ∷ 0 ∷ [])
    ∷ when (ties 6) (ask 3 1000 300) 5 held_of (3 ∷ 1000 ∷ 0 ∷ 0 ∷ [])
    -- D is the distance of the tie, and a second less
    ∷ when (ties 6) (ask 3 1000 20) none settled_of (5 ∷ 0 ∷ 2 ∷ 200 ∷ 0 ∷ 200 ∷ 4 ∷ 200 ∷ 1 ∷ 200 ∷ [])
    ∷ when (ties 6) (ask 3 1000 19) none settled_of (5 ∷ 0 ∷ [])
    -- room ends inside the tie
    ∷ when (ties 2) (ask 3 1000 300) none numbers (refused 9 3)
    -- the parts stand in the order of the list: those at 2 before those at 0
    ∷ parted (ties 6) 6 (ask 3 1000 300) parts_of (3 ∷ 0 ∷ 1000 ∷ 2 ∷ 0 ∷ 200 ∷ 1 ∷ 0 ∷ 60 ∷ 0 ∷ 0 ∷ 50 ∷ [])
    ∷ []
