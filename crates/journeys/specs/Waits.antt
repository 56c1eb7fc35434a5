-- Waits at crossings, as one table beside the marked cases: what seeds, walks and parts cost at and beside a wait, and which waits are good. Assumes nothing.
use Rattle.std.specs.Prelude.{List, [], ◌∷◌, ◌++◌, ℕ, ◌+◌, ◌*◌}
use Rattle.journeys.specs.Counting.{none}
use Rattle.journeys.specs.Bytes.{midnight}
use Rattle.journeys.specs.Query.{Query}
use Rattle.journeys.specs.Answers.{Lent}
use Rattle.journeys.specs.Marked.{Case, when, parted, base, one_way, base_query, ask, numbers, settled_of, held_of, part_numbers, parts_of}
use Rattle.journeys.specs.Limits.{walk_field, querying, verdict, tried, good, bad}

-- the four bytes of a length with a wait; walk i of a job with both
abbrev pub waiting : ℕ → ℕ → ℕ
waiting wait len = wait * 16777216 + len

abbrev pub waited : Lent → ℕ → ℕ → ℕ → Lent
waited b i wait len = walk_field b i 2 (waiting wait len)

-- the base job's query road with a wait of 30 s on e, record 1, and of 7 s on its twin, record 0
abbrev pub lights : Lent
lights = waited (waited base 1 30 2000) 0 7 2000

-- the base job with a wait of 120 s where record 2 meets vertex 1
abbrev pub crossing : Lent
crossing = waited base 2 120 2500

-- the base job's query with another duration and speed
abbrev pub paced : ℕ → ℕ → Query
paced duration speed = querying 1 1500 (midnight + 36000) duration speed

-- ---- which waits are good
unfoldable pub wait_limits : List Case
wait_limits =
    tried (waited one_way 4 120 900) good
    ∷ tried (waited one_way 4 121 900) (bad 2 4)
    ∷ tried (waited one_way 4 255 900) (bad 2 4)
    ∷ tried (waited one_way 4 120 0) (bad 2 4)
    ∷ tried (waited one_way 4 120 1) good
    ∷ tried (waited one_way 4 120 100000) good
    ∷ tried (waited one_way 4 1 100001) (bad 2 4)
    -- twins may have different waits, but not different lengths
    ∷ tried lights good
    ∷ tried (waited base 5 120 900) good
    ∷ tried (waited base 5 121 900) (bad 2 5)
    ∷ tried (waited base 5 120 901) (bad 2 4)
    ∷ []

-- ---- the two seeds: one decimetre before the end of e, at it; one behind its start, at it
unfoldable pub wait_seeds : List Case
wait_seeds =
    when lights (ask 1 1999 300) 0 held_of (0 ∷ 1999 ∷ 0 ∷ 1 ∷ 1 ∷ 1 ∷ 0 ∷ 2 ∷ [])
    ∷ when lights (ask 1 2000 300) 0 held_of (0 ∷ 2300 ∷ 0 ∷ 1 ∷ 1 ∷ 0 ∷ 0 ∷ 2 ∷ [])
    ∷ when lights (ask 1 1 300) 0 held_of (0 ∷ 1 ∷ 0 ∷ 1 ∷ 1 ∷ 1999 ∷ 0 ∷ 2 ∷ [])
    ∷ when lights (ask 1 0 300) 0 held_of (0 ∷ 0 ∷ 0 ∷ 1 ∷ 1 ∷ 2070 ∷ 0 ∷ 2 ∷ [])
    -- the same road named by the other record
    ∷ when lights (ask 0 2000 300) 0 held_of (0 ∷ 0 ∷ 0 ∷ 1 ∷ 1 ∷ 2070 ∷ 0 ∷ 2 ∷ [])
    -- a one-way road, at its end and before it
    ∷ when (waited one_way 5 120 900) (ask 5 900 300) 0 held_of (3 ∷ 2100 ∷ 0 ∷ 2 ∷ 4 ∷ 0 ∷ 0 ∷ 1 ∷ [])
    ∷ when (waited one_way 5 120 900) (ask 5 899 300) 0 held_of (3 ∷ 899 ∷ 0 ∷ 2 ∷ [])
    ∷ []

-- ---- a walk costs length and wait, in ticks of the speed
unfoldable pub wait_walks : List Case
wait_walks =
    -- at 1 dm/s vertex 2 has the distance 500 + 2500 + 120, and D is that, or a tick less
    when crossing (paced 3120 1) none settled_of (1 ∷ 500 ∷ 0 ∷ 1500 ∷ 2 ∷ 3120 ∷ [])
    ∷ when crossing (paced 3119 1) none settled_of (1 ∷ 500 ∷ 0 ∷ 1500 ∷ [])
    -- at 100 dm/s 500 + 2500 + 12000
    ∷ when crossing (paced 300 100) none settled_of (1 ∷ 500 ∷ 0 ∷ 1500 ∷ 2 ∷ 15000 ∷ 3 ∷ 24000 ∷ 4 ∷ 24900 ∷ [])
    ∷ when crossing base_query none settled_of (1 ∷ 500 ∷ 0 ∷ 1500 ∷ 3 ∷ 2400 ∷ [])
    -- a wait at the other end of that road costs this way nothing
    ∷ when (waited base 3 120 2500) base_query none settled_of (1 ∷ 500 ∷ 0 ∷ 1500 ∷ 3 ∷ 2400 ∷ 2 ∷ 3000 ∷ [])
    ∷ []

-- ---- parts: what is left at "to" reaches the wait or not; step 0 alike
unfoldable pub wait_parts : List Case
wait_parts =
    -- 120 ticks are left at vertex 1 for the wait of 120 before record 2; a tick less; a tick more
    parted crossing 20 (paced 620 1) parts_of (1 ∷ 880 ∷ 1500 ∷ 0 ∷ 0 ∷ 500 ∷ 1 ∷ 1880 ∷ 2000 ∷ [])
    ∷ parted crossing 20 (paced 619 1) parts_of (1 ∷ 881 ∷ 1500 ∷ 0 ∷ 0 ∷ 500 ∷ 1 ∷ 1881 ∷ 2000 ∷ [])
    ∷ parted crossing 20 (paced 621 1) parts_of (1 ∷ 879 ∷ 1500 ∷ 0 ∷ 0 ∷ 500 ∷ 1 ∷ 1879 ∷ 2000 ∷ 2 ∷ 2499 ∷ 2500 ∷ [])
    -- the base job's part 2 0 2500 starts where the rest ends
    ∷ parted crossing 20 base_query parts_of (1 ∷ 0 ∷ 1500 ∷ 0 ∷ 0 ∷ 500 ∷ 1 ∷ 1500 ∷ 2000 ∷ 2 ∷ 1200 ∷ 2500 ∷ 0 ∷ 500 ∷ 2000 ∷ 4 ∷ 300 ∷ 900 ∷ [])
    -- step 0 at the end of e: its part is shortened by the wait of e, and gone where D does not exceed that
    ∷ parted lights 20 (ask 1 2000 150) parts_of (1 ∷ 800 ∷ 2000 ∷ 2 ∷ 1000 ∷ 2500 ∷ [])
    ∷ parted lights 20 (ask 1 2000 31) parts_of (1 ∷ 1990 ∷ 2000 ∷ 2 ∷ 2190 ∷ 2500 ∷ [])
    ∷ parted lights 20 (ask 1 2000 30) parts_of (2 ∷ 2200 ∷ 2500 ∷ [])
    ∷ parted lights 20 (ask 1 2000 29) parts_of (2 ∷ 2210 ∷ 2500 ∷ [])
    -- a decimetre before it step 0 waits for nothing, and who comes back from "to" has not waited
    ∷ parted lights 20 (ask 1 1999 29) parts_of (1 ∷ 1709 ∷ 1999 ∷ 0 ∷ 0 ∷ 1 ∷ 2 ∷ 2211 ∷ 2500 ∷ [])
    -- step 0 at the start of e: the same on the twin with the twin's wait
    ∷ parted lights 20 (ask 1 0 150) parts_of (0 ∷ 570 ∷ 2000 ∷ [])
    ∷ parted lights 20 (ask 1 0 8) parts_of (0 ∷ 1990 ∷ 2000 ∷ [])
    ∷ parted lights 20 (ask 1 0 7) part_numbers (0 ∷ 0 ∷ 0 ∷ [])
    ∷ []

unfoldable pub waits : List Case
waits = wait_limits ++ wait_seeds ++ wait_walks ++ wait_parts
