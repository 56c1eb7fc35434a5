-- The courier, as one table beside the marked cases: the base job turned round, one-way roads, waits, rides in the same second, the list of records. Assumes nothing.
use mathlib.Core.List.{List, [], ◌∷◌, ◌++◌, flat_map}
use Rattle.std.specs.Prelude.{ℕ, ◌*◌, replicate}
use Rattle.journeys.specs.Counting.{none}
use Rattle.journeys.specs.Bytes.{word}
use Rattle.journeys.specs.Query.{Query}
use Rattle.journeys.specs.Answers.{Lent, Answer}
use Rattle.journeys.specs.PartAnswers.{PartsAnswer}
use Rattle.journeys.specs.CourierAnswers.{CourierLent}
use Rattle.journeys.specs.Marked.{vertex_bytes, base_walks, ask, numbers, settled_of, held_of, part_numbers, parts_of, refused}
use Rattle.journeys.specs.Limits.{vertex_field}
use Rattle.journeys.specs.Moments.{road, ride}
use Rattle.journeys.specs.Waits.{waited}

-- a courier's run at a limit, and the parts of its list in a part buffer
pub record CourierCase : Type 0 where
  pub lent : CourierLent
  pub parts : List ℕ
  pub query : Query
  pub limit : ℕ
  pub view : Answer → PartsAnswer → List ℕ
  pub want : List ℕ

abbrev pub sent : CourierLent → Query → ℕ → (Answer → List ℕ) → List ℕ → CourierCase
sent lent query limit view want = record { lent = lent; parts = []; query = query; limit = limit; view = λ a p. view a; want = want }

abbrev pub reaches : CourierLent → ℕ → Query → (PartsAnswer → List ℕ) → List ℕ → CourierCase
reaches lent room query view want = record { lent = lent; parts = replicate (12 * room) 7; query = query; limit = none; view = λ a p. view p; want = want }

-- with the list of records in words
abbrev pub listed : List ℕ → Lent → CourierLent
listed records b = record { lent = b; records = flat_map word records }

-- the base job with its ride turned round, from 1 to 3, and the list of its records; walks 4 and 5 may be one-way
unfoldable pub turned_of : ℕ → ℕ → ℕ → ℕ → Lent
turned_of t u departure arrival =
    record {
      vertices = vertex_bytes 0 0 1 ++ vertex_bytes 1 0 3 ++ vertex_bytes 3 0 1 ++ vertex_bytes 4 0 1 ++ vertex_bytes 5 1 1;
      walks = base_walks t u;
      hops = flat_map word (1 ∷ 3 ∷ departure ∷ arrival ∷ []);
      hop_size = 16;
      held = replicate (16 * 5) 7;
      settled = replicate (8 * 5) 7;
    }

abbrev pub right_list : List ℕ
right_list = 1 ∷ 0 ∷ 3 ∷ 6 ∷ 2 ∷ 5 ∷ 4 ∷ []

abbrev pub turned : CourierLent
turned = listed right_list (turned_of 5 4 36050 36100)

abbrev pub late : CourierLent
late = listed right_list (turned_of 5 4 36049 36100)

abbrev pub one_ways : CourierLent
one_ways = listed right_list (turned_of none none 36050 36100)

-- with a wait of 30 s on e, record 1, and of 7 s on its twin, record 0; with a wait of 120 s where record 3 meets vertex 2
abbrev pub lit : CourierLent
lit = listed right_list (waited (waited (turned_of 5 4 36050 36100) 1 30 2000) 0 7 2000)

abbrev pub crossed : CourierLent
crossed = listed right_list (waited (turned_of 5 4 36050 36100) 3 120 2500)

-- the place is vertex 5; it rides to 0 and 0 to 4, both at T
unfoldable pub rides_at : ℕ → CourierLent
rides_at second =
    listed (2 ∷ 0 ∷ 1 ∷ [])
    (record {
      vertices = vertex_bytes 0 0 1 ++ vertex_bytes 0 1 1 ++ vertex_bytes 0 1 0 ++ vertex_bytes 0 1 0 ++ vertex_bytes 0 1 0 ++ vertex_bytes 0 2 1;
      walks = flat_map word (road 1 5 1000);
      hops = flat_map word (ride 5 0 second ++ ride 0 4 36000);
      hop_size = 16;
      held = replicate (16 * 6) 7;
      settled = replicate (8 * 6) 7;
    })

-- ---- distances, held vertices and parts of the base job turned round
unfoldable pub courier_runs : List CourierCase
courier_runs =
    sent turned (ask 1 1500 300) none numbers (0 ∷ 0 ∷ 5 ∷ 0 ∷ 1 ∷ [])
    ∷ sent turned (ask 1 1500 300) none settled_of (1 ∷ 500 ∷ 3 ∷ 1000 ∷ 0 ∷ 1500 ∷ 4 ∷ 1900 ∷ 2 ∷ 3000 ∷ [])
    -- what remains are arriving records: two at vertex 1, where three leave
    ∷ sent turned (ask 1 1500 300) 0 held_of (0 ∷ 1500 ∷ 0 ∷ 1 ∷ 1 ∷ 500 ∷ 0 ∷ 2 ∷ [])
    ∷ sent turned (ask 1 1500 300) 1 held_of (0 ∷ 1500 ∷ 0 ∷ 0 ∷ 1 ∷ 500 ∷ 1 ∷ 2 ∷ 2 ∷ 3000 ∷ 0 ∷ 0 ∷ 3 ∷ 1000 ∷ 0 ∷ 1 ∷ [])
    ∷ sent turned (ask 1 1500 300) 2 held_of (0 ∷ 1500 ∷ 0 ∷ 0 ∷ 1 ∷ 500 ∷ 1 ∷ 2 ∷ 2 ∷ 3000 ∷ 0 ∷ 0 ∷ 3 ∷ 1000 ∷ 1 ∷ 1 ∷ 4 ∷ 1900 ∷ 0 ∷ 0 ∷ [])
    ∷ sent turned (ask 1 1500 300) 3 held_of (1 ∷ 500 ∷ 1 ∷ 1 ∷ 2 ∷ 3000 ∷ 0 ∷ 0 ∷ 3 ∷ 1000 ∷ 1 ∷ 1 ∷ 4 ∷ 1900 ∷ 0 ∷ 0 ∷ [])
    ∷ sent turned (ask 1 1500 300) 4 held_of (1 ∷ 500 ∷ 1 ∷ 1 ∷ 2 ∷ 3000 ∷ 0 ∷ 0 ∷ [])
    -- on e the part from "from" is cut at the offset, on its twin at the length less the offset
    ∷ reaches turned 20 (ask 1 1500 300) parts_of (1 ∷ 1500 ∷ 2000 ∷ 0 ∷ 500 ∷ 2000 ∷ 0 ∷ 0 ∷ 500 ∷ 3 ∷ 0 ∷ 2500 ∷ 5 ∷ 0 ∷ 900 ∷ 1 ∷ 0 ∷ 1500 ∷ 4 ∷ 0 ∷ 900 ∷ [])
    ∷ reaches turned 6 (ask 1 1500 300) part_numbers (10 ∷ 4 ∷ 0 ∷ [])
    ∷ reaches turned 20 (ask 1 1500 20) parts_of (1 ∷ 1500 ∷ 1700 ∷ 0 ∷ 500 ∷ 700 ∷ [])
    -- a second less: vertex 2, whose one arriving record comes from 1, is forgotten as soon as it is met
    ∷ sent turned (ask 1 1500 299) 1 held_of (0 ∷ 1500 ∷ 0 ∷ 0 ∷ 1 ∷ 500 ∷ 1 ∷ 2 ∷ 3 ∷ 1000 ∷ 0 ∷ 1 ∷ [])
    ∷ reaches turned 20 (ask 1 1500 299) parts_of (1 ∷ 1500 ∷ 2000 ∷ 0 ∷ 500 ∷ 2000 ∷ 0 ∷ 0 ∷ 500 ∷ 3 ∷ 0 ∷ 2490 ∷ 5 ∷ 0 ∷ 900 ∷ 1 ∷ 0 ∷ 1490 ∷ 4 ∷ 0 ∷ 900 ∷ [])
    -- the ride is boarded in the second of arriving, and missed by a second
    ∷ sent late (ask 1 1500 300) none settled_of (1 ∷ 500 ∷ 0 ∷ 1500 ∷ 2 ∷ 3000 ∷ [])
    ∷ sent late (ask 1 1500 300) 1 held_of (0 ∷ 1500 ∷ 0 ∷ 0 ∷ 1 ∷ 500 ∷ 1 ∷ 2 ∷ 2 ∷ 3000 ∷ 0 ∷ 0 ∷ 3 ∷ none ∷ 0 ∷ 1 ∷ [])
    ∷ []

-- ---- seeds: a one-way road at 0, behind it, at the length; waits from inside and from the ends
unfoldable pub courier_seeds : List CourierCase
courier_seeds =
    sent one_ways (ask 5 0 300) 0 held_of (3 ∷ 0 ∷ 0 ∷ 2 ∷ 4 ∷ 900 ∷ 0 ∷ 1 ∷ [])
    ∷ sent one_ways (ask 5 1 300) 0 held_of (4 ∷ 899 ∷ 0 ∷ 1 ∷ [])
    ∷ sent one_ways (ask 5 900 300) 0 held_of (4 ∷ 0 ∷ 0 ∷ 1 ∷ [])
    ∷ reaches one_ways 20 (ask 5 0 300) parts_of (5 ∷ 0 ∷ 900 ∷ 4 ∷ 0 ∷ 900 ∷ [])
    ∷ reaches one_ways 20 (ask 5 450 300) parts_of (5 ∷ 450 ∷ 900 ∷ 4 ∷ 0 ∷ 900 ∷ 5 ∷ 0 ∷ 450 ∷ [])
    ∷ sent lit (ask 1 1500 300) 0 held_of (0 ∷ 1570 ∷ 0 ∷ 1 ∷ 1 ∷ 800 ∷ 0 ∷ 2 ∷ [])
    ∷ sent lit (ask 1 2000 300) 0 held_of (0 ∷ 2070 ∷ 0 ∷ 1 ∷ 1 ∷ 0 ∷ 0 ∷ 2 ∷ [])
    ∷ sent lit (ask 1 1999 300) 0 held_of (0 ∷ 2069 ∷ 0 ∷ 1 ∷ 1 ∷ 301 ∷ 0 ∷ 2 ∷ [])
    ∷ sent lit (ask 1 1 300) 0 held_of (0 ∷ 71 ∷ 0 ∷ 1 ∷ 1 ∷ 2299 ∷ 0 ∷ 2 ∷ [])
    ∷ sent lit (ask 1 0 300) 0 held_of (0 ∷ 0 ∷ 0 ∷ 1 ∷ 1 ∷ 2300 ∷ 0 ∷ 2 ∷ [])
    ∷ reaches lit 20 (ask 1 1500 300) parts_of (1 ∷ 1500 ∷ 2000 ∷ 0 ∷ 500 ∷ 2000 ∷ 0 ∷ 0 ∷ 500 ∷ 3 ∷ 0 ∷ 2200 ∷ 1 ∷ 0 ∷ 1430 ∷ [])
    -- the time ends inside the wait before vertex 2: the part ends at the length, the vertex is not settled; and at its last second it is
    ∷ sent crossed (ask 1 1500 419) none settled_of (1 ∷ 500 ∷ 3 ∷ 1000 ∷ 0 ∷ 1500 ∷ 4 ∷ 1900 ∷ [])
    ∷ sent crossed (ask 1 1500 420) none settled_of (1 ∷ 500 ∷ 3 ∷ 1000 ∷ 0 ∷ 1500 ∷ 4 ∷ 1900 ∷ 2 ∷ 4200 ∷ [])
    ∷ reaches crossed 20 (ask 1 1500 350) parts_of (1 ∷ 1500 ∷ 2000 ∷ 0 ∷ 500 ∷ 2000 ∷ 0 ∷ 0 ∷ 500 ∷ 3 ∷ 0 ∷ 2500 ∷ 5 ∷ 0 ∷ 900 ∷ 1 ∷ 0 ∷ 1500 ∷ 4 ∷ 0 ∷ 900 ∷ [])
    -- rides of no minutes at T itself, and one that left before
    ∷ sent (rides_at 36000) (ask 0 1000 300) none settled_of (5 ∷ 0 ∷ 0 ∷ 0 ∷ 4 ∷ 0 ∷ [])
    ∷ sent (rides_at 36000) (ask 0 1000 300) 1 held_of (0 ∷ 0 ∷ 0 ∷ 0 ∷ 5 ∷ 0 ∷ 1 ∷ 1 ∷ [])
    ∷ sent (rides_at 35999) (ask 0 1000 300) none settled_of (5 ∷ 0 ∷ [])
    ∷ []

-- ---- refusals: the length of the list after those of the buffers, 22 behind 6 and before 7
unfoldable pub courier_refusals : List CourierCase
courier_refusals =
    sent (listed (1 ∷ 0 ∷ 3 ∷ 6 ∷ 2 ∷ 5 ∷ []) (turned_of 5 4 36050 36100)) (ask 1 1500 300) none numbers (refused 1 6)
    ∷ sent (listed (1 ∷ 0 ∷ 3 ∷ 6 ∷ 2 ∷ 5 ∷ 4 ∷ 4 ∷ []) (turned_of 5 4 36050 36100)) (ask 1 1500 300) none numbers (refused 1 6)
    ∷ sent (listed (1 ∷ 0 ∷ 6 ∷ 3 ∷ 2 ∷ 5 ∷ 4 ∷ []) (turned_of 5 4 36050 36100)) (ask 1 1500 300) none numbers (refused 22 2)
    ∷ sent (listed (1 ∷ 0 ∷ 3 ∷ 6 ∷ 2 ∷ 5 ∷ 7 ∷ []) (turned_of 5 4 36050 36100)) (ask 1 2001 300) none numbers (refused 22 6)
    ∷ sent (listed (1 ∷ 0 ∷ 6 ∷ 3 ∷ 2 ∷ 5 ∷ 4 ∷ []) (vertex_field (turned_of 5 4 36050 36100) 4 0 6)) (ask 1 1500 300) none numbers (refused 6 4)
    ∷ sent turned (ask 1 2001 300) none numbers (refused 7 1)
    ∷ reaches (listed (1 ∷ 0 ∷ 6 ∷ 3 ∷ 2 ∷ 5 ∷ 4 ∷ []) (turned_of 5 4 36050 36100)) 20 (ask 1 1500 300) part_numbers (22 ∷ 2 ∷ 0 ∷ [])
    ∷ []
