-- Bought lists over the base job, over rides of no minutes and over waits, as one table: which are right, and at which number and place the others are refused. Assumes nothing.
use mathlib.Core.List.{List, [], ◌∷◌, flat_map}
use Rattle.std.specs.Prelude.{ℕ, ◌+◌, replicate}
use Rattle.journeys.specs.Counting.{none}
use Rattle.journeys.specs.Bytes.{word, midnight}
use Rattle.journeys.specs.Query.{Query}
use Rattle.journeys.specs.Answers.{Lent}
use Rattle.journeys.specs.VendorLists.{JudgeLent, from_place, to_place}
use Rattle.journeys.specs.Marked.{base, base_query, ask}
use Rattle.journeys.specs.Limits.{walk_field, sized, trips, querying}
use Rattle.journeys.specs.Moments.{circles, ties}
use Rattle.journeys.specs.Waits.{lights, crossing, paced}

pub record JudgeCase : Type 0 where
  pub lent : JudgeLent
  pub query : Query
  pub number : ℕ
  pub place : ℕ

-- the tables of a job, and any bytes as the list
abbrev pub judge_over : Lent → List ℕ → JudgeLent
judge_over b list = record { vertices = b.vertices; walks = b.walks; hops = b.hops; hop_size = b.hop_size; list = list }

-- the entries (vertex, distance, record) for a query: refused with this number at this place, or right
abbrev pub bought : Lent → Query → List ℕ → ℕ → ℕ → JudgeCase
bought b Q entries number place = record { lent = judge_over b (flat_map word entries); query = Q; number = number; place = place }

abbrev pub right_over : Lent → Query → List ℕ → JudgeCase
right_over b Q entries = bought b Q entries 0 0

abbrev pub wrong : List ℕ → ℕ → ℕ → JudgeCase
wrong = bought base base_query

unfoldable pub vendor_cases : List JudgeCase
vendor_cases =
    -- the run's own list; another order, which nobody asks for; hops of 20 bytes have the same numbers
    right_over base base_query (1 ∷ 500 ∷ none ∷ 0 ∷ 1500 ∷ none ∷ 3 ∷ 2400 ∷ 6 ∷ 2 ∷ 3000 ∷ 2 ∷ [])
    ∷ right_over base base_query (1 ∷ 500 ∷ none ∷ 2 ∷ 3000 ∷ 2 ∷ 3 ∷ 2400 ∷ 6 ∷ 0 ∷ 1500 ∷ none ∷ [])
    ∷ right_over (trips 7) base_query (1 ∷ 500 ∷ none ∷ 0 ∷ 1500 ∷ none ∷ 3 ∷ 2400 ∷ 6 ∷ 2 ∷ 3000 ∷ 2 ∷ [])
    -- the empty list is right while both seeds are above D
    ∷ right_over base (ask 1 1500 49) []
    ∷ bought base (ask 1 1500 50) [] 28 to_place
    ∷ wrong [] 28 from_place
    -- 25: a vertex that does not exist; of equal vertices the later; before every 26
    ∷ wrong (1 ∷ 500 ∷ none ∷ 5 ∷ 1500 ∷ none ∷ []) 25 1
    ∷ wrong (1 ∷ 500 ∷ none ∷ 0 ∷ 1500 ∷ none ∷ 1 ∷ 500 ∷ none ∷ []) 25 2
    ∷ wrong (1 ∷ 3001 ∷ none ∷ 0 ∷ 1500 ∷ none ∷ 1 ∷ 500 ∷ none ∷ []) 25 2
    -- 26: above D, and before every 27
    ∷ wrong (1 ∷ 500 ∷ none ∷ 0 ∷ 1500 ∷ none ∷ 3 ∷ 2400 ∷ 6 ∷ 2 ∷ 3001 ∷ 2 ∷ []) 26 3
    ∷ wrong (1 ∷ 500 ∷ 6 ∷ 0 ∷ 1500 ∷ none ∷ 3 ∷ 2400 ∷ 6 ∷ 2 ∷ 3001 ∷ 2 ∷ []) 26 3
    -- 27: the far end comes later; it is not listed; another "from"; another distance; no seed, no seed of that distance; no such record
    ∷ wrong (3 ∷ 2400 ∷ 6 ∷ 1 ∷ 500 ∷ none ∷ 0 ∷ 1500 ∷ none ∷ 2 ∷ 3000 ∷ 2 ∷ []) 27 0
    ∷ wrong (0 ∷ 1500 ∷ none ∷ 2 ∷ 3000 ∷ 2 ∷ []) 27 1
    ∷ wrong (1 ∷ 500 ∷ none ∷ 0 ∷ 1500 ∷ 2 ∷ []) 27 1
    ∷ wrong (1 ∷ 500 ∷ none ∷ 2 ∷ 2999 ∷ 2 ∷ []) 27 1
    ∷ wrong (1 ∷ 500 ∷ none ∷ 2 ∷ 3000 ∷ none ∷ []) 27 1
    ∷ wrong (1 ∷ 501 ∷ none ∷ []) 27 0
    ∷ wrong (1 ∷ 500 ∷ none ∷ 2 ∷ 3000 ∷ 7 ∷ []) 27 1
    ∷ wrong (1 ∷ 500 ∷ none ∷ 2 ∷ 3000 ∷ from_place ∷ []) 27 1
    -- by listed distances, not by true ones: 3500 and 2500 are 6000
    ∷ bought base (ask 1 1500 600) (0 ∷ 1500 ∷ none ∷ 1 ∷ 3500 ∷ 0 ∷ 2 ∷ 6000 ∷ 2 ∷ []) 28 to_place
    ∷ bought base (ask 1 1500 600) (0 ∷ 1500 ∷ none ∷ 1 ∷ 3500 ∷ 0 ∷ 2 ∷ 3000 ∷ 2 ∷ []) 27 2
    -- 28: a seed before a record; the lowest record, also where it offers exactly D; less than is listed
    ∷ wrong (1 ∷ 500 ∷ none ∷ []) 28 from_place
    ∷ wrong (0 ∷ 1500 ∷ none ∷ []) 28 to_place
    ∷ wrong (1 ∷ 500 ∷ none ∷ 0 ∷ 1500 ∷ none ∷ []) 28 2
    ∷ wrong (1 ∷ 500 ∷ none ∷ 0 ∷ 1500 ∷ none ∷ 3 ∷ 2400 ∷ 6 ∷ []) 28 2
    ∷ wrong (1 ∷ 500 ∷ none ∷ 0 ∷ 1500 ∷ none ∷ 2 ∷ 3000 ∷ 2 ∷ []) 28 6
    ∷ right_over (ties 6) (ask 3 1000 300) (5 ∷ 0 ∷ none ∷ 2 ∷ 200 ∷ 2 ∷ 0 ∷ 200 ∷ 4 ∷ 4 ∷ 200 ∷ 6 ∷ 1 ∷ 200 ∷ 5 ∷ 3 ∷ 1000 ∷ none ∷ [])
    ∷ bought (ties 6) (ask 3 1000 300) (5 ∷ 0 ∷ none ∷ 2 ∷ 200 ∷ 2 ∷ 0 ∷ 200 ∷ 4 ∷ 4 ∷ 200 ∷ 6 ∷ 1 ∷ 250 ∷ 0 ∷ 3 ∷ 1000 ∷ none ∷ []) 28 5
    -- rides both ways at one moment: each the other's reason, whatever comes first
    ∷ right_over circles (ask 0 500 300) (3 ∷ 0 ∷ none ∷ 1 ∷ 200 ∷ 3 ∷ 0 ∷ 200 ∷ 2 ∷ 2 ∷ 500 ∷ none ∷ [])
    ∷ bought circles (ask 0 500 300) (3 ∷ 0 ∷ none ∷ 0 ∷ 200 ∷ 2 ∷ 1 ∷ 200 ∷ 1 ∷ 2 ∷ 500 ∷ none ∷ []) 27 1
    ∷ bought circles (ask 0 500 300) (3 ∷ 0 ∷ none ∷ 1 ∷ 200 ∷ 3 ∷ 0 ∷ 200 ∷ 2 ∷ 2 ∷ 500 ∷ none ∷ 4 ∷ 200 ∷ 5 ∷ 5 ∷ 200 ∷ 4 ∷ []) 27 4
    ∷ bought circles (ask 0 500 300) (3 ∷ 0 ∷ none ∷ 1 ∷ 200 ∷ 3 ∷ 0 ∷ 200 ∷ 2 ∷ 2 ∷ 500 ∷ none ∷ 5 ∷ 200 ∷ 4 ∷ 4 ∷ 200 ∷ 5 ∷ []) 27 4
    -- waits: a walk and the two seeds offer what they cost with them, and a list made without them fails with 27
    ∷ right_over crossing base_query (1 ∷ 500 ∷ none ∷ 0 ∷ 1500 ∷ none ∷ 3 ∷ 2400 ∷ 6 ∷ [])
    ∷ bought crossing base_query (1 ∷ 500 ∷ none ∷ 0 ∷ 1500 ∷ none ∷ 3 ∷ 2400 ∷ 6 ∷ 2 ∷ 3000 ∷ 2 ∷ []) 27 3
    ∷ right_over crossing (paced 300 100) (1 ∷ 500 ∷ none ∷ 0 ∷ 1500 ∷ none ∷ 2 ∷ 15000 ∷ 2 ∷ 3 ∷ 24000 ∷ 6 ∷ 4 ∷ 24900 ∷ 4 ∷ [])
    ∷ bought crossing (paced 3120 1) (1 ∷ 500 ∷ none ∷ 0 ∷ 1500 ∷ none ∷ []) 28 2
    ∷ right_over crossing (paced 3119 1) (1 ∷ 500 ∷ none ∷ 0 ∷ 1500 ∷ none ∷ [])
    ∷ right_over lights (ask 1 2000 300) (1 ∷ 0 ∷ none ∷ 0 ∷ 2300 ∷ none ∷ 3 ∷ 2400 ∷ 6 ∷ 2 ∷ 2500 ∷ 2 ∷ [])
    ∷ right_over lights (ask 1 2000 300) (1 ∷ 0 ∷ none ∷ 0 ∷ 2300 ∷ 1 ∷ 3 ∷ 2400 ∷ 6 ∷ 2 ∷ 2500 ∷ 2 ∷ [])
    ∷ bought lights (ask 1 2000 300) (1 ∷ 0 ∷ none ∷ 0 ∷ 2000 ∷ none ∷ 3 ∷ 2400 ∷ 6 ∷ 2 ∷ 2500 ∷ 2 ∷ []) 27 1
    ∷ right_over lights (ask 1 0 206) (0 ∷ 0 ∷ none ∷ [])
    ∷ bought lights (ask 1 0 207) (0 ∷ 0 ∷ none ∷ []) 28 to_place
    -- 1, place 4, behind places 0 to 2 and before everything else; 2 and 7 before 25
    ∷ record { lent = judge_over base (replicate 13 0); query = base_query; number = 1; place = 4 }
    ∷ record { lent = judge_over (sized base 24) (replicate 13 0); query = base_query; number = 1; place = 2 }
    ∷ record { lent = judge_over (walk_field base 0 2 0) (replicate 11 0); query = base_query; number = 1; place = 4 }
    ∷ bought (walk_field base 0 2 0) base_query (5 ∷ 0 ∷ 0 ∷ []) 2 0
    ∷ bought base (querying 1 1500 (midnight + 36000) 300 101) (5 ∷ 0 ∷ 0 ∷ []) 7 4
    ∷ []
