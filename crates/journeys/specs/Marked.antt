-- The base job in bytes, and its marked cases as one table: RULES 15 and 16. Assumes nothing.
use mathlib.Core.List.{List, [], ◌∷◌, ◌++◌, flat_map}
use Rattle.std.specs.Prelude.{ℕ, ◌+◌, ◌*◌, ◌/◌, ◌%◌, replicate, take}
use Rattle.journeys.specs.Counting.{none}
use Rattle.journeys.specs.Bytes.{word, midnight}
use Rattle.journeys.specs.Query.{Query}
use Rattle.journeys.specs.Answers.{Lent, Answer}
use Rattle.journeys.specs.PartAnswers.{PartsLent, PartsAnswer}

-- a vertex: first walk, first hop, departing
unfoldable pub vertex_bytes : ℕ → ℕ → ℕ → List ℕ
vertex_bytes first_walk first_hop departing = word first_walk ++ word first_hop ++ (departing / 256 ∷ departing % 256 ∷ 0 ∷ 0 ∷ [])

unfoldable pub base_vertices : List ℕ
base_vertices = vertex_bytes 0 0 1 ++ vertex_bytes 1 0 2 ++ vertex_bytes 3 1 1 ++ vertex_bytes 4 1 2 ++ vertex_bytes 5 1 1

-- the twins of the last two walks, and the hop's times, change from case to case
unfoldable pub base_walks : ℕ → ℕ → List ℕ
base_walks t u =
    flat_map word
    (1 ∷ 0 ∷ 2000 ∷ 1 ∷ 0 ∷ 1 ∷ 2000 ∷ 0 ∷ 2 ∷ 1 ∷ 2500 ∷ 3 ∷ 1 ∷ 2 ∷ 2500 ∷ 2 ∷ 4 ∷ 3 ∷ 900 ∷ t ∷ 3 ∷ 4 ∷ 900 ∷ u ∷ [])

unfoldable pub base_hop : ℕ → ℕ → List ℕ
base_hop departure arrival = flat_map word (3 ∷ 1 ∷ departure ∷ arrival ∷ [])

-- tables, and room for so many records in buffers that are not clean
abbrev pub lend : ℕ → ℕ → ℕ → ℕ → ℕ → ℕ → Lent
lend t u departure arrival held settled =
    record {
      vertices = base_vertices;
      walks = base_walks t u;
      hops = base_hop departure arrival;
      hop_size = 16;
      held = replicate (16 * held) 7;
      settled = replicate (8 * settled) 7;
    }

abbrev pub ask : ℕ → ℕ → ℕ → Query
ask walk offset duration = record { walk = walk; offset = offset; arrival = midnight + 36000; duration = duration; speed = 10 }

abbrev pub base_query : Query
base_query = ask 1 1500 300

-- the base job with room for 5 and 5 records; with other rooms; with another hop; with walks 4 and 5 one-way
abbrev pub base : Lent
base = lend 5 4 35760 35880 5 5

abbrev pub rooms : ℕ → ℕ → Lent
rooms held settled = lend 5 4 35760 35880 held settled

abbrev pub hop_at : ℕ → ℕ → Lent
hop_at departure arrival = lend 5 4 departure arrival 5 5

abbrev pub one_way : Lent
one_way = lend none none 35760 35880 5 5

-- ---- the pair: a run, then the parts of its own list
abbrev pub parts_over : Lent → List ℕ → List ℕ → PartsLent
parts_over b list parts = record { vertices = b.vertices; walks = b.walks; hops = b.hops; hop_size = b.hop_size; list = list; parts = parts }

-- ---- what a row looks at: the numbers, or the records of one buffer, as 4-byte words
abbrev pub words : List ℕ → List ℕ
words (a ∷ b ∷ c ∷ d ∷ rest) = (((a * 256 + b) * 256 + c) * 256 + d) ∷ words rest
words (a ∷ b ∷ c ∷ []) = []
words (a ∷ b ∷ []) = []
words (a ∷ []) = []
words [] = []

abbrev pub numbers : Answer → List ℕ
numbers a = a.refusal ∷ a.place ∷ a.settled_count ∷ a.held_count ∷ a.finished ∷ []

abbrev pub settled_of : Answer → List ℕ
settled_of a = take (2 * a.settled_count) (words a.settled)

abbrev pub part_numbers : PartsAnswer → List ℕ
part_numbers p = p.refusal ∷ p.place ∷ p.part_count ∷ []

abbrev pub parts_of : PartsAnswer → List ℕ
parts_of p = take (3 * p.part_count) (words p.parts)

abbrev pub held_of : Answer → List ℕ
held_of a = take (4 * a.held_count) (words a.held)

abbrev pub refused : ℕ → ℕ → List ℕ
refused number place = number ∷ place ∷ 0 ∷ 0 ∷ 0 ∷ []

-- a run at a limit, and the parts of its list in a part buffer
pub record Case : Type 0 where
  pub lent : Lent
  pub parts : List ℕ
  pub query : Query
  pub limit : ℕ
  pub view : Answer → PartsAnswer → List ℕ
  pub want : List ℕ

abbrev pub when : Lent → Query → ℕ → (Answer → List ℕ) → List ℕ → Case
when lent query limit view want = record { lent = lent; parts = []; query = query; limit = limit; view = λ a p. view a; want = want }

-- with room for so many parts
abbrev pub parted : Lent → ℕ → Query → (PartsAnswer → List ℕ) → List ℕ → Case
parted lent room query view want = record { lent = lent; parts = replicate (12 * room) 7; query = query; limit = none; view = λ a p. view p; want = want }

-- ---- M1 to M10, and the whole output of the base job before them
unfoldable pub marked : List Case
marked =
    when base base_query none numbers (0 ∷ 0 ∷ 4 ∷ 1 ∷ 1 ∷ [])
    ∷ when base base_query none settled_of (1 ∷ 500 ∷ 0 ∷ 1500 ∷ 3 ∷ 2400 ∷ 2 ∷ 3000 ∷ [])
    ∷ parted base 20 base_query part_numbers (0 ∷ 0 ∷ 6 ∷ [])
    ∷ parted base 20 base_query parts_of (1 ∷ 0 ∷ 1500 ∷ 0 ∷ 0 ∷ 500 ∷ 1 ∷ 1500 ∷ 2000 ∷ 2 ∷ 0 ∷ 2500 ∷ 0 ∷ 500 ∷ 2000 ∷ 4 ∷ 300 ∷ 900 ∷ [])
    ∷ when base base_query none held_of (3 ∷ 2400 ∷ 1 ∷ 1 ∷ [])
    -- M1 to M4: limits 0 to 3
    ∷ when base base_query 0 held_of (0 ∷ 1500 ∷ 0 ∷ 1 ∷ 1 ∷ 500 ∷ 0 ∷ 2 ∷ [])
    ∷ when base base_query 1 held_of (0 ∷ 1500 ∷ 0 ∷ 0 ∷ 1 ∷ 500 ∷ 1 ∷ 2 ∷ 2 ∷ 3000 ∷ 0 ∷ 0 ∷ 3 ∷ 2400 ∷ 0 ∷ 1 ∷ [])
    ∷ when base base_query 2 held_of (1 ∷ 500 ∷ 1 ∷ 1 ∷ 2 ∷ 3000 ∷ 0 ∷ 0 ∷ 3 ∷ 2400 ∷ 0 ∷ 1 ∷ [])
    ∷ when base base_query 3 held_of (1 ∷ 500 ∷ 1 ∷ 1 ∷ 2 ∷ 3000 ∷ 0 ∷ 0 ∷ 3 ∷ 2400 ∷ 1 ∷ 1 ∷ [])
    -- M5: a second less, and vertex 2 is hopeless as soon as it is met: three slots are enough
    ∷ when base (ask 1 1500 299) none settled_of (1 ∷ 500 ∷ 0 ∷ 1500 ∷ 3 ∷ 2400 ∷ [])
    ∷ when (rooms 3 5) (ask 1 1500 299) 1 held_of (0 ∷ 1500 ∷ 0 ∷ 0 ∷ 1 ∷ 500 ∷ 1 ∷ 2 ∷ 3 ∷ 2400 ∷ 0 ∷ 1 ∷ [])
    ∷ when (rooms 2 5) (ask 1 1500 299) none numbers (refused 8 1)
    ∷ parted base 20 (ask 1 1500 299) parts_of (1 ∷ 0 ∷ 1500 ∷ 0 ∷ 0 ∷ 500 ∷ 1 ∷ 1500 ∷ 2000 ∷ 2 ∷ 10 ∷ 2500 ∷ 0 ∷ 510 ∷ 2000 ∷ 4 ∷ 310 ∷ 900 ∷ [])
    -- M6: a hop that is just in time, and one that is a second late
    ∷ when (hop_at 35760 35950) base_query none settled_of (1 ∷ 500 ∷ 0 ∷ 1500 ∷ 3 ∷ 2400 ∷ 2 ∷ 3000 ∷ [])
    ∷ when (hop_at 35760 35951) base_query 1 held_of (0 ∷ 1500 ∷ 0 ∷ 0 ∷ 1 ∷ 500 ∷ 1 ∷ 2 ∷ 2 ∷ 3000 ∷ 0 ∷ 0 ∷ 3 ∷ none ∷ 0 ∷ 1 ∷ [])
    -- M7: held room
    ∷ when (rooms 4 5) base_query none numbers (0 ∷ 0 ∷ 4 ∷ 1 ∷ 1 ∷ [])
    ∷ when (rooms 3 5) base_query none numbers (refused 8 1)
    -- M8: part room, settled room
    ∷ parted base 5 base_query part_numbers (10 ∷ 3 ∷ 0 ∷ [])
    ∷ when (rooms 5 3) base_query none numbers (refused 9 4)
    -- M9: the query on a one-way road, at its end, just before it, beyond it
    ∷ when one_way (ask 5 900 300) 0 held_of (3 ∷ 900 ∷ 0 ∷ 2 ∷ 4 ∷ 0 ∷ 0 ∷ 1 ∷ [])
    ∷ when one_way (ask 5 899 300) 0 held_of (3 ∷ 899 ∷ 0 ∷ 2 ∷ [])
    ∷ when one_way (ask 5 901 300) none numbers (refused 7 1)
    -- M10: a ride of no time is accepted
    ∷ when (hop_at 35880 35880) base_query none numbers (0 ∷ 0 ∷ 5 ∷ 0 ∷ 1 ∷ [])
    ∷ when (hop_at 35880 35880) base_query none settled_of (1 ∷ 500 ∷ 3 ∷ 1200 ∷ 0 ∷ 1500 ∷ 4 ∷ 2100 ∷ 2 ∷ 3000 ∷ [])
    ∷ []
