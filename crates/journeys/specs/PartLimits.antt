-- The parts operation at the limits of its list and of its room, over the base job, as one table. Assumes nothing.
use mathlib.Core.List.{List, [], ◌∷◌, ◌++◌, flat_map}
use Rattle.std.specs.Prelude.{ℕ, ◌+◌, ◌*◌, take, replicate}
use Rattle.journeys.specs.Bytes.{word, midnight}
use Rattle.journeys.specs.Query.{Query}
use Rattle.journeys.specs.Answers.{Lent}
use Rattle.journeys.specs.PartAnswers.{PartsLent, PartsAnswer}
use Rattle.journeys.specs.Marked.{base, base_query, base_vertices, parts_over}
use Rattle.journeys.specs.Limits.{vertex_bytes_of, walk_field, vertex_field, sized, trips, querying}

pub record PartsCase : Type 0 where
  pub lent : PartsLent
  pub query : Query
  pub want : List ℕ

-- what a row looks at: the three numbers and every byte of the part buffer
abbrev pub whole : PartsAnswer → List ℕ
whole p = p.refusal ∷ p.place ∷ p.part_count ∷ p.parts

-- the entries (vertex, distance) as bytes; room for so many parts, which is not clean
abbrev pub over : Lent → List ℕ → ℕ → PartsLent
over b entries room = parts_over b (flat_map word entries) (replicate (12 * room) 7)

abbrev pub listed : List ℕ → ℕ → List ℕ → PartsCase
listed entries room want = record { lent = over base entries room; query = base_query; want = want }

-- a refusal that leaves so many records, all of their bytes x
abbrev pub leaves : ℕ → ℕ → ℕ → ℕ → List ℕ
leaves number place room x = number ∷ place ∷ 0 ∷ replicate (12 * room) x

abbrev pub parts : List ℕ → ℕ → List ℕ → List ℕ
parts ps free want = 0 ∷ 0 ∷ [] ++ want ++ flat_map word ps ++ replicate (12 * free) 0

unfoldable pub part_limits : List PartsCase
part_limits =
    -- the run's own list; no list at all: the parts of step 0; another order, and other distances up to D
    listed (1 ∷ 500 ∷ 0 ∷ 1500 ∷ 3 ∷ 2400 ∷ 2 ∷ 3000 ∷ []) 7
    (parts (1 ∷ 0 ∷ 1500 ∷ 0 ∷ 0 ∷ 500 ∷ 1 ∷ 1500 ∷ 2000 ∷ 2 ∷ 0 ∷ 2500 ∷ 0 ∷ 500 ∷ 2000 ∷ 4 ∷ 300 ∷ 900 ∷ []) 1 (6 ∷ []))
    ∷ listed [] 2 (parts (1 ∷ 0 ∷ 1500 ∷ 0 ∷ 0 ∷ 500 ∷ []) 0 (2 ∷ []))
    ∷ listed (3 ∷ 2400 ∷ 0 ∷ 1500 ∷ []) 4 (parts (1 ∷ 0 ∷ 1500 ∷ 0 ∷ 0 ∷ 500 ∷ 4 ∷ 300 ∷ 900 ∷ 0 ∷ 500 ∷ 2000 ∷ []) 0 (4 ∷ []))
    ∷ listed (4 ∷ 3000 ∷ 3 ∷ 2999 ∷ []) 3 (parts (1 ∷ 0 ∷ 1500 ∷ 0 ∷ 0 ∷ 500 ∷ 4 ∷ 899 ∷ 900 ∷ []) 0 (3 ∷ []))
    ∷ record { lent = over (trips 7) (3 ∷ 2400 ∷ 0 ∷ 1500 ∷ []) 4; query = base_query; want = parts (1 ∷ 0 ∷ 1500 ∷ 0 ∷ 0 ∷ 500 ∷ 4 ∷ 300 ∷ 900 ∷ 0 ∷ 500 ∷ 2000 ∷ []) 0 (4 ∷ []) }
    -- 21: a vertex that does not exist, a distance above D, of equal vertices the later; the first of them; the part buffer as it was
    ∷ listed (4 ∷ 3001 ∷ []) 1 (leaves 21 0 1 7)
    ∷ listed (5 ∷ 0 ∷ []) 1 (leaves 21 0 1 7)
    ∷ listed (1 ∷ 500 ∷ 0 ∷ 1500 ∷ 1 ∷ 500 ∷ []) 9 (leaves 21 2 9 7)
    ∷ listed (1 ∷ 500 ∷ 5 ∷ 0 ∷ 1 ∷ 500 ∷ []) 9 (leaves 21 1 9 7)
    -- the zero rest of a settled buffer reads as entries
    ∷ listed (1 ∷ 500 ∷ 0 ∷ 1500 ∷ 0 ∷ 0 ∷ []) 9 (leaves 21 2 9 7)
    ∷ listed (1 ∷ 500 ∷ 0 ∷ 0 ∷ []) 5 (parts (1 ∷ 0 ∷ 1500 ∷ 0 ∷ 0 ∷ 500 ∷ 1 ∷ 1500 ∷ 2000 ∷ 2 ∷ 0 ∷ 2500 ∷ 0 ∷ 500 ∷ 2000 ∷ []) 0 (5 ∷ []))
    -- 10: at step 0, at the first entry, at the third; the part buffer zero; 21 comes before it
    ∷ listed (1 ∷ 500 ∷ []) 1 (leaves 10 0 1 0)
    ∷ listed (1 ∷ 500 ∷ []) 3 (leaves 10 1 3 0)
    ∷ listed (1 ∷ 500 ∷ 0 ∷ 1500 ∷ 3 ∷ 2400 ∷ 2 ∷ 3000 ∷ []) 5 (leaves 10 3 5 0)
    ∷ listed (1 ∷ 500 ∷ 1 ∷ 500 ∷ []) 0 (leaves 21 1 0 7)
    -- 1, places 4 and 5, behind places 0 to 2 and before everything else; 2 and 7 before 21
    ∷ record { lent = parts_over base (replicate 7 0) (replicate 13 7); query = base_query; want = 1 ∷ 4 ∷ 0 ∷ replicate 13 7 }
    ∷ record { lent = parts_over (sized base 24) (replicate 7 0) (replicate 13 7); query = base_query; want = 1 ∷ 2 ∷ 0 ∷ replicate 13 7 }
    ∷ record { lent = parts_over (walk_field base 0 2 0) (replicate 8 0) (replicate 13 7); query = base_query; want = 1 ∷ 5 ∷ 0 ∷ replicate 13 7 }
    ∷ record { lent = parts_over (vertex_bytes_of base (take 59 base_vertices)) (replicate 7 0) []; query = base_query; want = 1 ∷ 0 ∷ 0 ∷ [] }
    ∷ record { lent = over (walk_field base 0 2 0) (5 ∷ 0 ∷ []) 1; query = base_query; want = leaves 2 0 1 7 }
    ∷ record { lent = over (vertex_field base 4 2 0) (5 ∷ 0 ∷ []) 1; query = base_query; want = leaves 6 4 1 7 }
    ∷ record { lent = over base (5 ∷ 0 ∷ []) 1; query = querying 1 1500 (midnight + 36000) 300 101; want = leaves 7 4 1 7 }
    ∷ []
