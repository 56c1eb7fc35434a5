-- The rules read off the definitions: the base job and faulty jobs. Assumes nothing.
use mathlib.Core.Path.{◌≡◌, refl}
use mathlib.Core.List.{List, [], ◌∷◌, ◌++◌, flat_map}
use Prim.Native.Nat.{ℕ, ◌+◌, ◌*◌}
use lib.IntN.{pos, negsuc}
use Rattle.journeys.specs.Counting.{count, joined}
use Rattle.journeys.specs.Bytes.{be32, clock, word}
use Rattle.journeys.specs.Marked.{vertex_bytes, base_vertices, base_walks, base_hop}
use Rattle.job.specs.Job.{Read, job, faulty, kind_at, of_kind, most, sound, first_faulty, be24, seconds, question_at, body, table_of, read_as, job_of}

abbrev vertex : ℕ → ℕ → ℕ → List ℕ
vertex walk hop departing = word 1 ++ vertex_bytes walk hop departing ++ word 0

abbrev five : ℕ → ℕ → ℕ → ℕ → ℕ → List ℕ
five kind a b c d = flat_map word (kind ∷ a ∷ b ∷ c ∷ d ∷ [])

-- record, offset, arrival, and duration with speed
abbrev query : List ℕ
query = five 4 1 1500 36000 (300 * 256 + 10)

abbrev base : List ℕ
base =
    vertex 0 0 1
    ++ vertex 1 0 2
    ++ vertex 3 1 1
    ++ vertex 4 1 2
    ++ vertex 5 1 1
    ++ five 2 1 0 2000 1
    ++ five 2 0 1 2000 0
    ++ five 2 2 1 2500 3
    ++ five 2 1 2 2500 2
    ++ five 2 4 3 900 5
    ++ five 2 3 4 900 4
    ++ five 3 3 1 35760 35880
    ++ query

-- what is read, to be unfolded whole
what : List ℕ → Read
unfolding word vertex_bytes flat_map job_of read_as first_faulty sound of_kind count most kind_at be32 be24 question_at seconds clock
what s = job_of s

pub base_read : job_of base ≡ job 5 6 1 (record { walk = 1; offset = 1500; arrival = pos 36000; duration = 300; speed = 10 })
unfolding what
base_read = refl

tables : List ℕ → ℕ → ℕ → List ℕ
unfolding word vertex_bytes flat_map table_of joined body kind_at be32 base_vertices base_walks base_hop
tables s kind size = table_of s kind size

pub base-tables : (table_of base 1 12 ≡ base_vertices) × (table_of base 2 16 ≡ base_walks 5 4) × (table_of base 3 16 ≡ base_hop 35760 35880)
unfolding tables
base-tables = (refl, refl, refl)

-- nothing; the query missing; the query alone; kind, order, pad, after the query, cut
pub faults :
    (job_of [] ≡ faulty 0)
    × (job_of (vertex 0 0 0) ≡ faulty 1)
    × (job_of (five 4 1 2 4294967295 258) ≡ job 0 0 0 (record { walk = 1; offset = 2; arrival = negsuc 0; duration = 1; speed = 2 }))
    × (job_of (five 5 0 0 0 0 ++ query) ≡ faulty 0)
    × (job_of (five 0 0 0 0 0 ++ query) ≡ faulty 0)
    × (job_of (five 2 0 0 0 0 ++ vertex 0 0 0 ++ query) ≡ faulty 1)
    × (job_of (vertex 0 0 0 ++ five 1 0 0 0 1 ++ query) ≡ faulty 1)
    × (job_of (vertex 0 0 0 ++ query ++ query) ≡ faulty 2)
    × (job_of (vertex 0 0 0 ++ query ++ five 3 0 0 0 0) ≡ faulty 2)
    × (job_of (vertex 0 0 0 ++ query ++ (0 ∷ [])) ≡ faulty 2)
    × (job_of (vertex 0 0 0 ++ word 4) ≡ faulty 1)
unfolding what
faults = (refl, refl, refl, refl, refl, refl, refl, refl, refl, refl, refl)
