-- Each limit of the rules at its last good and its first bad value, over the base job, as one table beside the marked cases. Assumes nothing.
-- A row changes a word or a length of the base job; what the run then answers, and where bytes matter every byte that it leaves, stands behind it.
use Rattle.std.specs.Prelude.{List, [], ◌∷◌, ◌++◌, ℕ, ◌+◌, ◌-◌, ◌*◌, take, drop, replicate}
use Rattle.journeys.specs.Counting.{none}
use Rattle.journeys.specs.Bytes.{word, midnight}
use Rattle.journeys.specs.Query.{Query}
use Rattle.journeys.specs.Answers.{Lent, Answer}
use Rattle.journeys.specs.Marked.{Case, when, vertex_bytes, base_vertices, base_walks, base_hop, base, base_query, ask, rooms, one_way, numbers}

-- ---- how a row differs from the base job
-- the word at a place is x instead
unfoldable pub changed : List ℕ → ℕ → ℕ → List ℕ
changed b at x = take at b ++ word x ++ drop (at + 4) b

abbrev pub vertex_bytes_of : Lent → List ℕ → Lent
vertex_bytes_of b v = record { vertices = v; walks = b.walks; hops = b.hops; hop_size = b.hop_size; held = b.held; settled = b.settled }

abbrev pub walk_bytes_of : Lent → List ℕ → Lent
walk_bytes_of b w = record { vertices = b.vertices; walks = w; hops = b.hops; hop_size = b.hop_size; held = b.held; settled = b.settled }

abbrev pub hop_bytes_of : Lent → List ℕ → Lent
hop_bytes_of b h = record { vertices = b.vertices; walks = b.walks; hops = h; hop_size = b.hop_size; held = b.held; settled = b.settled }

-- hops of a size that is named; the base job with hops of 20 bytes, of any trip
abbrev pub sized : Lent → ℕ → Lent
sized b size = record { vertices = b.vertices; walks = b.walks; hops = b.hops; hop_size = size; held = b.held; settled = b.settled }

abbrev pub trips : ℕ → Lent
trips trip = sized (hop_bytes_of base (base.hops ++ word trip)) 20

-- so many bytes in each of the lent buffers
abbrev pub buffers : Lent → ℕ → ℕ → Lent
buffers b held settled = record { vertices = b.vertices; walks = b.walks; hops = b.hops; hop_size = b.hop_size; held = replicate held 7; settled = replicate settled 7 }

-- field k of record i: of a walk (0 from, 1 to, 2 length, 3 twin), of a hop (0 from, 1 to, 2 departure, 3 arrival, 4 trip), of a vertex (0 first walk, 1 first hop,
-- 2 departing and zero)
abbrev pub walk_field : Lent → ℕ → ℕ → ℕ → Lent
walk_field b i k x = walk_bytes_of b (changed b.walks (16 * i + 4 * k) x)

abbrev pub hop_field : Lent → ℕ → ℕ → ℕ → Lent
hop_field b j k x = hop_bytes_of b (changed b.hops (b.hop_size * j + 4 * k) x)

abbrev pub vertex_field : Lent → ℕ → ℕ → ℕ → Lent
vertex_field b v k x = vertex_bytes_of b (changed b.vertices (12 * v + 4 * k) x)

-- a second of the day before, as 32 bits
abbrev pub minus : ℕ → ℕ
minus x = 4294967296 - x

-- one vertex and nothing else; a second hop behind the base job's, from vertex 3 to `to`
abbrev pub alone : Lent
alone = hop_bytes_of (walk_bytes_of (vertex_bytes_of base (vertex_bytes 0 0 0)) []) []

abbrev pub two_hops : ℕ → Lent
two_hops to =
    hop_bytes_of (vertex_bytes_of base (vertex_bytes 0 0 1 ++ vertex_bytes 1 0 2 ++ vertex_bytes 3 2 1 ++ vertex_bytes 4 2 3 ++ vertex_bytes 5 2 1))
    (base_hop 35760 35880 ++ word 3 ++ word to ++ word 35760 ++ word 35880)

abbrev pub querying : ℕ → ℕ → ℕ → ℕ → ℕ → Query
querying walk offset arrival duration speed = record { walk = walk; offset = offset; arrival = arrival; duration = duration; speed = speed }

-- ---- what a row looks at: number and place; or the numbers and every byte of both buffers
abbrev pub verdict : Answer → List ℕ
verdict a = a.refusal ∷ a.place ∷ []

abbrev pub whole : Answer → List ℕ
whole a = numbers a ++ a.held ++ a.settled

abbrev pub good : List ℕ
good = 0 ∷ 0 ∷ []

abbrev pub bad : ℕ → ℕ → List ℕ
bad number place = number ∷ place ∷ []

-- a refusal that leaves so many bytes in the buffers, all of them x
abbrev pub leaves : ℕ → ℕ → ℕ → ℕ → List ℕ
leaves number place bytes x = number ∷ place ∷ 0 ∷ 0 ∷ 0 ∷ replicate bytes x

abbrev pub tried : Lent → List ℕ → Case
tried b want = when b base_query none verdict want

abbrev pub queried : Query → List ℕ → Case
queried Q want = when base Q none verdict want

abbrev pub roomed : ℕ → ℕ → ℕ → List ℕ → Case
roomed held settled limit want = when (rooms held settled) base_query limit whole want

-- ---- 1: lengths, places 0 to 4. (The largest counts are laws: proofs/Limits.)
unfoldable pub length_limits : List Case
length_limits =
    tried (vertex_bytes_of base []) (bad 1 0)
    ∷ tried alone (bad 7 0)
    ∷ tried (vertex_bytes_of base (take 59 base_vertices)) (bad 1 0)
    ∷ tried (vertex_bytes_of base (0 ∷ base_vertices)) (bad 1 0)
    ∷ tried (walk_bytes_of base (take 95 base.walks)) (bad 1 1)
    ∷ tried (walk_bytes_of base (0 ∷ base.walks)) (bad 1 1)
    ∷ tried (hop_bytes_of base (take 15 base.hops)) (bad 1 2)
    ∷ tried (hop_bytes_of base (0 ∷ base.hops)) (bad 1 2)
    -- the size of a hop: 16 or 20, of an empty table too
    ∷ tried (sized base 0) (bad 1 2)
    ∷ tried (sized base 12) (bad 1 2)
    ∷ tried (sized base 20) (bad 1 2)
    ∷ tried (sized (hop_bytes_of base (replicate 24 0)) 24) (bad 1 2)
    ∷ tried (sized (hop_bytes_of base []) 0) (bad 1 2)
    ∷ tried (sized (hop_bytes_of base []) 20) (bad 6 2)
    ∷ tried (sized (trips 0) 16) (bad 1 2)
    ∷ tried (trips 0) good
    ∷ tried (trips none) good
    ∷ tried (buffers base 79 40) (bad 1 3)
    ∷ tried (buffers base 81 40) (bad 1 3)
    ∷ tried (buffers base 80 39) (bad 1 4)
    ∷ tried (buffers base 80 41) (bad 1 4)
    ∷ tried (buffers base 80 40) good
    ∷ []

-- ---- 2: ends, length, twin
unfoldable pub walk_limits : List Case
walk_limits =
    tried one_way good
    ∷ tried (walk_field one_way 4 0 5) (bad 2 4)
    ∷ tried (walk_field one_way 4 1 5) (bad 2 4)
    ∷ tried (walk_field one_way 4 0 3) (bad 2 4)
    ∷ tried (walk_field one_way 4 2 0) (bad 2 4)
    ∷ tried (walk_field one_way 4 2 1) good
    ∷ tried (walk_field one_way 4 2 100000) good
    ∷ tried (walk_field one_way 4 2 100001) (bad 2 4)
    -- only FFFFFFFF is no twin; a twin is a record of the table, names this one back, has the ends swapped and the length equal
    ∷ tried (walk_field one_way 4 3 4294967294) (bad 2 4)
    ∷ tried (walk_field base 4 3 6) (bad 2 4)
    ∷ tried (walk_field base 4 3 4) (bad 2 4)
    ∷ tried (walk_field one_way 4 3 5) (bad 2 4)
    ∷ tried (walk_field one_way 5 3 4) (bad 2 5)
    ∷ tried (walk_field base 5 2 901) (bad 2 4)
    ∷ tried (walk_field (walk_field (walk_field base 0 3 2) 2 3 0) 0 2 2500) (bad 2 0)
    ∷ tried (walk_field base 1 1 2) (bad 2 0)
    ∷ []

-- ---- 3: ends, times
unfoldable pub hop_limits : List Case
hop_limits =
    tried (hop_field base 0 0 5) (bad 3 0)
    ∷ tried (hop_field base 0 1 5) (bad 3 0)
    ∷ tried (hop_field base 0 1 3) (bad 3 0)
    ∷ tried (hop_field base 0 2 (minus 86400)) good
    ∷ tried (hop_field base 0 2 (minus 86401)) (bad 3 0)
    ∷ tried (hop_field base 0 3 172800) good
    ∷ tried (hop_field base 0 3 172801) (bad 3 0)
    ∷ tried (hop_field base 0 2 35880) good
    ∷ tried (hop_field base 0 2 35881) (bad 3 0)
    -- with a trip the fields stand where they stood
    ∷ tried (hop_field (trips 7) 0 3 172801) (bad 3 0)
    ∷ tried (hop_field (trips 7) 0 4 172801) good
    ∷ []

-- ---- 4 and 5: "to" not below the one before; 6: firsts, departing, zero
unfoldable pub order_limits : List Case
order_limits =
    tried (walk_field one_way 5 1 2) (bad 4 5)
    ∷ tried (two_hops 1) good
    ∷ tried (two_hops 0) (bad 5 1)
    ∷ tried (sized (hop_bytes_of (two_hops 1) (base.hops ++ word 9 ++ base.hops ++ word 0)) 20) good
    ∷ tried (sized (hop_bytes_of (two_hops 1) (base.hops ++ word 0 ++ word 3 ++ word 0 ++ word 35760 ++ word 35880 ++ word 0)) 20) (bad 5 1)
    ∷ tried (vertex_field base 2 0 2) (bad 6 2)
    ∷ tried (vertex_field base 2 0 4) (bad 6 2)
    ∷ tried (vertex_field base 0 0 1) (bad 6 0)
    ∷ tried (vertex_field base 4 0 6) (bad 6 4)
    ∷ tried (vertex_field base 1 1 1) (bad 6 1)
    ∷ tried (vertex_field base 2 1 0) (bad 6 2)
    ∷ tried (vertex_field base 1 2 (1 * 65536)) (bad 6 1)
    ∷ tried (vertex_field base 1 2 (3 * 65536)) (bad 6 1)
    ∷ tried (vertex_field base 1 2 (2 * 65536)) good
    ∷ tried (vertex_field base 1 2 (2 * 65536 + 1)) (bad 6 1)
    ∷ tried (vertex_field base 1 2 (2 * 65536 + 256)) (bad 6 1)
    ∷ []

-- ---- 7: record, offset, arrival, duration, speed
unfoldable pub query_limits : List Case
query_limits =
    queried (querying 5 0 (midnight + 36000) 300 10) good
    ∷ queried (querying 6 0 (midnight + 36000) 300 10) (bad 7 0)
    ∷ queried (querying 1 2000 (midnight + 36000) 300 10) good
    ∷ queried (querying 1 2001 (midnight + 36000) 300 10) (bad 7 1)
    ∷ queried (querying 1 1500 midnight 300 10) good
    ∷ queried (querying 1 1500 (midnight - 1) 300 10) (bad 7 2)
    ∷ queried (querying 1 1500 (midnight + 172800) 300 10) good
    ∷ queried (querying 1 1500 (midnight + 172801) 300 10) (bad 7 2)
    ∷ queried (querying 1 1500 (midnight + 36000) 1 10) good
    ∷ queried (querying 1 1500 (midnight + 36000) 0 10) (bad 7 3)
    ∷ queried (querying 1 1500 (midnight + 36000) 86400 10) good
    ∷ queried (querying 1 1500 (midnight + 36000) 86401 10) (bad 7 3)
    ∷ queried (querying 1 1500 (midnight + 36000) 300 1) good
    ∷ queried (querying 1 1500 (midnight + 36000) 300 0) (bad 7 4)
    ∷ queried (querying 1 1500 (midnight + 36000) 300 100) good
    ∷ queried (querying 1 1500 (midnight + 36000) 300 101) (bad 7 4)
    ∷ []

-- ---- two faults: the lower number, then the lower place
unfoldable pub first_reasons : List Case
first_reasons =
    tried (walk_bytes_of (vertex_bytes_of base []) (take 95 base.walks)) (bad 1 0)
    ∷ tried (sized (walk_bytes_of base (take 95 base.walks)) 24) (bad 1 1)
    ∷ tried (buffers (sized base 24) 79 40) (bad 1 2)
    ∷ tried (buffers (hop_bytes_of base (take 15 base.hops)) 79 40) (bad 1 2)
    ∷ tried (buffers base 79 39) (bad 1 3)
    ∷ tried (buffers (walk_field base 0 2 0) 80 39) (bad 1 4)
    ∷ tried (hop_field (walk_field one_way 5 2 0) 0 2 35881) (bad 2 5)
    ∷ tried (hop_field (walk_field one_way 5 1 2) 0 2 35881) (bad 3 0)
    ∷ tried (walk_field (walk_field (walk_field (two_hops 0) 4 3 none) 5 3 none) 5 1 2) (bad 4 5)
    ∷ tried (vertex_field (two_hops 0) 0 0 1) (bad 5 1)
    ∷ when (vertex_field base 4 2 0) (querying 6 0 midnight 0 0) none verdict (bad 6 4)
    ∷ queried (querying 1 2001 (midnight - 1) 0 0) (bad 7 1)
    ∷ queried (querying 1 2000 (midnight - 1) 0 0) (bad 7 2)
    ∷ queried (querying 1 2000 midnight 0 0) (bad 7 3)
    ∷ []

-- ---- room exact, and one record less: 8 and 9 at their step with every byte of both buffers zero; 1 to 7 with every byte as it was
unfoldable pub room_limits : List Case
room_limits =
    roomed 4 4 none
    (0 ∷ 0 ∷ 4 ∷ 1 ∷ 1 ∷ []
    ++ word 3 ++ word 2400 ++ word 1 ++ word 1 ++ replicate 48 0
    ++ word 1 ++ word 500 ++ word 0 ++ word 1500 ++ word 3 ++ word 2400 ++ word 2 ++ word 3000)
    -- the same journeys where the hop has a trip
    ∷ when (buffers (trips 7) 64 32) base_query none whole
    (0 ∷ 0 ∷ 4 ∷ 1 ∷ 1 ∷ []
    ++ word 3 ++ word 2400 ++ word 1 ++ word 1 ++ replicate 48 0
    ++ word 1 ++ word 500 ++ word 0 ++ word 1500 ++ word 3 ++ word 2400 ++ word 2 ++ word 3000)
    ∷ roomed 3 4 none (leaves 8 1 80 0)
    ∷ roomed 4 3 none (leaves 9 4 88 0)
    ∷ roomed 3 0 none (leaves 8 1 48 0)
    ∷ roomed 4 0 none (leaves 9 1 64 0)
    ∷ roomed 4 0 0 (0 ∷ 0 ∷ 0 ∷ 2 ∷ 0 ∷ [] ++ word 0 ++ word 1500 ++ word 0 ++ word 1 ++ word 1 ++ word 500 ++ word 0 ++ word 2 ++ replicate 32 0)
    ∷ roomed 2 0 0 (0 ∷ 0 ∷ 0 ∷ 2 ∷ 0 ∷ [] ++ word 0 ++ word 1500 ++ word 0 ++ word 1 ++ word 1 ++ word 500 ++ word 0 ++ word 2)
    ∷ roomed 1 0 0 (leaves 8 0 16 0)
    ∷ roomed 0 0 none (leaves 8 0 0 0)
    ∷ when (rooms 2 1) (querying 6 0 (midnight + 36000) 300 10) none whole (leaves 7 0 40 7)
    ∷ when (buffers base 17 8) base_query none whole (leaves 1 3 25 7)
    ∷ when (walk_field (rooms 2 1) 0 2 0) base_query none whole (leaves 2 0 40 7)
    ∷ []

unfoldable pub limits : List Case
limits = length_limits ++ walk_limits ++ hop_limits ++ order_limits ++ query_limits ++ first_reasons ++ room_limits
