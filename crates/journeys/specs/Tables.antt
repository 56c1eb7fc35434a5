-- The three tables, RULES 3: records of fixed size with no header, numbered from 0. Assumes nothing.
use Rattle.std.specs.Prelude.{List, [], ◌∷◌, ℕ, ◌+◌, ◌*◌, ◌/◌, ◌%◌, length, get_or}
use Rattle.journeys.specs.Counting.{joined}
use Rattle.journeys.specs.Bytes.{be16, be32, clock}

pub record Vertex : Type 0 where
  pub first_walk : ℕ
  pub first_hop : ℕ
  pub departing : ℕ
  pub zeros : ℕ

-- the length is in decimetres; the wait, in seconds, is spent at "to"
pub record Walk : Type 0 where
  pub from : ℕ
  pub to : ℕ
  pub len : ℕ
  pub wait : ℕ
  pub twin : ℕ

-- the times are in seconds by `clock`
pub record Hop : Type 0 where
  pub from : ℕ
  pub to : ℕ
  pub departure : ℕ
  pub arrival : ℕ

-- the record at a number
unfoldable pub vertex_at : List ℕ → ℕ → Vertex
vertex_at b i =
    record { first_walk = be32 b (12 * i); first_hop = be32 b (12 * i + 4); departing = be16 b (12 * i + 8); zeros = be16 b (12 * i + 10) }

-- of the four bytes of a walk's length the first is the wait and the other three the length
abbrev pub len_of : ℕ → ℕ
len_of bits = bits % 16777216

abbrev pub wait_of : ℕ → ℕ
wait_of bits = bits / 16777216

unfoldable pub walk_at : List ℕ → ℕ → Walk
walk_at b i =
    record { from = be32 b (16 * i); to = be32 b (16 * i + 4); len = len_of (be32 b (16 * i + 8)); wait = wait_of (be32 b (16 * i + 8)); twin = be32 b (16 * i + 12) }

-- of hops of a size, 16 bytes or 20: the last four of 20 are the trip, which no journey asks for
unfoldable pub hop_at : ℕ → List ℕ → ℕ → Hop
hop_at size b j =
    record { from = be32 b (size * j); to = be32 b (size * j + 4); departure = clock (be32 b (size * j + 8)); arrival = clock (be32 b (size * j + 12)) }

pub record Tables : Type 0 where
  pub vertices : List Vertex
  pub walks : List Walk
  pub hops : List Hop

-- the bytes as tables, the size of a hop first
unfoldable pub tables_of : ℕ → List ℕ → List ℕ → List ℕ → Tables
tables_of size v w h =
    record {
      vertices = joined (λ i. vertex_at v i ∷ []) (length v / 12);
      walks = joined (λ i. walk_at w i ∷ []) (length w / 16);
      hops = joined (λ j. hop_at size h j ∷ []) (length h / size);
    }

abbrev pub vertex_count : Tables → ℕ
vertex_count N = length N.vertices

abbrev pub walk_count : Tables → ℕ
walk_count N = length N.walks

abbrev pub hop_count : Tables → ℕ
hop_count N = length N.hops

abbrev pub vertex : Tables → ℕ → Vertex
vertex N v = get_or N.vertices v (record { first_walk = 0; first_hop = 0; departing = 0; zeros = 0 })

abbrev pub walk : Tables → ℕ → Walk
walk N i = get_or N.walks i (record { from = 0; to = 0; len = 0; wait = 0; twin = 0 })

abbrev pub hop : Tables → ℕ → Hop
hop N j = get_or N.hops j (record { from = 0; to = 0; departure = 0; arrival = 0 })
