-- Pairs of stops that give a hop, and the hop as a table has it. Assumes nothing.
use Rattle.std.specs.Prelude.{◌≡◌, ◌≢◌, true, List, ℕ, ◌+◌, ◌*◌, ◌<◌, length, take}
use Rattle.journeys.specs.Bytes.{be32, midnight}
use Rattle.journeys.specs.Tables.{Hop, hop_at, Tables, tables_of}
use Rattle.feed.specs.Stops.{Stop}
use Rattle.feed.specs.Trips.{stop, next}
use Rattle.feed.specs.Answers.{Feed, feed_refusal, hop_count, target_after}

-- consecutive timed stops of one trip, at different vertices
pub record Pair (S : List Stop) (p i : ℕ) : Type 0 where
  pub departs : p < length S
  pub arrives : i < length S
  pub consecutive : next S p i ≡ true
  pub apart : (stop S p).vertex ≢ (stop S i).vertex

-- the hop of a pair, its times counted as a table's are
abbrev pub hop_between : List Stop → ℕ → ℕ → Hop
hop_between S p i = record { from = (stop S p).vertex; to = (stop S i).vertex; departure = midnight + (stop S p).departure; arrival = midnight + (stop S i).arrival }

-- hop j of a table of 20-byte records is that of the pair, and has its trip's number
pub record Stands (b : List ℕ) (j : ℕ) (S : List Stop) (p i : ℕ) : Type 0 where
  pub hop : hop_at 20 b j ≡ hop_between S p i
  pub trip : be32 b (20 * j + 16) ≡ (stop S p).trip_number

-- nothing is refused
abbrev pub Accepted : Feed → Type 0
Accepted F = (feed_refusal F).number ≡ 0

-- the hops that the answer counts, as a hop table
abbrev pub hop_table : Feed → List ℕ
hop_table F = take (20 * hop_count F) (target_after F)
