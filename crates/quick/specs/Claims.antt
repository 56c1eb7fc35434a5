-- What a vertex claims, and what is counted against it. With `pairs` a walk with a twin is counted where it arrives, in the vertex's own run, and every other record where it leaves. Assumes nothing.
use Rattle.std.specs.Prelude.{◌≡◌, ℕ, ◌+◌, ◌-◌, ◌*◌, ◌/◌, ◌<◌, ◌≤◌, Bool, true, false, cond, not, ◌&&◌, ◌||◌, List, length, ◌==◌, nat_eq, nat_le, nat_lt}
use Rattle.journeys.specs.Counting.{none, count}
use Rattle.journeys.specs.Bytes.{be32}
use Rattle.journeys.specs.Tables.{vertex_at}
use Rattle.records.specs.Columns.{records_in, from_at, to_at, arriving_below}
use Rattle.records.specs.Arriving.{first_of, end_of}
use Rattle.records.specs.declared.Kind.TheVariants.{Walks}

-- the twin of a walk
abbrev pub twin_at : List ℕ → ℕ → ℕ
twin_at t i = be32 t (16 * i + 12)

-- record i of records of a size leaves v and is counted there; `pairs` is asked of walks alone
unfoldable pub leaves : Bool → ℕ → List ℕ → ℕ → ℕ → Bool
leaves pairs size t v i = (not pairs || twin_at t i == none) && from_at size t i == v

-- walk i has a twin and arrives at v
unfoldable pub arrives : List ℕ → ℕ → ℕ → Bool
arrives t v i = not (twin_at t i == none) && to_at 16 t i == v

-- how many of the first i records leave v and are counted there, and how many of all
abbrev pub counted_to : Bool → ℕ → List ℕ → ℕ → ℕ → ℕ
counted_to pairs size t v i = count (leaves pairs size t v) i

abbrev pub counted : Bool → ℕ → List ℕ → ℕ → ℕ
counted pairs size t v = counted_to pairs size t v (records_in size t)

-- how many walks are counted at v because they arrive
unfoldable pub arriving : Bool → List ℕ → ℕ → ℕ
arriving pairs t v = cond pairs (count (arrives t v) (records_in 16 t)) 0

-- how many walks have no twin
unfoldable pub alone_in : List ℕ → ℕ
alone_in t = count (λ i. nat_eq (twin_at t i) none) (records_in 16 t)

-- the walks that arrive at v stand from its first up to its end
abbrev pub Run : List ℕ → List ℕ → ℕ → Type 0
Run vertices walks v =
    (first_of Walks (vertex_at vertices v) ≡ arriving_below 16 walks v) × (end_of Walks vertices (records_in 16 walks) v ≡ arriving_below 16 walks (v + 1))

-- the firsts and the zero field of v are right
unfoldable pub in_order : ℕ → List ℕ → List ℕ → List ℕ → ℕ → Bool
in_order size vertices walks hops v =
    let x = vertex_at vertices v in
    (x.first_walk == arriving_below 16 walks v) && x.first_hop == arriving_below size hops v && x.zeros == 0

-- and so of every vertex below `limit` and of the next, so that the run of each has its end
pub record Ordered (size : ℕ) (vertices walks hops : List ℕ) (limit : ℕ) : Type 0 where
  pub within : limit ≤ length vertices / 12
  pub own : (v : ℕ) → v < limit → in_order size vertices walks hops v ≡ true
  pub next : (v : ℕ) → v < limit → v + 1 < length vertices / 12 → in_order size vertices walks hops (v + 1) ≡ true

-- the departing field of v less the walks with a twin that arrive; 65,536 where they are more, and 0 from `limit` on
unfoldable pub claim_of : Bool → List ℕ → List ℕ → ℕ → ℕ → ℕ
claim_of pairs vertices walks limit v =
    let departing = (vertex_at vertices v).departing in
    cond (nat_lt v limit) (cond (nat_le (arriving pairs walks v) departing) (departing - arriving pairs walks v) 65536) 0

-- what v claims is what leaves it and is counted there
pub record Met (pairs : Bool) (size : ℕ) (vertices walks hops : List ℕ) (limit v : ℕ) : Type 0 where
  pub small : claim_of pairs vertices walks limit v < 65536
  pub exact : claim_of pairs vertices walks limit v ≡ counted pairs 16 walks v + counted false size hops v
