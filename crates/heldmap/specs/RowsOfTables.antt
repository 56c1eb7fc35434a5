-- The row of a vertex in either direction, as it is read from the tables and the list of records by where they leave. Assumes nothing.
use Rattle.std.specs.Prelude.{◌≡◌, Bool, true, cond, List, ℕ, ◌+◌, ◌-◌, ◌*◌, ◌/◌, length}
use Rattle.journeys.specs.Tables.{vertex_at}
use Rattle.records.specs.Arriving.{first_of, end_of, run}
use Rattle.records.specs.declared.Kind.TheVariants.{Walks, Hops}
use Rattle.words.specs.declared.Seconds.{Seconds}
use Rattle.listing.specs.Places.{total, from_of}
use Rattle.stretches.specs.Stretch.{Right, stretch_of}
use Rattle.stretches.specs.declared.Stretch.{Stretch}
use Rattle.passing.specs.Row.{Row}
use Rattle.directed.specs.Directed.{row_in}
use Rattle.directed.specs.declared.Directed.{Directed}
use Rattle.heldmap.specs.Model.{walks_at, hops_at}

-- the courier's run has the right list of records; an ordinary one reads none
pub record Lists (c : Bool) (size : ℕ) (w h list : List ℕ) : Type 0 where
  pub right : c ≡ true → Right (from_of size w h) (total size w h) list
  pub long : c ≡ true → length list ≡ 4 * total size w h

-- where the numbers of x stand in the list; an ordinary row has none
unfoldable pub stretch_in : Bool → ℕ → List ℕ → List ℕ → ℕ → Stretch
stretch_in c size w h x = cond c (stretch_of size w h x) (record { first = 0; many = 0 })

-- the part of the list that they are
unfoldable pub numbers_at : List ℕ → Stretch → List ℕ
numbers_at list s = run 4 list s.first (s.first + s.many)

-- an ordinary row reads a part of each table, the courier's reads the whole tables
unfoldable pub walks_in : Bool → List ℕ → List ℕ → ℕ → List ℕ
walks_in c v w x = cond c w (walks_at v w x)

unfoldable pub hops_in : Bool → ℕ → List ℕ → List ℕ → ℕ → List ℕ
hops_in c size v h x = cond c h (hops_at size v h x)

-- how many records the row has, and what they ask, where x is settled at d and D is allowed
unfoldable pub directed_at : Bool → ℕ → List ℕ → List ℕ → List ℕ → Stretch → ℕ → ℕ → Seconds → ℕ → ℕ → Directed
directed_at c size v w h s x d A speed D =
    record {
      arriving = record {
        walks = cond c s.many (end_of Walks v (length w / 16) x - first_of Walks (vertex_at v x));
        hops = cond c 0 (end_of Hops v (length h / size) x - first_of Hops (vertex_at v x));
        size = size;
        distance = record { 0 = d };
        arrival = A;
        speed = speed;
        allowed = record { 0 = D };
      };
      courier = c;
      ways = length w / 16;
      rides = length h / size;
    }

-- THE ROW of x
abbrev pub row_on : Bool → ℕ → List ℕ → List ℕ → List ℕ → List ℕ → ℕ → Directed → Row
row_on c size v w h list x a = row_in v (walks_in c v w x) (hops_in c size v h x) (numbers_at list (stretch_in c size w h x)) a
