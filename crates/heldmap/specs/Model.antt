-- The working table as the map that the definitions give. Assumes nothing.
use Rattle.std.specs.Prelude.{cond, List, [], ◌∷◌, ℕ, ◌-◌, ◌/◌, ◌<◌, ◌≤◌, eqb, length}
use Rattle.journeys.specs.Network.{Network, Held, entry}
use Rattle.journeys.specs.Tables.{vertex_at}
use Rattle.records.specs.Arriving.{first_of, end_of, run}
use Rattle.records.specs.declared.Kind.TheVariants.{Walks, Hops}
use Rattle.words.specs.declared.Seconds.{Seconds}
use Rattle.passing.specs.Row.{Row, row_of}
use Rattle.passing.specs.declared.Arriving.{Arriving}
use Rattle.worktable.specs.Map.{Entry, absent, known, Map, put, settled, remaining_of}

-- an entry of the definitions: one row, or nothing
abbrev pub as_entry : List Held → Entry
as_entry [] = absent
as_entry (x ∷ xs) = known x.distance x.state x.remaining

-- the map when `far` gives the distances of S
unfoldable pub held_map : Network → (ℕ → ℕ) → Map
held_map G far u = as_entry (entry G far u)

-- where the records that arrive at x stand in the two tables; a hop has `size` bytes
pub record Standing (size : ℕ) (v w h : List ℕ) (x : ℕ) : Type 0 where
  pub low : x < length v / 12
  pub walks : first_of Walks (vertex_at v x) ≤ end_of Walks v (length w / 16) x
  pub walks_end : end_of Walks v (length w / 16) x ≤ length w / 16
  pub hops : first_of Hops (vertex_at v x) ≤ end_of Hops v (length h / size) x
  pub hops_end : end_of Hops v (length h / size) x ≤ length h / size

-- the parts of the two tables that they are
unfoldable pub walks_at : List ℕ → List ℕ → ℕ → List ℕ
walks_at v w x = run 16 w (first_of Walks (vertex_at v x)) (end_of Walks v (length w / 16) x)

unfoldable pub hops_at : ℕ → List ℕ → List ℕ → ℕ → List ℕ
hops_at size v h x = run size h (first_of Hops (vertex_at v x)) (end_of Hops v (length h / size) x)

-- how many they are, and what they ask, where x is settled at d and D is allowed
unfoldable pub arriving_at : ℕ → List ℕ → List ℕ → List ℕ → ℕ → ℕ → Seconds → ℕ → ℕ → Arriving
arriving_at size v w h x d arrival speed D =
    record {
      walks = end_of Walks v (length w / 16) x - first_of Walks (vertex_at v x);
      hops = end_of Hops v (length h / size) x - first_of Hops (vertex_at v x);
      size = size;
      distance = record { 0 = d };
      arrival = arrival;
      speed = speed;
      allowed = record { 0 = D };
    }

-- the row of those records, with whatever they ask
abbrev pub row_at : List ℕ → List ℕ → List ℕ → ℕ → Arriving → Row
row_at v w h x a = row_of v (walks_at v w x) (hops_at a.size v h x) a

-- the map when v is settled: it stays as long as something of it remains
unfoldable pub settled_now : Map → ℕ → Map
settled_now m v = cond (eqb (remaining_of (settled (m v))) 0) (put (put m v (settled (m v))) v absent) (put m v (settled (m v)))
