-- What the records to a vertex offer when it is settled, in the mode with a boarding time: its walks, and of its hops those that are marked. Assumes nothing.
use Rattle.std.specs.Prelude.{◌≡◌, Bool, true, cond, List, ℕ, ◌+◌, ◌-◌, ◌≤◌, ◌<◌, length}
use Rattle.journeys.specs.Counting.{none, least}
use Rattle.journeys.specs.Tables.{Tables, hop, vertex_count, walk_count}
use Rattle.journeys.specs.Query.{Query, allowed, walk_ticks}
use Rattle.journeys.specs.Network.{Network}
use Rattle.journeys.specs.Records.{Record, walked, ridden, from, to, record_at, record_count, seed}
use Rattle.journeys.proofs.Step.{through}
use Rattle.worktable.specs.declared.Table.{Table}
use Rattle.boarding.specs.Rides.{Mode}
use Rattle.boarding.specs.RideJourneys.{standing}
use Rattle.boarding.proofs.Kept.{improved}
use Rattle.marks.specs.Marks.{bit}
use Rattle.improving.specs.Figures.{Ready, figures, improved_at}

-- what a record brings where its "to" has the distance d; of a hop its number is given, too
unfoldable pub brings : Query → Mode → (ℕ → Bool) → ℕ → ℕ → Record → ℕ
brings Q M mark d j (walked w) = d + walk_ticks Q w
brings Q M mark d j (ridden h) = cond (mark j) (standing Q M h.departure) none

-- walks and marked hops as a network
abbrev pub marked : Tables → Query → Mode → (ℕ → Bool) → Network
marked N Q M mark =
    record {
      vertices = vertex_count N;
      records = record_count N;
      allowed = allowed Q;
      from = λ r. from (record_at N r);
      to = λ r. to (record_at N r);
      seed = seed N Q;
      offer = λ r d. brings Q M mark d (r - walk_count N) (record_at N r);
    }

-- the figures when the first n records have made their offers through x, which is settled at d: who is in the set keeps its figure
abbrev pub passed : Tables → Query → Mode → (set mark : ℕ → Bool) → ℕ → ℕ → ℕ → (ℕ → ℕ) → ℕ → ℕ
passed N Q M set mark x d n f u = cond (set u) (f u) (improved (allowed Q) (least (through (marked N Q M mark) x d u) n) (f u))

-- one offer, to w, unless it is in the set
abbrev pub taken_at : ℕ → (ℕ → Bool) → ℕ → ℕ → (ℕ → ℕ) → ℕ → ℕ
taken_at D set w o f u = cond (set w) (f u) (improved_at D w o f u)

-- figures that are taken where a test says so
abbrev pub held_back : Bool → (ℕ → ℕ) → (ℕ → ℕ) → ℕ → ℕ
held_back t g f u = cond t (g u) (f u)

-- the table is in order, the sets are as long as they are, x is in the set, and the marked hops leave by T
pub record Passable (N : Tables) (Q : Query) (set marks : List ℕ) (x d : ℕ) (t : Table) (table : List ℕ) : Type 0 where
  pub ready : Ready t table
  pub set_long : length set ≡ 4096
  pub marks_long : length marks ≡ 16384
  pub settled : bit set x ≡ true
  pub low : x < vertex_count N
  pub near : d ≤ allowed Q
  pub timely : (j : ℕ) → bit marks j ≡ true → (hop N j).departure ≤ Q.arrival

-- from the figures of the first n records to those of the first k, whatever they were at first
pub record Passes (N : Tables) (Q : Query) (M : Mode) (set marks : List ℕ) (x d n k : ℕ) (t r : Table) (b c : List ℕ) : Type 0 where
  pub ready : Ready r c
  pub figures_are : (f : ℕ → ℕ) → figures t b ≡ passed N Q M (bit set) (bit marks) x d n f → figures r c ≡ passed N Q M (bit set) (bit marks) x d k f
