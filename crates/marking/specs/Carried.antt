-- What the marking of hops does to the state of the search, which is the marks and the figures of the map: whatever holds of both inside a step holds afterwards. Assumes nothing.
use Rattle.std.specs.Prelude.{◌≡◌, Bool, true, not, cond, ◌&&◌, List, ℕ, take}
use Rattle.journeys.specs.Tables.{Tables, hop}
use Rattle.journeys.specs.Query.{Query, allowed}
use Rattle.journeys.specs.Settled.{Settled}
use Rattle.journeys.specs.Network.{distance_in, within}
use Rattle.journeys.specs.Valid.{Valid}
use Rattle.boarding.specs.Rides.{Mode}
use Rattle.boarding.specs.RideJourneys.{standing}
use Rattle.boarding.specs.RideOrder.{IsRideOrder}
use Rattle.boarding.proofs.Searching.{Underway}
use Rattle.improving.specs.Figures.{improved_at}

-- Hop j is marked: it offers where it is boarded, if its "to" is in the set of settled vertices and its "from" is not.
abbrev pub offered_by : Tables → Query → Mode → (ℕ → Bool) → ℕ → (ℕ → ℕ) → ℕ → ℕ
offered_by N Q M set j f u =
    cond (set (hop N j).to && not (set (hop N j).from)) (improved_at (allowed Q) (hop N j).from (standing Q M (hop N j).departure) f u) (f u)

-- From marks and figures to others, where A holds of what is settled: no mark goes, and what is true inside a step stays so.
pub record Carries (N : Tables) (Q : Query) (M : Mode) (A : List Settled → Type 0) (set mark : ℕ → Bool) (f : ℕ → ℕ) (mark' : ℕ → Bool) (f' : ℕ → ℕ) : Type 0 where
  pub grows : (j : ℕ) → mark j ≡ true → mark' j ≡ true
  pub underway : (ok : Valid N Q) {l : List Settled} (O : IsRideOrder N Q M l) (k : ℕ) → ((v : ℕ) → set v ≡ within (distance_in (take k l)) v) → A (take k l)
      → Underway N Q M ok O k mark f → Underway N Q M ok O k mark' f'
