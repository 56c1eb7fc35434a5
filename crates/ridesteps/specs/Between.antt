-- Where the search with a boarding time stands between two steps, and what one step starts from. Assumes nothing.
use Rattle.std.specs.Prelude.{◌≡◌, List, ℕ, suc, ◌≤◌, ◌<◌, take}
use Rattle.journeys.specs.Tables.{Tables, vertex_count, hop_count}
use Rattle.journeys.specs.Query.{Query, allowed}
use Rattle.journeys.specs.Settled.{Settled}
use Rattle.journeys.specs.Network.{distance_in, within}
use Rattle.journeys.specs.Valid.{Valid}
use Rattle.worktable.specs.Map.{Foremost}
use Rattle.worktable.specs.Table.{map_of, Place}
use Rattle.boarding.specs.Rides.{Mode}
use Rattle.boarding.specs.RideOrder.{IsRideOrder}
use Rattle.boarding.proofs.Searching.{Searching}
use Rattle.marks.specs.Marks.{bit}
use Rattle.marking.specs.Pends.{State, marks_of, figures_of, Pends, Prefix, Fit}

-- k vertices of the order l are settled: the set has these, the marks and the map are those of the search, and no hop is left to be followed
pub record Between (N : Tables) (Q : Query) (M : Mode) (l : List Settled) (k : ℕ) (set : List ℕ) (s : State) : Type 0 where
  pub fit : Fit N Q set s
  pub members : (v : ℕ) → bit set v ≡ within (distance_in (take k l)) v
  pub searching : (ok : Valid N Q) (O : IsRideOrder N Q M l) → Searching N Q M ok O k (marks_of s) (figures_of s)
  pub prefix : Prefix N M (marks_of s)
  pub empty : s.numbers.height ≡ 0

-- before the first step, whichever list the order is
abbrev pub Opened : Tables → Query → Mode → List ℕ → State → Type 0
Opened N Q M set s = (l : List Settled) → IsRideOrder N Q M l → Between N Q M l 0 set s

-- the step that settles x: it waits at its slot before all others and within D, and every marked hop has been followed
pub record Steps (N : Tables) (Q : Query) (M : Mode) (set : List ℕ) (s : State) (x slot d : ℕ) : Type 0 where
  pub fit : Fit N Q set s
  pub prefix : Prefix N M (marks_of s)
  pub pends : Pends N M (hop_count N) s
  pub place : Place s.numbers.table s.table x slot
  pub front : Foremost (map_of s.numbers.table s.table) x d
  pub low : x < vertex_count N
  pub near : d ≤ allowed Q

-- one step further, whichever list the order is and however many of it are settled
abbrev pub Stepped : Tables → Query → Mode → List ℕ → State → List ℕ → State → Type 0
Stepped N Q M set s set' s' = (l : List Settled) → IsRideOrder N Q M l → (k : ℕ) → Between N Q M l k set s → Between N Q M l (suc k) set' s'
