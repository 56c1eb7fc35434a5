-- Hops that are marked one after another: from one state of the search to another. Assumes nothing.
use Rattle.std.specs.Prelude.{◌≡◌, ◌⊎◌, Bool, true, ◌&&◌, List, ℕ, ◌≤◌, ◌<◌, leb}
use Rattle.journeys.specs.Counting.{In}
use Rattle.journeys.specs.Tables.{Tables, hop, hop_count}
use Rattle.journeys.specs.Query.{Query, before}
use Rattle.journeys.specs.Settled.{Settled, settled}
use Rattle.boarding.specs.Rides.{Mode}
use Rattle.marks.specs.Marks.{bit}
use Rattle.marking.specs.Carried.{Carries}
use Rattle.marking.specs.Pends.{State, marks_of, figures_of, Pends, Fit, left}

-- hop j alights in time at x, which is settled at d
pub record Alights (N : Tables) (Q : Query) (x d j : ℕ) : Type 0 where
  pub there : (hop N j).to ≡ x
  pub in_time : (hop N j).arrival ≤ Q.arrival
  pub soon : d ≤ before Q (hop N j).arrival

-- Hops have been marked, for the reason B alone, where A holds of what is settled: from one state to another.
pub record Moved (N : Tables) (Q : Query) (M : Mode) (A : List Settled → Type 0) (B : ℕ → Type 0) (set : List ℕ) (s s' : State) : Type 0 where
  pub fit : Fit N Q set s'
  pub carries : Carries N Q M A (bit set) (marks_of s) (figures_of s) (marks_of s') (figures_of s')
  pub only : (j : ℕ) → marks_of s' j ≡ true → (marks_of s j ≡ true) ⊎ B j
  pub pends : (x : ℕ) → Pends N M x s → Pends N M x s'
  pub falls : left N s' ≤ left N s

-- the test of an arrival
abbrev pub alights_test : Query → ℕ → ℕ → Bool
alights_test Q d arrival = leb arrival Q.arrival && leb d (before Q arrival)

-- hop i has been asked for a vertex that is settled at d
pub record AlightsBy (N : Tables) (Q : Query) (M : Mode) (set : List ℕ) (i d : ℕ) (s s' : State) : Type 0 where
  pub moved : Moved N Q M (In (settled (hop N i).to d)) (Alights N Q (hop N i).to d) set s s'
  pub done : Alights N Q (hop N i).to d i → marks_of s' i ≡ true

-- all hops that alight in time at x, which is settled at d, have been marked
pub record Alighted (N : Tables) (Q : Query) (M : Mode) (set : List ℕ) (x d : ℕ) (s s' : State) : Type 0 where
  pub moved : Moved N Q M (In (settled x d)) (Alights N Q x d) set s s'
  pub done : (j : ℕ) → j < hop_count N → Alights N Q x d j → marks_of s' j ≡ true
