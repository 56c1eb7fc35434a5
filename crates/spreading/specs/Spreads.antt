-- Who stays in a vehicle for a marked hop is marked, too: one hop followed, and all of them. Assumes nothing.
use Rattle.std.specs.Prelude.{◌≡◌, ◌⊎◌, ◌≢◌, true, List, ℕ, ◌-◌, ◌*◌, ◌≤◌, ◌<◌, length}
use Rattle.journeys.specs.Tables.{Tables, hop_count}
use Rattle.journeys.specs.Query.{Query}
use Rattle.records.specs.Columns.{records_in}
use Rattle.boarding.specs.Rides.{Mode, Stays, trip_at}
use Rattle.marks.specs.Marks.{bit}
use Rattle.arranging.specs.Keys.{word_at}
use Rattle.arranging.specs.Arranged.{Arranged, Stretch}
use Rattle.marking.specs.Carried.{Carries}
use Rattle.marking.specs.Pends.{State, marks_of, figures_of, Followed, Pends, Prefix, Fit, left}
use Rattle.marking.specs.Moves.{Moved}
use Rattle.marking.specs.declared.Asked.{Asked}

-- the scratch has the hops of every vertex by trip and arrival
pub record Sorted (v h : List ℕ) (a : Asked) (s : List ℕ) : Type 0 where
  pub room : 4 * records_in a.size h ≤ length s
  pub arranged : Arranged a.size v h s

-- a stretch of the arranged hops, and the array of marks
pub record Readable (size : ℕ) (hops marks s : List ℕ) (first end : ℕ) : Type 0 where
  pub wide : 16 ≤ size
  pub few : records_in size hops ≤ 262144
  pub order : first ≤ end
  pub fit : end ≤ records_in size hops
  pub room : 4 * end ≤ length s
  pub long : length marks ≡ 16384
  pub stretch : Stretch size hops s first end

-- Down from q the words from p on are of the trip; the one before, if there is one, is of another or is marked.
pub record Lowest (size : ℕ) (hops marks s : List ℕ) (first q trip p : ℕ) : Type 0 where
  pub from : first ≤ p
  pub to : p ≤ q
  pub same : (g : ℕ) → p ≤ g → g < q → trip_at size hops (word_at s g) ≡ trip
  pub stop : (p ≡ first) ⊎ ((first < p) × (trip_at size hops (word_at s (p - 1)) ≢ trip)) ⊎ ((first < p) × (trip_at size hops (word_at s (p - 1)) ≡ trip) × (bit marks (word_at s (p - 1)) ≡ true))

-- hop i, which stays for any hop that is marked, is marked
pub record StaysBy (N : Tables) (Q : Query) (M : Mode) (set : List ℕ) (i : ℕ) (s s' : State) : Type 0 where
  pub moved : (j : ℕ) → Stays N M i j → marks_of s j ≡ true → Moved N Q M (λ _. Unit {0}) (λ g. Stays N M g j) set s s'
  pub done : marks_of s' i ≡ true

-- the words from low to q may be marked: they stay for hop j
pub record Staying (N : Tables) (M : Mode) (sc : List ℕ) (low q j : ℕ) : Type 0 where
  pub order : low ≤ q
  pub few : q ≤ 262144
  pub room : 4 * q ≤ length sc
  pub there : (g : ℕ) → low ≤ g → g < q → word_at sc g < hop_count N
  pub stays : (g : ℕ) → low ≤ g → g < q → Stays N M (word_at sc g) j

-- the words from low to g have been marked
pub record StaysFrom (N : Tables) (Q : Query) (M : Mode) (set sc : List ℕ) (low g j : ℕ) (s s' : State) : Type 0 where
  pub moved : Moved N Q M (λ _. Unit {0}) (λ i. Stays N M i j) set s s'
  pub done : (h : ℕ) → low ≤ h → h < g → marks_of s' (word_at sc h) ≡ true

-- hop j has been followed
pub record FollowedBy (N : Tables) (Q : Query) (M : Mode) (set : List ℕ) (j : ℕ) (s s' : State) : Type 0 where
  pub moved : Moved N Q M (λ _. Unit {0}) (λ i. Stays N M i j) set s s'
  pub done : Followed N M (marks_of s') j

-- one pending hop has been taken and followed: less is left to be done
pub record Turned (N : Tables) (Q : Query) (M : Mode) (set : List ℕ) (s s' : State) : Type 0 where
  pub fit : Fit N Q set s'
  pub carries : Carries N Q M (λ _. Unit {0}) (bit set) (marks_of s) (figures_of s) (marks_of s') (figures_of s')
  pub pends : Pends N M (hop_count N) s'
  pub prefix : Prefix N M (marks_of s')
  pub falls : left N s' < left N s

-- none is left
pub record Spread (N : Tables) (Q : Query) (M : Mode) (set : List ℕ) (s s' : State) : Type 0 where
  pub fit : Fit N Q set s'
  pub carries : Carries N Q M (λ _. Unit {0}) (bit set) (marks_of s) (figures_of s) (marks_of s') (figures_of s')
  pub prefix : Prefix N M (marks_of s')
  pub closed : (i j : ℕ) → i < hop_count N → Stays N M i j → marks_of s' j ≡ true → marks_of s' i ≡ true
  pub empty : s'.numbers.height ≡ 0
