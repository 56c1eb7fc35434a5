-- The marked hops that are still to be followed: those on a stack, and those from a cursor on. Assumes nothing.
use Rattle.std.specs.Prelude.{◌≡◌, ◌⊎◌, ◌≢◌, Bool, true, false, not, List, ℕ, ◌+◌, ◌-◌, ◌*◌, ◌≤◌, ◌<◌, length, get_or, set}
use Rattle.journeys.specs.Counting.{count}
use Rattle.journeys.specs.Tables.{Tables, hop, hop_count}
use Rattle.journeys.specs.Query.{Query}
use Rattle.boarding.specs.Rides.{Mode, Stays}
use Rattle.marks.specs.Marks.{bit}
use Rattle.bitset.specs.Joined.{joined}
use Rattle.improving.specs.Figures.{Ready, figures}
use Rattle.marking.specs.Carried.{offered_by}
use Rattle.worktable.specs.declared.Table.{Table}
use Rattle.marking.specs.declared.Pending.{Pending}

-- the numbers and the bytes that the search has: the map, the marks and the stack
pub record State : Type 0 where
  pub numbers : Pending
  pub table : List ℕ
  pub marks : List ℕ
  pub stack : List ℕ

abbrev pub state : Pending → List ℕ → List ℕ → List ℕ → State
state p table marks stack = record { numbers = p; table = table; marks = marks; stack = stack }

abbrev pub marks_of : State → ℕ → Bool
marks_of s = bit s.marks

abbrev pub figures_of : State → ℕ → ℕ
figures_of s = figures s.numbers.table s.table

-- all hops are marked from which one stays for hop j
abbrev pub Followed : Tables → Mode → (ℕ → Bool) → ℕ → Type 0
Followed N M mark j = (i : ℕ) → i < hop_count N → Stays N M i j → mark i ≡ true

-- hop j stands in the first n words of the stack
abbrev pub OnStack : List ℕ → ℕ → ℕ → Type 0
OnStack stack n j = (i : ℕ) × (i < n) × (get_or stack i 0 ≡ j)

-- each marked hop but x is still to be followed, or all that stay for it are marked
abbrev pub Pends : Tables → Mode → ℕ → State → Type 0
Pends N M x s =
    (j : ℕ) → marks_of s j ≡ true → (j ≡ x) ⊎ OnStack s.stack s.numbers.height j ⊎ (s.numbers.cursor ≤ j) ⊎ Followed N M (marks_of s) j

-- of one "to" and one known trip the marked hops are those up to an arrival
abbrev pub Prefix : Tables → Mode → (ℕ → Bool) → Type 0
Prefix N M mark =
    (i j : ℕ) → i < hop_count N → (hop N i).to ≡ (hop N j).to → M.trip i ≡ M.trip j → M.trip j ≢ 0 → (hop N i).arrival ≤ (hop N j).arrival → mark j ≡ true → mark i ≡ true

-- The bytes are as the functions need them: the map in order, each array as long as it is, and only hops marked that leave by T.
pub record Fit (N : Tables) (Q : Query) (set : List ℕ) (s : State) : Type 0 where
  pub ready : Ready s.numbers.table s.table
  pub marks_long : length s.marks ≡ 16384
  pub set_long : length set ≡ 4096
  pub stack_long : length s.stack ≡ 16384
  pub height : s.numbers.height ≤ 16384
  pub stacked : (i : ℕ) → i < s.numbers.height → marks_of s (get_or s.stack i 0) ≡ true
  pub low : (j : ℕ) → marks_of s j ≡ true → j < hop_count N
  pub timely : (j : ℕ) → marks_of s j ≡ true → (hop N j).departure ≤ Q.arrival

-- how much is still to be done: a mark makes it less, whatever it adds to the stack or takes from the cursor
abbrev pub left : Tables → State → ℕ
left N s = count (λ j. not (marks_of s j)) (hop_count N) * 262146 + s.numbers.height + (hop_count N - s.numbers.cursor)

-- a hop that may be marked: it is not yet, and leaves by T
pub record Markable (N : Tables) (Q : Query) (s : State) (j : ℕ) : Type 0 where
  pub there : j < hop_count N
  pub new : marks_of s j ≡ false
  pub in_time : (hop N j).departure ≤ Q.arrival

-- hop j has been marked: from one state to another
pub record HopMarked (N : Tables) (Q : Query) (M : Mode) (set : List ℕ) (j : ℕ) (s s' : State) : Type 0 where
  pub fit : Fit N Q set s'
  pub marks_are : marks_of s' ≡ joined (marks_of s) j
  pub figures_are : figures_of s' ≡ offered_by N Q M (bit set) j (figures_of s)
  pub pends : (x : ℕ) → Pends N M x s → Pends N M x s'
  pub falls : left N s' ≤ left N s

-- hop j has been pushed, with t for the table: where the stack is full all marked hops are to be followed instead
abbrev pub Pushed : Pending → Table → ℕ → List ℕ → Pending → List ℕ → Type 0
Pushed p t j stack q stack' =
    (q.table ≡ t)
    × (((p.height < 16384) × (q.height ≡ p.height + 1) × (q.cursor ≡ p.cursor) × (stack' ≡ set stack p.height j))
    ⊎ ((q.height ≡ p.height) × (q.cursor ≡ 0) × (stack' ≡ stack)))
