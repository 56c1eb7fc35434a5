-- Where the run stands after some steps, in terms of the definitions. Assumes nothing.
use Rattle.std.specs.Prelude.{◌≡◌, Bool, true, false, ℕ, Option, Some, None, Result, Ok, Err, ◌*◌, ◌/◌, ◌<◌, ◌≤◌, min, leb, length, take}
use mathlib.Core.List.{List, flat_map}
use Rattle.journeys.specs.Tables.{Tables}
use Rattle.journeys.specs.Query as query
use Rattle.journeys.specs.Order.{Settled, Order}
use Rattle.journeys.specs.Network.{Network, distance_in}
use Rattle.journeys.specs.Answers.{settled_bytes}
use Rattle.journeys.specs.RunAnswers.{RoomFor, room_for}
use Rattle.worktable.specs.Table.{Holds}
use Rattle.worktable.specs.declared.Nearest.{Nearest}
use Rattle.worktable.specs.declared.Table.{Table}
use Rattle.heldmap.specs.Directions.{network_in, distance_for}
use Rattle.heldmap.specs.Model.{held_map}
use Rattle.stepping.specs.Taken.{NextIs}
use Rattle.stepping.specs.declared.Progress.{Progress}
use Rattle.steps.specs.declared.Ended.{Ended}
use Rattle.words.specs.Told.{number_of}
use Rattle.words.specs.Refusal.{Refusal}

-- After some steps of the order l over the network G: the table, and what stands at the front of the settled buffer. Of the buffers as they were lent only the lengths matter.
pub record Running (G : Network) (held_lent settled_lent : List ℕ) (l : List Settled) (p : Progress) (held settled : List ℕ) : Type 0 where
  pub made : p.settled ≤ length l
  pub table : Holds p.table held (held_map G (distance_in (take p.settled l)))
  pub slots : p.table.room ≡ min (length held_lent / 16) (min G.vertices 65536)
  pub long : length settled ≡ length settled_lent
  pub listed : take (8 * p.settled) settled ≡ flat_map settled_bytes (take p.settled l)
  pub room : (j : ℕ) → j ≤ p.settled → RoomFor G held_lent settled_lent l j

-- The steps are over: as many as the limit and the order allow; or the first step that lacks room.
pub record Over (G : Network) (held_lent settled_lent : List ℕ) (l : List Settled) (limit : ℕ) (p : Progress) (finished : Bool) (held settled : List ℕ) : Type 0 where
  pub running : Running G held_lent settled_lent l p held settled
  pub steps : p.settled ≡ min limit (length l)
  pub finished_is : finished ≡ leb (length l) p.settled

pub record Short (G : Network) (held_lent settled_lent : List ℕ) (l : List Settled) (limit number step : ℕ) : Type 0 where
  pub made : step ≤ min limit (length l)
  pub refusal : room_for G held_lent settled_lent l step ≡ record { number = number; place = step }
  pub some : 0 < number
  pub before : (j : ℕ) → j < step → RoomFor G held_lent settled_lent l j

unfoldable pub EndedIs : Network → List ℕ → List ℕ → List Settled → ℕ → List ℕ → List ℕ → Result Ended Refusal → Type 0
EndedIs G held_lent settled_lent l limit held settled (Ok r) = Over G held_lent settled_lent l limit r.progress r.finished held settled
EndedIs G held_lent settled_lent l limit held settled (Err r) = Short G held_lent settled_lent l limit (number_of r.reason) r.place

-- the order of settling in either direction
abbrev pub OrderIn : Bool → Tables → query.Query → List Settled → Type 0
OrderIn c N Q l = Order (network_in c N Q) (distance_for c N Q) (query.allowed Q) l

-- whatever was lent in buffers of these lengths, and for the order of settling, whichever list that is
unfoldable pub Stands : Bool → Tables → ℕ → ℕ → query.Query → Progress → List ℕ → List ℕ → Type 0
Stands c N held_long settled_long Q p held settled =
    (x y : List ℕ) → length x ≡ held_long → length y ≡ settled_long → (l : List Settled) → OrderIn c N Q l → Running (network_in c N Q) x y l p held settled

unfoldable pub Ends : Bool → Tables → ℕ → ℕ → query.Query → ℕ → List ℕ → List ℕ → Result Ended Refusal → Type 0
Ends c N held_long settled_long Q limit held settled r =
    (x y : List ℕ) → length x ≡ held_long → length y ≡ settled_long → (l : List Settled) → OrderIn c N Q l → EndedIs (network_in c N Q) x y l limit held settled r

-- whether a vertex waits within D
unfoldable pub WaitsIs : Table → List ℕ → ℕ → Bool → Type 0
WaitsIs t b D true = (x : Nearest) × NextIs t b D (Some x)
WaitsIs t b D false = NextIs t b D None
