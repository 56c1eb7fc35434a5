-- The definition that gives number and place tells different refusals apart, and none of them from what is fine. Assumes nothing.
use Rattle.std.specs.Prelude.{◌≡◌, ◌≢◌, ℕ, ◌-◌, List, [], ◌∷◌, get_or, ⊤, Result, Ok, Err}
use mathlib.Core.Path.{◌≡◌, refl, sym, ap, ap₂, ◌∙◌}
use native.Mathlib.Omega.{arith}
use Rattle.journeys.specs.Refusals as refusals
use Rattle.words.specs.declared.Reason.{Reason}
use Rattle.words.specs.declared.Reason.TheVariants as reason
use Rattle.words.specs.Refusal.{Refusal}
use Rattle.words.specs.Told.{number_of, told}

-- the reasons, in the order of their numbers
reasons : List Reason
reasons =
    reason.Length
    ∷ reason.Walk
    ∷ reason.Hop
    ∷ reason.WalkOrder
    ∷ reason.HopOrder
    ∷ reason.Vertex
    ∷ reason.Query
    ∷ reason.HeldRoom
    ∷ reason.SettledRoom
    ∷ reason.PartRoom
    ∷ reason.Trip
    ∷ reason.Columns
    ∷ reason.Line
    ∷ reason.UnknownId
    ∷ reason.Sequence
    ∷ reason.StopTimes
    ∷ reason.HopRoom
    ∷ reason.Scratch
    ∷ reason.Patients
    ∷ reason.Evening
    ∷ reason.Entry
    ∷ reason.RecordList
    ∷ reason.Coordinate
    ∷ reason.EmptyList
    ∷ reason.BoughtVertex
    ∷ reason.BoughtDistance
    ∷ reason.BoughtRecord
    ∷ reason.BoughtOffer
    ∷ reason.IdLine
    ∷ []

-- the reason that has a number
reason_of : ℕ → Reason
reason_of n = get_or reasons (n - 1) reason.Length

back : (r : Reason) → reason_of (number_of r) ≡ r
unfolding reason_of reasons
back reason.Length = refl
back reason.Walk = refl
back reason.Hop = refl
back reason.WalkOrder = refl
back reason.HopOrder = refl
back reason.Vertex = refl
back reason.Query = refl
back reason.HeldRoom = refl
back reason.SettledRoom = refl
back reason.PartRoom = refl
back reason.Trip = refl
back reason.Columns = refl
back reason.Line = refl
back reason.UnknownId = refl
back reason.Sequence = refl
back reason.StopTimes = refl
back reason.HopRoom = refl
back reason.Scratch = refl
back reason.Patients = refl
back reason.Evening = refl
back reason.Entry = refl
back reason.RecordList = refl
back reason.Coordinate = refl
back reason.EmptyList = refl
back reason.BoughtVertex = refl
back reason.BoughtDistance = refl
back reason.BoughtRecord = refl
back reason.BoughtOffer = refl
back reason.IdLine = refl

-- every reason has a number
pub named : (r : Reason) → number_of r ≢ 0
named reason.Length = omega arith
named reason.Walk = omega arith
named reason.Hop = omega arith
named reason.WalkOrder = omega arith
named reason.HopOrder = omega arith
named reason.Vertex = omega arith
named reason.Query = omega arith
named reason.HeldRoom = omega arith
named reason.SettledRoom = omega arith
named reason.PartRoom = omega arith
named reason.Trip = omega arith
named reason.Columns = omega arith
named reason.Line = omega arith
named reason.UnknownId = omega arith
named reason.Sequence = omega arith
named reason.StopTimes = omega arith
named reason.HopRoom = omega arith
named reason.Scratch = omega arith
named reason.Patients = omega arith
named reason.Evening = omega arith
named reason.Entry = omega arith
named reason.RecordList = omega arith
named reason.Coordinate = omega arith
named reason.EmptyList = omega arith
named reason.BoughtVertex = omega arith
named reason.BoughtDistance = omega arith
named reason.BoughtRecord = omega arith
named reason.BoughtOffer = omega arith
named reason.IdLine = omega arith

pub number-injective : (a b : Reason) → number_of a ≡ number_of b → a ≡ b
number-injective a b e = sym (back a) ∙ ap reason_of e ∙ back b

pub told-injective : (a b : Result ⊤ Refusal) → told a ≡ told b → a ≡ b
told-injective (Ok _) (Ok _) e = refl
told-injective (Ok _) (Err r) e = absurd (named r.reason (sym (ap (λ (x : refusals.Refusal). x.number) e)))
told-injective (Err r) (Ok _) e = absurd (named r.reason (ap (λ (x : refusals.Refusal). x.number) e))
told-injective (Err r) (Err s) e = ap₂ (λ (x : Reason) (y : ℕ). Err (record { reason = x; place = y })) (number-injective r.reason s.reason (ap (λ (x : refusals.Refusal). x.number) e)) (ap (λ (x : refusals.Refusal). x.place) e)

-- two refusals that tell the same are the same
pub refused-injective : (r s : Refusal) → number_of r.reason ≡ number_of s.reason → r.place ≡ s.place → r ≡ s
refused-injective r s e f = ap₂ (λ (x : Reason) (y : ℕ). record { reason = x; place = y }) (number-injective r.reason s.reason e) f
