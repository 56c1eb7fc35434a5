-- A refusal as the code has it, in the numbers of RULES 12. Assumes nothing.
use Rattle.std.specs.Prelude.{ℕ, Result, Ok, Err}
use Rattle.journeys.specs.Refusals as refusals
use Rattle.words.specs.declared.Reason.{Reason}
use Rattle.words.specs.declared.Reason.TheVariants as reason
use Rattle.words.specs.declared.Refusal as declared
use Rattle.words.specs.Refusal.{Refusal}

abbrev pub number_of : Reason → ℕ
number_of reason.Length = 1
number_of reason.Walk = 2
number_of reason.Hop = 3
number_of reason.WalkOrder = 4
number_of reason.HopOrder = 5
number_of reason.Vertex = 6
number_of reason.Query = 7
number_of reason.HeldRoom = 8
number_of reason.SettledRoom = 9
number_of reason.PartRoom = 10
number_of reason.Trip = 11
number_of reason.Columns = 12
number_of reason.Line = 13
number_of reason.UnknownId = 14
number_of reason.Sequence = 15
number_of reason.StopTimes = 16
number_of reason.HopRoom = 17
number_of reason.Scratch = 18
number_of reason.Patients = 19
number_of reason.Evening = 20
number_of reason.Entry = 21
number_of reason.RecordList = 22
number_of reason.Coordinate = 23
number_of reason.EmptyList = 24
number_of reason.BoughtVertex = 25
number_of reason.BoughtDistance = 26
number_of reason.BoughtRecord = 27
number_of reason.BoughtOffer = 28
number_of reason.IdLine = 29

-- by the numbers that its reasons have, whatever names a reason
abbrev pub told_by : {N T : Type 0} → (N → ℕ) → Result T (declared.Refusal N) → refusals.Refusal
told_by number (Ok _) = refusals.fine
told_by number (Err r) = record { number = number r.reason; place = r.place }

abbrev pub told : {T : Type 0} → Result T Refusal → refusals.Refusal
told r = told_by number_of r
