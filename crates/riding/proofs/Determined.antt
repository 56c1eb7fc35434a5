-- Any two results that the public contract allows are equal: the answer and every byte of the list's buffer and of the scratch. Assumes nothing.
use mathlib.Core.Path.{◌≡◌, ap}
use Rattle.boarding.specs.RideAnswers.{RideAnswer}
use Rattle.boarding.proofs.RideAnswers.{ride-unique}
use Rattle.records.specs.declared.Answer.{Answer}
use Rattle.riding.proofs.run_rides.Reads as run-rides

-- the six numbers of an answer
abbrev answer-in : RideAnswer → Answer
answer-in x = record { refusal = x.refusal; place = x.place; settled = x.settled_count; parts = x.part_count; held = x.held_count; finished = x.finished }

pub one-run-rides : (κs : _) (a : _) (z z' : _) (e e' : _) → run-rides.Post κs a z e → run-rides.Post κs a z' e'
    → (z ≡ z') × (e.1.1.1.1.0.now ≡ e'.1.1.1.1.0.now) × (e.1.1.1.1.1.0.now ≡ e'.1.1.1.1.1.0.now)
one-run-rides κs a z z' e e' p q =
    let u = ride-unique _ _ _ _ _ _ p q in
    (ap answer-in u, ap (λ (x : RideAnswer). x.settled) u, ap (λ (x : RideAnswer). x.scratch) u)
