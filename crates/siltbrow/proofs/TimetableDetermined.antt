-- Any two answers that `siltbrow_timetable` may give to one input are equal, and so is every byte of both written slices after them. Assumes nothing.
use mathlib.Core.Path.{◌≡◌}
use Rattle.timetable.proofs.Determined.{called-one}
use Rattle.siltbrow.proofs.timetabling.siltbrow_timetable.Reads as call

pub one-siltbrow-timetable : (κs : _) (a : _) (z z' : _) (e e' : _) → call.Post κs a z e → call.Post κs a z' e'
    → (z ≡ z') × (e.1.1.1.0.now ≡ e'.1.1.1.0.now) × (e.1.1.1.1.0.now ≡ e'.1.1.1.1.0.now)
one-siltbrow-timetable κs a z z' e e' p q = called-one p q
