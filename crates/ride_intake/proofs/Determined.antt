-- Any two answers that the public contract allows are equal. Assumes nothing.
use mathlib.Core.Path.{◌≡◌, sym, ◌∙◌}
use Rattle.words.proofs.Told.{told-injective}
use Rattle.ride_intake.proofs.ride_fault.Reads as ride-fault

pub one-ride-fault : (κs : _) (a : _) (z z' : _) (e e' : _) → ride-fault.Post κs a z e → ride-fault.Post κs a z' e' → z ≡ z'
one-ride-fault κs a z z' e e' p q = told-injective z z' (p ∙ sym q)
