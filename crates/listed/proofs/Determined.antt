-- Any two answers that the contract allows are equal. Assumes nothing.
use mathlib.Core.Path.{◌≡◌, sym, ◌∙◌}
use Rattle.words.proofs.Told.{told-injective}
use Rattle.listed.proofs.fault.Reads as fault

pub one-fault : (κs : _) (a : _) (z z' : _) (e e' : _) → fault.Post κs a z e → fault.Post κs a z' e' → z ≡ z'
one-fault κs a z z' e e' p q = told-injective z z' (p ∙ sym q)
