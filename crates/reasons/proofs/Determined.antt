-- Any two answers that the contract of `list_fault` allows are equal; it writes nothing. Assumes nothing.
use mathlib.Core.Path.{◌≡◌, sym, ◌∙◌}
use Rattle.words.proofs.Told.{told-injective}
use Rattle.reasons.proofs.list_fault.Reads as list-fault

pub one-list-fault : (κs : _) (a : _) (z z' : _) (e e' : _) → list-fault.Post κs a z e → list-fault.Post κs a z' e' → z ≡ z'
one-list-fault κs a z z' e e' p q = told-injective z z' (p ∙ sym q)
