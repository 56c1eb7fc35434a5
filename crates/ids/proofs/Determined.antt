-- Any two answers that a contract allows are equal. Assumes nothing.
use mathlib.Core.Path.{◌≡◌, sym, ◌∙◌}
use Rattle.words.proofs.Told.{told-injective}
use Rattle.ids.proofs.next_number.Reads as next-number
use Rattle.ids.proofs.list_fault.Reads as list-fault

pub one-next-number : (κs : _) (a : _) (z z' : _) (e e' : _) → next-number.Post κs a z e → next-number.Post κs a z' e' → z ≡ z'
one-next-number κs a z z' e e' p q = p ∙ sym q

pub one-list-fault : (κs : _) (a : _) (z z' : _) (e e' : _) → list-fault.Post κs a z e → list-fault.Post κs a z' e' → z ≡ z'
one-list-fault κs a z z' e e' p q = told-injective z z' (p ∙ sym q)
