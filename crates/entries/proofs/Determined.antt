-- Any two answers that the public contracts allow are equal. What is left in the array after a refusal is open. Assumes nothing.
use mathlib.Core.Path.{◌≡◌, sym, ◌∙◌}
use Rattle.words.proofs.Told.{told-injective}
use Rattle.entries.proofs.is_new.Reads as is-new
use Rattle.entries.proofs.entry_fault.Reads as entry-fault

pub one-is-new : (κs : _) (a : _) (z z' : _) (e e' : _) → is-new.Post κs a z e → is-new.Post κs a z' e' → z ≡ z'
one-is-new κs a z z' e e' p q = p ∙ sym q

pub one-entry-fault : (κs : _) (a : _) (z z' : _) (e e' : _) → entry-fault.Post κs a z e → entry-fault.Post κs a z' e' → z ≡ z'
one-entry-fault κs a z z' e e' p q = told-injective z z' (p ∙ sym q)
