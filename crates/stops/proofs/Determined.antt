-- Any two answers that a contract allows are equal. Assumes nothing.
use mathlib.Core.Path.{◌≡◌, sym, ◌∙◌}
use Rattle.words.proofs.Told.{told-injective}
use Rattle.stops.proofs.lines_fault.Reads as lines-fault
use Rattle.stops.proofs.text_fault.Reads as text-fault
use Rattle.stops.proofs.timely.Reads as timely

pub one-lines-fault : (κs : _) (a : _) (z z' : _) (e e' : _) → lines-fault.Post κs a z e → lines-fault.Post κs a z' e' → z ≡ z'
one-lines-fault κs a z z' e e' p q = told-injective z z' (p ∙ sym q)

pub one-text-fault : (κs : _) (a : _) (z z' : _) (e e' : _) → text-fault.Post κs a z e → text-fault.Post κs a z' e' → z ≡ z'
one-text-fault κs a z z' e e' p q = told-injective z z' (p ∙ sym q)

pub one-timely : (κs : _) (a : _) (z z' : _) (e e' : _) → timely.Post κs a z e → timely.Post κs a z' e' → z ≡ z'
one-timely κs a z z' e e' p q = p ∙ sym q
