-- Any two answers that a public contract allows are equal, and so are any two states of the scratch. Assumes nothing.
use mathlib.Core.Path.{◌≡◌, sym, ◌∙◌}
use Rattle.words.proofs.Told.{told-injective}
use Rattle.courier_intake.proofs.contents_fault.Reads as contents-fault
use Rattle.courier_intake.proofs.courier_fault.Reads as courier-fault

pub one-contents-fault : (κs : _) (a : _) (z z' : _) (e e' : _) → contents-fault.Post κs a z e → contents-fault.Post κs a z' e' → (z ≡ z') × (e.1.1.1.1.1.1.0.now ≡ e'.1.1.1.1.1.1.0.now)
one-contents-fault κs a z z' e e' p q = (told-injective z z' (p.0 ∙ sym q.0), p.1 ∙ sym q.1)

pub one-courier-fault : (κs : _) (a : _) (z z' : _) (e e' : _) → courier-fault.Post κs a z e → courier-fault.Post κs a z' e' → (z ≡ z') × (e.1.1.1.1.1.1.1.1.0.now ≡ e'.1.1.1.1.1.1.1.1.0.now)
one-courier-fault κs a z z' e e' p q = (told-injective z z' (p.0 ∙ sym q.0), p.1 ∙ sym q.1)
