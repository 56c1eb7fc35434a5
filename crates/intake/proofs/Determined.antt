-- Any two answers that a public contract allows are equal, and so are any two states of the scratch. Assumes nothing.
use mathlib.Core.Path.{◌≡◌, sym, ◌∙◌}
use mathlib.Core.List.{[]}
use Rattle.words.proofs.Told.{told-injective}
use Rattle.intake.proofs.buffer_fault.Reads as buffer-fault
use Rattle.intake.proofs.query_fault.Reads as query-fault
use Rattle.intake.proofs.input_fault.Reads as input-fault

pub one-buffer-fault : (κs : _) (a : _) (z z' : _) (e e' : _) → buffer-fault.Post κs a z e → buffer-fault.Post κs a z' e' → z ≡ z'
one-buffer-fault κs a z z' e e' p q = told-injective z z' (p ∙ sym q)

pub one-query-fault : (κs : _) (a : _) (z z' : _) (e e' : _) → query-fault.Post κs a z e → query-fault.Post κs a z' e' → z ≡ z'
one-query-fault κs a z z' e e' p q = told-injective z z' (p 16 [] [] ∙ sym (q 16 [] []))

pub one-input-fault : (κs : _) (a : _) (z z' : _) (e e' : _) → input-fault.Post κs a z e → input-fault.Post κs a z' e' → z ≡ z'
one-input-fault κs a z z' e e' p q = told-injective z z' (p.0 ∙ sym q.0)

pub one-scratch : (κs : _) (a : _) (z z' : _) (e e' : _) → input-fault.Post κs a z e → input-fault.Post κs a z' e' → e.1.1.1.1.1.1.1.0.now ≡ e'.1.1.1.1.1.1.1.0.now
one-scratch κs a z z' e e' p q = p.1 ∙ sym q.1
