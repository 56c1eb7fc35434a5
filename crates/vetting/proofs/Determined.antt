-- Any two refusals that a contract allows are equal. Assumes nothing.
use mathlib.Core.Path.{◌≡◌, sym, ◌∙◌}
use Rattle.words.proofs.Told.{told-injective}
use Rattle.vetting.proofs.text_fault.Reads as text-fault
use Rattle.vetting.proofs.unknown.Reads as unknown
use Rattle.vetting.proofs.opening.Reads as opening
use Rattle.vetting.proofs.all_fit.Reads as all_fit

pub one-text-fault : (κs : _) (a : _) (z z' : _) (e e' : _) → text-fault.Post κs a z e → text-fault.Post κs a z' e' → z ≡ z'
one-text-fault κs a z z' e e' p q = told-injective z z' (p ∙ sym q)

pub one-unknown : (κs : _) (a : _) (z z' : _) (e e' : _) → unknown.Post κs a z e → unknown.Post κs a z' e' → z ≡ z'
one-unknown κs a z z' e e' p q = told-injective z z' (p ∙ sym q)

pub one-opening : (κs : _) (a : _) (z z' : _) (e e' : _) → opening.Post κs a z e → opening.Post κs a z' e' → z ≡ z'
one-opening κs a z z' e e' p q = p ∙ sym q

pub one-all-fit : (κs : _) (a : _) (z z' : _) (e e' : _) → all_fit.Post κs a z e → all_fit.Post κs a z' e' → z ≡ z'
one-all-fit κs a z z' e e' p q = p ∙ sym q
