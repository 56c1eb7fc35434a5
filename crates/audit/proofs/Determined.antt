-- Any two answers that a contract allows are equal, and so are any two states of the scratch. Assumes nothing.
use mathlib.Core.Path.{◌≡◌, sym, ◌∙◌}
use Rattle.words.proofs.Told.{told-injective}
use Rattle.audit.proofs.lengths.Reads as lengths
use Rattle.audit.proofs.contents.Reads as contents
use Rattle.audit.proofs.contents_counted.Reads as counted
use Rattle.audit.proofs.check.Reads as check

pub one-lengths : (κs : _) (a : _) (z z' : _) (e e' : _) → lengths.Post κs a z e → lengths.Post κs a z' e' → z ≡ z'
one-lengths κs a z z' e e' p q = told-injective z z' (p ∙ sym q)

pub one-contents : (κs : _) (a : _) (z z' : _) (e e' : _) → contents.Post κs a z e → contents.Post κs a z' e' → z ≡ z'
one-contents κs a z z' e e' p q = told-injective z z' (p.0 ∙ sym q.0)

pub one-contents-scratch : (κs : _) (a : _) (z z' : _) (e e' : _) → contents.Post κs a z e → contents.Post κs a z' e' → e.1.1.1.1.0.now ≡ e'.1.1.1.1.0.now
one-contents-scratch κs a z z' e e' p q = p.1 ∙ sym q.1

pub one-contents-counted : (κs : _) (a : _) (z z' : _) (e e' : _) → counted.Post κs a z e → counted.Post κs a z' e' → (z ≡ z') × (e.1.1.1.1.0.now ≡ e'.1.1.1.1.0.now)
one-contents-counted κs a z z' e e' p q = (told-injective z z' (p.0 ∙ sym q.0), p.1 ∙ sym q.1)

pub one-check : (κs : _) (a : _) (z z' : _) (e e' : _) → check.Post κs a z e → check.Post κs a z' e' → z ≡ z'
one-check κs a z z' e e' p q = told-injective z z' (p.0 ∙ sym q.0)

pub one-scratch : (κs : _) (a : _) (z z' : _) (e e' : _) → check.Post κs a z e → check.Post κs a z' e' → e.1.1.1.1.0.now ≡ e'.1.1.1.1.0.now
one-scratch κs a z z' e e' p q = p.1 ∙ sym q.1
