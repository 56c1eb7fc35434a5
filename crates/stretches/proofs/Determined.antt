-- Any two answers that a contract allows are equal. Assumes nothing.
use mathlib.Core.Path.{◌≡◌, sym, ◌∙◌}
use Rattle.stretches.proofs.find.Reads as find
use Rattle.stretches.proofs.walks_of.Reads as walks-of

pub one-find : (κs : _) (a : _) (z z' : _) (e e' : _) → find.Post κs a z e → find.Post κs a z' e' → z ≡ z'
one-find κs a z z' e e' p q = p ∙ sym q

pub one-walks-of : (κs : _) (a : _) (z z' : _) (e e' : _) → walks-of.Post κs a z e → walks-of.Post κs a z' e' → z ≡ z'
one-walks-of κs a z z' e e' p q = p ∙ sym q
