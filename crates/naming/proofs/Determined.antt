-- Any two answers that a contract allows are equal. Assumes nothing.
use mathlib.Core.Path.{◌≡◌, sym, ◌∙◌}
use Rattle.naming.proofs.names_at.Reads as names_at
use Rattle.naming.proofs.seek.Reads as seek

pub one-names-at : (κs : _) (a : _) (z z' : _) (e e' : _) → names_at.Post κs a z e → names_at.Post κs a z' e' → z ≡ z'
one-names-at κs a z z' e e' p q = p ∙ sym q

pub one-seek : (κs : _) (a : _) (z z' : _) (e e' : _) → seek.Post κs a z e → seek.Post κs a z' e' → z ≡ z'
one-seek κs a z z' e e' p q = p ∙ sym q
