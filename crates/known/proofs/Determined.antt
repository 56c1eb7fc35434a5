-- Any two answers that a contract allows are equal. Assumes nothing.
use mathlib.Core.Path.{◌≡◌, sym, ◌∙◌}
use Rattle.words.proofs.Told.{told-injective}
use Rattle.known.proofs.listed_at.Reads as listed_at
use Rattle.known.proofs.unlisted.Reads as unlisted
use Rattle.known.proofs.listed_from.Reads as listed-from

pub one-listed-at : (κs : _) (a : _) (z z' : _) (e e' : _) → listed_at.Post κs a z e → listed_at.Post κs a z' e' → z ≡ z'
one-listed-at κs a z z' e e' p q = p ∙ sym q

pub one-unlisted : (κs : _) (a : _) (z z' : _) (e e' : _) → unlisted.Post κs a z e → unlisted.Post κs a z' e' → z ≡ z'
one-unlisted κs a z z' e e' p q = told-injective z z' (p ∙ sym q)

pub one-listed-from : (κs : _) (a : _) (z z' : _) (e e' : _) → listed-from.Post κs a z e → listed-from.Post κs a z' e' → z ≡ z'
one-listed-from κs a z z' e e' p q = p ∙ sym q
