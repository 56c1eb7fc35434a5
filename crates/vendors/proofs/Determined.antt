-- Any two answers that the contract of `judge` allows are equal; it writes nothing. Assumes nothing.
use mathlib.Core.Path.{◌≡◌, sym, ◌∙◌}
use Rattle.words.proofs.Told.{told-injective}
use Rattle.vendors.proofs.judge.Reads as judge

pub one-judge : (κs : _) (a : _) (z z' : _) (e e' : _) → judge.Post κs a z e → judge.Post κs a z' e' → z ≡ z'
one-judge κs a z z' e e' p q = told-injective z z' (p ∙ sym q)
