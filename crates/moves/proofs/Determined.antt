-- Any two answers that a contract allows are equal, and so are any two targets. Assumes nothing.
use mathlib.Core.Path.{◌≡◌, sym, ◌∙◌}
use Rattle.words.proofs.Told.{told-injective}
use Rattle.moves.proofs.forward.Reads as forward
use Rattle.moves.proofs.backward.Reads as backward

pub one-forward : (κs : _) (a : _) (z z' : _) (e e' : _) → forward.Post κs a z e → forward.Post κs a z' e' → (z ≡ z') × (e.1.0.now ≡ e'.1.0.now)
one-forward κs a z z' e e' p q = (told-injective z z' (p.0 ∙ sym q.0), p.1 ∙ sym q.1)

pub one-backward : (κs : _) (a : _) (z z' : _) (e e' : _) → backward.Post κs a z e → backward.Post κs a z' e' → (z ≡ z') × (e.1.0.now ≡ e'.1.0.now)
one-backward κs a z z' e e' p q = (told-injective z z' (p.0 ∙ sym q.0), p.1 ∙ sym q.1)
