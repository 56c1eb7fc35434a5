-- Any two results that a public contract allows are equal: the answer and every byte of both buffers. Assumes nothing.
use mathlib.Core.Path.{◌≡◌, sym, ◌∙◌}
use Rattle.ending.proofs.conclude.Reads as conclude
use Rattle.ending.proofs.give_up.Reads as give-up

pub one-conclude : (κs : _) (a : _) (z z' : _) (e e' : _) → conclude.Post κs a z e → conclude.Post κs a z' e'
    → (z ≡ z') × (e.0.now ≡ e'.0.now) × (e.1.0.now ≡ e'.1.0.now)
one-conclude κs a z z' e e' p q =
    (p.answer ∙ sym q.answer, p.held_is ∙ sym q.held_is, p.settled_is ∙ sym q.settled_is)

pub one-give-up : (κs : _) (a : _) (z z' : _) (e e' : _) → give-up.Post κs a z e → give-up.Post κs a z' e'
    → (z ≡ z') × (e.0.now ≡ e'.0.now) × (e.1.0.now ≡ e'.1.0.now)
one-give-up κs a z z' e e' p q =
    (p.answer ∙ sym q.answer, p.held_is ∙ sym q.held_is, p.settled_is ∙ sym q.settled_is)
