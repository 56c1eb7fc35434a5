-- Any two answers that `siltbrow_frame` may give to one input are equal, and so is every byte of the answer slice after them. Assumes nothing.
use mathlib.Core.Path.{◌≡◌, sym, ◌∙◌}
use native.Mathlib.Decide.{ℕ_discrete}
use lib.ListN.{length}
use Rattle.siltbrow.proofs.framing.siltbrow_frame.Reads as call

pub one_answer : (κs : _) (a : _) (z z' : _) (e e' : _) → call.Post κs a z e → call.Post κs a z' e' → (z ≡ z') × (e.1.1.1.0.now ≡ e'.1.1.1.0.now)
one_answer κs a z z' e e' p q = go (ℕ_discrete (length a.1.1.1.0.now) 24)
  where
    go : Dec (length a.1.1.1.0.now ≡ 24) → (z ≡ z') × (e.1.1.1.0.now ≡ e'.1.1.1.0.now)
    go (yes h) = ((p.answered h).0 ∙ sym (q.answered h).0, (p.answered h).1 ∙ sym (q.answered h).1)
    go (no h) = ((p.untouched h).0 ∙ sym (q.untouched h).0, (p.untouched h).1 ∙ sym (q.untouched h).1)
