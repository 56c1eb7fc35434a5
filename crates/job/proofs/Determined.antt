-- Any two results that a public contract allows are equal: the answers and every lent byte afterwards. Assumes nothing.
use mathlib.Core.Path.{◌≡◌, sym, ◌∙◌}
use Rattle.job.proofs.Told.{told-one}
use Rattle.job.proofs.read.Reads as read
use Rattle.job.proofs.load.Reads as load

pub one-read : (κs : _) (a : _) (z z' : _) (e e' : _) → read.Post κs a z e → read.Post κs a z' e' → z ≡ z'
one-read κs a z z' e e' p q = told-one z z' (p.0 ∙ sym q.0)

pub one-load : (κs : _) (a : _) (z z' : _) (e e' : _) → load.Post κs a z e → load.Post κs a z' e'
    → (z ≡ z') × (e.1.0.now ≡ e'.1.0.now) × (e.1.1.0.now ≡ e'.1.1.0.now) × (e.1.1.1.0.now ≡ e'.1.1.1.0.now)
one-load κs a z z' e e' p q =
    (told-one z z' (p.0 ∙ sym q.0), p.1.1.0 ∙ sym q.1.1.0, p.1.1.1.0 ∙ sym q.1.1.1.0, p.1.1.1.1 ∙ sym q.1.1.1.1)
