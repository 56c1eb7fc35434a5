-- Any two answers that `siltbrow_judge` may give to one input are equal; it writes nothing. Assumes nothing.
use mathlib.Core.Path.{◌≡◌, sym, ◌∙◌}
use Rattle.siltbrow.proofs.judging.siltbrow_judge.Reads as siltbrow-judge

pub one-siltbrow-judge : (κs : _) (a : _) (z z' : _) (e e' : _) → siltbrow-judge.Post κs a z e → siltbrow-judge.Post κs a z' e' → z ≡ z'
one-siltbrow-judge κs a z z' e e' p q = p ∙ sym q
