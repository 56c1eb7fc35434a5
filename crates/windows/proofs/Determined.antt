-- The contract of `all_hops` settles the answer and every byte of the target. Assumes nothing.
use mathlib.Core.Path.{◌≡◌, sym, ◌∙◌}
use Rattle.departures.proofs.Determined.{one_answer}
use Rattle.windows.proofs.all_hops.Reads as all-hops

pub one-all-hops : (κs : _) (a : _) (z z' : _) (e e' : _) → all-hops.Post κs a z e → all-hops.Post κs a z' e' → (z ≡ z') × (e.0.now ≡ e'.0.now)
one-all-hops κs a z z' e e' p q = (one_answer z z' (p.0 ∙ sym q.0) (p.1 ∙ sym q.1), p.2 ∙ sym q.2)
