-- The contract of `write_hops` settles every lent byte. Assumes nothing.
use mathlib.Core.Path.{◌≡◌, sym, ◌∙◌}
use Rattle.hopbytes.proofs.write_hops.Reads as write-hops

pub one-write-hops : (κs : _) (a : _) (z z' : _) (e e' : _) → write-hops.Post κs a z e → write-hops.Post κs a z' e' → e.0.now ≡ e'.0.now
one-write-hops κs a z z' e e' p q = p ∙ sym q
