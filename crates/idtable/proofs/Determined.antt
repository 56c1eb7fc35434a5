-- Any two answers of a lookup are equal, whatever table of the list serves it. Assumes nothing.
use mathlib.Core.Path.{◌≡◌, sym, ◌∙◌}
use Rattle.idtable.proofs.Ids.find.Reads as find

pub one-find : (κs : _) (a : _) (z z' : _) (e e' : _) → find.Post κs a z e → find.Post κs a z' e' → z ≡ z'
one-find κs a z z' e e' p q = p ∙ sym q
