-- Any two answers that a contract allows are equal, and any two records that it lets be written. Assumes nothing.
use mathlib.Core.Path.{◌≡◌, sym, ◌∙◌}
use Rattle.sorting.specs.Sorted.{recs}
use Rattle.stoplist.proofs.vertex_of.Reads as vertex-of
use Rattle.stoplist.proofs.places_in.Reads as places-in
use Rattle.stoplist.proofs.write_part.Reads as write-part

pub one-vertex-of : (κs : _) (a : _) (z z' : _) (e e' : _) → vertex-of.Post κs a z e → vertex-of.Post κs a z' e' → z ≡ z'
one-vertex-of κs a z z' e e' p q = p.0 ∙ sym q.0

pub one-places-in : (κs : _) (a : _) (z z' : _) (e e' : _) → places-in.Post κs a z e → places-in.Post κs a z' e' → z ≡ z'
one-places-in κs a z z' e e' p q = p ∙ sym q

pub one-write-part : (κs : _) (a : _) (z z' : _) (e e' : _) → write-part.Post κs a z e → write-part.Post κs a z' e' → let n = a.1.0 in recs n e.0.now ≡ recs n e'.0.now
one-write-part κs a z z' e e' p q = p ∙ sym q
