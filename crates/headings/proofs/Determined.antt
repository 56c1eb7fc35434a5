-- Any two answers that the contract of `columns_of` allows are equal. Assumes nothing.
use mathlib.Core.Path.{◌≡◌, sym, ◌∙◌}
use mathlib.Core.List.{List}
use Prim.Native.Nat.{ℕ}
use Rattle.stoplist.specs.declared.Columns.{Columns}
use Rattle.headings.specs.Found.{Found}
use Rattle.headings.proofs.columns_of.Reads as columns_of

one_found : {l : List ℕ} (C D : Columns) → Found l C → Found l D → C ≡ D
one_found C D p q k = record {
  count = (p.count ∙ sym q.count) k;
  trip = (p.trip ∙ sym q.trip) k;
  arrival = (p.arrival ∙ sym q.arrival) k;
  departure = (p.departure ∙ sym q.departure) k;
  stop = (p.stop ∙ sym q.stop) k;
  sequence = (p.sequence ∙ sym q.sequence) k;
}

pub one-columns-of : (κs : _) (a : _) (z z' : _) (e e' : _) → columns_of.Post κs a z e → columns_of.Post κs a z' e' → z ≡ z'
one-columns-of κs a z z' e e' p q = one_found z z' p q
