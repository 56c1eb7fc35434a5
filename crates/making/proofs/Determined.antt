-- Any two answers that a contract allows are equal, and so is what is left in the list and in the scratch. Assumes nothing.
use mathlib.Core.Path.{◌≡◌, sym, ◌∙◌}
use Rattle.words.proofs.Told.{told-injective}
use Rattle.making.proofs.list_length.Reads as list_length
use Rattle.making.proofs.courier_list.Reads as courier-list

pub one-list-length : (κs : _) (a : _) (z z' : _) (e e' : _) → list_length.Post κs a z e → list_length.Post κs a z' e' → z ≡ z'
one-list-length κs a z z' e e' p q = told-injective z z' (p ∙ sym q)

pub one-courier-list : (κs : _) (a : _) (z z' : _) (e e' : _) → courier-list.Post κs a z e → courier-list.Post κs a z' e'
    → (z ≡ z') × (e.1.1.1.1.0.now ≡ e'.1.1.1.1.0.now) × (e.1.1.1.1.1.0.now ≡ e'.1.1.1.1.1.0.now)
one-courier-list κs a z z' e e' p q = (told-injective z z' (p.0 ∙ sym q.0), p.1.0 ∙ sym q.1.0, p.1.1 ∙ sym q.1.1)
