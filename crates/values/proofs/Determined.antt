-- Any two answers that a contract allows are equal. Assumes nothing.
use mathlib.Core.Path.{◌≡◌, sym, ◌∙◌}
use Rattle.values.proofs.read_number.Reads as read_number
use Rattle.values.proofs.read_time.Reads as read-time

pub one-read-number : (κs : _) (a : _) (z z' : _) (e e' : _) → read_number.Post κs a z e → read_number.Post κs a z' e' → z ≡ z'
one-read-number κs a z z' e e' p q = p ∙ sym q

pub one-read-time : (κs : _) (a : _) (z z' : _) (e e' : _) → read-time.Post κs a z e → read-time.Post κs a z' e' → z ≡ z'
one-read-time κs a z z' e e' p q = p ∙ sym q
