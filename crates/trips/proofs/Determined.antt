-- The contracts settle what is returned. Assumes nothing.
use mathlib.Core.Path.{◌≡◌, sym, ◌∙◌}
use Rattle.trips.proofs.trip_at.Reads as trip-at
use Rattle.trips.proofs.standing_at.Reads as standing-at

pub one-trip-at : (κs : _) (a : _) (z z' : _) (e e' : _) → trip-at.Post κs a z e → trip-at.Post κs a z' e' → z ≡ z'
one-trip-at κs a z z' e e' p q = p ∙ sym q

pub one-standing-at : (κs : _) (a : _) (z z' : _) (e e' : _) → standing-at.Post κs a z e → standing-at.Post κs a z' e' → z.0 ≡ z'.0
one-standing-at κs a z z' e e' p q = p ∙ sym q
