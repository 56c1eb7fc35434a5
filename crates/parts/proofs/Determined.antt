-- Any two answers that a contract allows are equal; where the parts fit, so is every byte of the buffer. Assumes nothing.
use mathlib.Core.Path.{◌≡◌, refl, sym, ap, ◌∙◌}
use mathlib.Core.List.{List}
use Prim.Native.Nat.{ℕ}
use native.Mathlib.Omega.{arith}
use Rattle.journeys.specs.Parts.{Part}
use Rattle.parts.specs.Listing.{ListedIs}
use Rattle.std.specs.Prelude.{Option, Some, None}
use Rattle.parts.proofs.read_road.Reads as read-road
use Rattle.parts.proofs.list_first.Reads as list-first
use Rattle.parts.proofs.list_arriving.Reads as list-arriving
use Rattle.parts.proofs.list_ahead.Reads as list-ahead
use Rattle.parts.proofs.list_departing.Reads as list-departing

-- How many are listed, or that there is no room, follows from what is there and what is to be listed.
listed-one : (count : ℕ) (ps : List Part) (b c d : List ℕ) (x y : Option ℕ) → ListedIs count ps b c x → ListedIs count ps b d y → x ≡ y
unfolding ListedIs
listed-one count ps b c d (Some r) (Some q) h k = ap Some (h.counted ∙ sym k.counted)
listed-one count ps b c d (Some r) None h k = absurd (omega (arith, h.counted, h.room, k.over))
listed-one count ps b c d None (Some q) h k = absurd (omega (arith, k.counted, k.room, h.over))
listed-one count ps b c d None None h k = refl

-- the bytes where all fit
pub bytes_one : (count : ℕ) (ps : List Part) (b c d : List ℕ) (r q : ℕ) → ListedIs count ps b c (Some r) → ListedIs count ps b d (Some q) → c ≡ d
unfolding ListedIs
bytes_one count ps b c d r q h k = h.bytes ∙ sym k.bytes

pub one-road : (κs : _) (a : _) (z z' : _) (e e' : _) → read-road.Post κs a z e → read-road.Post κs a z' e' → z ≡ z'
one-road κs a z z' e e' p q = p ∙ sym q

pub one-first : (κs : _) (a : _) (z z' : _) (e e' : _) → list-first.Post κs a z e → list-first.Post κs a z' e' → z ≡ z'
one-first κs a z z' e e' p q = listed-one _ _ _ _ _ z z' p q

pub one-arriving : (κs : _) (a : _) (z z' : _) (e e' : _) → list-arriving.Post κs a z e → list-arriving.Post κs a z' e' → z ≡ z'
one-arriving κs a z z' e e' p q = listed-one _ _ _ _ _ z z' p q

pub one-ahead : (κs : _) (a : _) (z z' : _) (e e' : _) → list-ahead.Post κs a z e → list-ahead.Post κs a z' e' → z ≡ z'
one-ahead κs a z z' e e' p q = listed-one _ _ _ _ _ z z' p q

pub one-departing : (κs : _) (a : _) (z z' : _) (e e' : _) → list-departing.Post κs a z e → list-departing.Post κs a z' e' → z ≡ z'
one-departing κs a z z' e e' p q = listed-one _ _ _ _ _ z z' p q
