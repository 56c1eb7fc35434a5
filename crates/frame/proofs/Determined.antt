-- Any two answers that the contracts allow are equal, in every bit, and so are any two states of the lent marks and of the answer slice. Assumes nothing.
use mathlib.Core.Path.{◌≡◌, sym, ap, ◌∙◌}
use Prim.Native.Nat.{ℕ}
use Rattle.std.specs.Prelude.{Result, Ok, Err}
use Rattle.journeys.specs.Refusals as refusals
use Rattle.words.specs.Told.{told}
use Rattle.words.specs.Refusal.{Refusal}
use Rattle.words.proofs.Told.{named, refused-injective}
use Rattle.frame.specs.Floats.{frame_in}
use Rattle.frame.specs.declared.Frame.{Frame}
use Rattle.frame.proofs.frame_of.Reads as frame-of
use Rattle.frame.proofs.in_numbers.Reads as in-numbers
use Rattle.frame.proofs.put.Reads as put

number : refusals.Refusal → ℕ
number r = r.number

-- what is told and the frame make the answer
framed-one : (x y : Result Frame Refusal) → told x ≡ told y → frame_in x ≡ frame_in y → x ≡ y
unfolding number
framed-one (Ok f) (Ok g) e q = ap Ok q
framed-one (Ok f) (Err r) e q = absurd (named r.reason (sym (ap number e)))
framed-one (Err r) (Ok f) e q = absurd (named r.reason (ap number e))
framed-one (Err r) (Err s) e q = ap Err (refused-injective r s (ap number e) (ap (λ (x : refusals.Refusal). x.place) e))

pub one-frame : (κs : _) (a : _) (z z' : _) (e e' : _) → frame-of.Post κs a z e → frame-of.Post κs a z' e' → z ≡ z'
one-frame κs a z z' e e' p q = framed-one z z' (p.0 ∙ sym q.0) (p.1.0 ∙ sym q.1.0)

pub one-marks : (κs : _) (a : _) (z z' : _) (e e' : _) → frame-of.Post κs a z e → frame-of.Post κs a z' e' → e.1.1.1.0.now ≡ e'.1.1.1.0.now
one-marks κs a z z' e e' p q = p.1.1 ∙ sym q.1.1

pub one-in-numbers : (κs : _) (a : _) (z z' : _) (e e' : _) → in-numbers.Post κs a z e → in-numbers.Post κs a z' e' → z ≡ z'
one-in-numbers κs a z z' e e' p q = p ∙ sym q

pub one-slice : (κs : _) (a : _) (z z' : _) (e e' : _) → put.Post κs a z e → put.Post κs a z' e' → e.0.now ≡ e'.0.now
one-slice κs a z z' e e' p q = p ∙ sym q
