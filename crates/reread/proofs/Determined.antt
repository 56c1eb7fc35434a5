-- The contracts settle their answers. Assumes nothing.
use mathlib.Core.Path.{◌≡◌, sym, ap, ◌∙◌}
use Rattle.feed.specs.Stops.{Stop}
use Rattle.reread.specs.declared.Halt.{Halt}
use Rattle.reread.specs.Read.{stop_is}
use Rattle.reread.proofs.stop_at.Reads as stop-at
use Rattle.reread.proofs.count_stops.Reads as count-stops

one-halt : (x y : Halt) → stop_is x ≡ stop_is y → x ≡ y
one-halt x y p =
    ap (λ (s : Stop). record { line = s.line; trip = s.trip; number = s.trip_number; sequence = s.sequence; vertex = s.vertex; timed = s.timed; arrival = s.arrival; departure = s.departure }) p

pub one-stop-at : (κs : _) (a : _) (z z' : _) (e e' : _) → stop-at.Post κs a z e → stop-at.Post κs a z' e' → z ≡ z'
one-stop-at κs a z z' e e' p q = one-halt z z' (p ∙ sym q)

pub one-count-stops : (κs : _) (a : _) (z z' : _) (e e' : _) → count-stops.Post κs a z e → count-stops.Post κs a z' e' → z ≡ z'
one-count-stops κs a z z' e e' p q = p ∙ sym q
