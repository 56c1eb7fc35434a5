-- Any two answers that a contract allows are equal. Assumes nothing.
use mathlib.Core.Path.{◌≡◌, sym, ◌∙◌}
use Rattle.lines.proofs.line_stop.Reads as line-stop
use Rattle.lines.proofs.line_next.Reads as line-next
use Rattle.lines.proofs.pass.Reads as pass
use Rattle.lines.proofs.some_fields.Reads as some-fields
use Rattle.lines.proofs.span_at.Reads as span-at

pub one-line-stop : (κs : _) (a : _) (z z' : _) (e e' : _) → line-stop.Post κs a z e → line-stop.Post κs a z' e' → z ≡ z'
one-line-stop κs a z z' e e' p q = p ∙ sym q

pub one-line-next : (κs : _) (a : _) (z z' : _) (e e' : _) → line-next.Post κs a z e → line-next.Post κs a z' e' → z ≡ z'
one-line-next κs a z z' e e' p q = p ∙ sym q

pub one-pass : (κs : _) (a : _) (z z' : _) (e e' : _) → pass.Post κs a z e → pass.Post κs a z' e' → z ≡ z'
one-pass κs a z z' e e' p q = p ∙ sym q

pub one-span-at : (κs : _) (a : _) (z z' : _) (e e' : _) → span-at.Post κs a z e → span-at.Post κs a z' e' → z ≡ z'
one-span-at κs a z z' e e' p q = p ∙ sym q

pub one-some-fields : (κs : _) (a : _) (z z' : _) (e e' : _) → some-fields.Post κs a z e → some-fields.Post κs a z' e' → z ≡ z'
one-some-fields κs a z z' e e' p q = p ∙ sym q
