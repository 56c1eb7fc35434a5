-- Any two answers that a contract allows are equal, and so are any two states of the answer slice. Assumes nothing.
use mathlib.Core.Path.{◌≡◌, sym, ◌∙◌}
use Rattle.calls.proofs.query_at.Reads as query-at
use Rattle.calls.proofs.limit_at.Reads as limit-at
use Rattle.calls.proofs.put_answer.Reads as put-answer
use Rattle.calls.proofs.put_three.Reads as put_three

pub one-query-at : (κs : _) (a : _) (z z' : _) (e e' : _) → query-at.Post κs a z e → query-at.Post κs a z' e' → z ≡ z'
one-query-at κs a z z' e e' p q = p ∙ sym q

pub one-limit-at : (κs : _) (a : _) (z z' : _) (e e' : _) → limit-at.Post κs a z e → limit-at.Post κs a z' e' → z ≡ z'
one-limit-at κs a z z' e e' p q = p ∙ sym q

pub one-put-answer : (κs : _) (a : _) (z z' : _) (e e' : _) → put-answer.Post κs a z e → put-answer.Post κs a z' e' → e.0.now ≡ e'.0.now
one-put-answer κs a z z' e e' p q = p ∙ sym q

pub one-put-three : (κs : _) (a : _) (z z' : _) (e e' : _) → put_three.Post κs a z e → put_three.Post κs a z' e' → e.0.now ≡ e'.0.now
one-put-three κs a z z' e e' p q = p ∙ sym q
