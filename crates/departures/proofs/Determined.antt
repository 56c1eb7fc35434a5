-- The contracts of `finish` and `refuse` settle the answer and every lent byte. Assumes nothing.
use mathlib.Core.Path.{◌≡◌, refl, sym, ap, ap₂, ◌∙◌}
use Rattle.std.specs.Prelude.{ℕ, Result, Ok, Err}
use Rattle.journeys.specs.Refusals as refusals
use Rattle.words.specs.declared.Reason.{Reason}
use Rattle.words.specs.Refusal.{Refusal}
use Rattle.words.specs.Told.{told}
use Rattle.words.proofs.Told.{named, number-injective}
use Rattle.departures.specs.Answered.{hops_told}
use Rattle.departures.proofs.finish.Reads as finish
use Rattle.departures.proofs.refuse.Reads as refuse

pub one_answer : (x y : Result ℕ Refusal) → told x ≡ told y → hops_told x ≡ hops_told y → x ≡ y
one_answer (Ok k) (Ok n) p q = ap (λ (m : ℕ). Ok m) q
one_answer (Ok k) (Err s) p q = absurd (named s.reason (sym (ap (λ (x : refusals.Refusal). x.number) p)))
one_answer (Err r) (Ok n) p q = absurd (named r.reason (ap (λ (x : refusals.Refusal). x.number) p))
one_answer (Err r) (Err s) p q =
    ap₂ (λ (x : Reason) (y : ℕ). Err (record { reason = x; place = y }))
    (number-injective r.reason s.reason (ap (λ (x : refusals.Refusal). x.number) p))
    (ap (λ (x : refusals.Refusal). x.place) p)

pub one-finish : (κs : _) (a : _) (z z' : _) (e e' : _) → finish.Post κs a z e → finish.Post κs a z' e' → e.0.now ≡ e'.0.now
one-finish κs a z z' e e' p q = p ∙ sym q

-- what stands between κs and the arguments is what the type in the reason's place brings
pub one-refuse : (κs b c d f g h i j k : _) (a : _) (z z' : _) (e e' : _) → refuse.Post κs b c d f g h i j k a z e → refuse.Post κs b c d f g h i j k a z' e' → (z ≡ z') × (e.0.now ≡ e'.0.now)
one-refuse κs b c d f g h i j k a z z' e e' p q = (p.3 ∙ sym q.3, p.2 ∙ sym q.2)
