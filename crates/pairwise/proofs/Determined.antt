-- The contracts settle their answers. Assumes nothing.
use Rattle.std.specs.Prelude.{ℕ, ◌<◌, ⊤, Result, Ok, Err, IfErr}
use mathlib.Core.Path.{◌≡◌, refl, sym, ap, ap₂, ◌∙◌}
use native.Mathlib.Omega.{arith}
use Rattle.journeys.specs.Refusals as refusals
use Rattle.words.specs.declared.Refusal as declared
use Rattle.words.specs.Told.{told_by}
use Rattle.pairwise.proofs.is_next.Reads as is-next
use Rattle.pairwise.proofs.first_bad.Reads as first-bad

pub one-is-next : (κs : _) (a : _) (z z' : _) (e e' : _) → is-next.Post κs a z e → is-next.Post κs a z' e' → z ≡ z'
one-is-next κs a z z' e e' p q = p ∙ sym q

-- Of two answers that a place has under one reason, a refusal tells its place, and none tells 0. What stands between κs and the arguments is what the type in the reason's place brings.
one_answer : {N : Type 0} (number : N → ℕ) (reason : N) (x y : Result ⊤ (declared.Refusal N)) → IfErr x (λ r. (r.reason ≡ reason) × (0 < number reason)) → IfErr y (λ r. (r.reason ≡ reason) × (0 < number reason))
    → told_by number x ≡ told_by number y → x ≡ y
one_answer number reason (Ok _) (Ok _) p q e = refl
one_answer number reason (Ok _) (Err s) p q e = absurd (omega (arith, q.1, ap (λ (x : refusals.Refusal). x.number) e ∙ ap number q.0))
one_answer number reason (Err r) (Ok _) p q e = absurd (omega (arith, p.1, sym (ap number p.0) ∙ ap (λ (x : refusals.Refusal). x.number) e))
one_answer {N} number reason (Err r) (Err s) p q e = ap₂ (λ (x : N) (y : ℕ). Err (record { reason = x; place = y })) (p.0 ∙ sym q.0) (ap (λ (x : refusals.Refusal). x.place) e)

pub one-first-bad : (κs b c d f g h i j k : _) (a : _) (z z' : _) (e e' : _) → first-bad.Post κs b c d f g h i j k a z e → first-bad.Post κs b c d f g h i j k a z' e' → z ≡ z'
one-first-bad κs b c d f g h i j k a z z' e e' p q = one_answer _ _ z z' p.1 q.1 (p.0 ∙ sym q.0)
