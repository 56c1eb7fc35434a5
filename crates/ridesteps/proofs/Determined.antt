-- The contract of the steps settles their answer and the bytes of all that is listed. Assumes nothing.
use Rattle.std.specs.Prelude.{Bool, Result, Ok, Err}
use Rattle.words.specs.declared.Reason.{Reason}
use Rattle.words.specs.Refusal.{Refusal}
use mathlib.Core.Path.{◌≡◌, sym, ap, ap₂, ◌∙◌}
use mathlib.Core.Logic.{⊎_elim}
use mathlib.Core.List.{List}
use Prim.Native.Nat.{ℕ, ◌*◌, ◌≤◌, ◌<◌}
use native.Mathlib.Omega.{arith}
use lib.Dec.{leb}
use lib.ListN.{length, take}
use Rattle.journeys.specs.Settled.{Settled}
use Rattle.journeys.proofs.Tests.{le-or-lt}
use Rattle.boarding.proofs.RideOrder.{order_of, order_is}
use Rattle.ridesteps.specs.Ended.{RiddenIs}
use Rattle.ridesteps.specs.declared.Ridden.{Ridden}
use Rattle.ridesteps.proofs.steps.Reads as steps

module _ (l : List Settled) (long limit : ℕ) (s s' : List ℕ) where
  one_end : (r r' : Result Ridden Refusal) → RiddenIs l long limit s r → RiddenIs l long limit s' r' → r ≡ r'
  unfolding RiddenIs
  one_end (Ok r) (Ok s) p q =
      let e : r.settled ≡ s.settled = p.steps ∙ sym q.steps in
      ap₂ (λ (n : ℕ) (f : Bool). Ok (record { settled = n; finished = f })) e (p.finished_is ∙ ap (leb (length l)) e ∙ sym q.finished_is)
  one_end (Ok r) (Err w) p q = absurd (let c : ⊥ = omega (arith, p.lists.room w.place (omega (arith, q.1.made, p.steps)), q.1.lacks) in c)
  one_end (Err w) (Ok r) p q = absurd (let c : ⊥ = omega (arith, q.lists.room w.place (omega (arith, p.1.made, q.steps)), p.1.lacks) in c)
  one_end (Err w) (Err x) p q =
      ap₂ (λ (y : Reason) (n : ℕ). Err (record { reason = y; place = n })) (p.0 ∙ sym q.0)
      (⊎_elim (λ (a : w.place ≤ x.place). ⊎_elim (λ (b : x.place ≤ w.place). omega arith) (λ (b : w.place < x.place). absurd (let c : ⊥ = omega (arith, q.1.before w.place b, p.1.lacks) in c)) (le-or-lt x.place w.place))
      (λ (a : x.place < w.place). absurd (let c : ⊥ = omega (arith, p.1.before x.place a, q.1.lacks) in c)) (le-or-lt w.place x.place))

  one_list : (r : Ridden) → RiddenIs l long limit s (Ok r) → RiddenIs l long limit s' (Ok r) → take (8 * r.settled) s ≡ take (8 * r.settled) s'
  unfolding RiddenIs
  one_list r p q = p.lists.listed ∙ sym q.lists.listed

-- the answer
pub one-steps : (κs : _) (a : _) (z z' : _) (e e' : _) → steps.Pre κs a → steps.Post κs a z e → steps.Post κs a z' e' → z ≡ z'
one-steps κs a z z' e e' o p q =
    let ok = o.0.0.valid in
    one_end (order_of _ _ _ ok) _ _ _ _ z z' (p (order_of _ _ _ ok) (order_is _ _ _ ok)) (q (order_of _ _ _ ok) (order_is _ _ _ ok))

-- the list, where it has room
pub one-listed : (κs : _) (a : _) (r : Ridden) (e e' : _) → steps.Pre κs a → steps.Post κs a (Ok r) e → steps.Post κs a (Ok r) e'
    → take (8 * r.settled) e.1.1.1.1.1.1.1.1.1.0.now ≡ take (8 * r.settled) e'.1.1.1.1.1.1.1.1.1.0.now
one-listed κs a r e e' o p q =
    let ok = o.0.0.valid in
    one_list (order_of _ _ _ ok) _ _ _ _ r (p (order_of _ _ _ ok) (order_is _ _ _ ok)) (q (order_of _ _ _ ok) (order_is _ _ _ ok))
