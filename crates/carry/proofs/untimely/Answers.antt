-- `untimely`: a timed stop by its times, any other by the stop before.
use mathlib.Core.Path.{◌≡◌, refl, sym, ◌∙◌}
use mathlib.Core.Bool.{Bool, ◌&&◌, ◌||◌}
use Prim.Native.Nat.{ℕ}
use lib.Dec.{ltb, eqb}
use Rattle.journeys.proofs.Tests.{cond-true, cond-false}
use Rattle.carry.specs.Carried as spec
use Rattle.carry.proofs.untimely.Goals as goal

same_tests : {a b p q a' b' p' q' : ℕ} (t : Bool) → a ≡ a' → b ≡ b' → p ≡ p' → q ≡ q' → ltb a b || (t && ltb p q) ≡ ltb a' b' || (t && ltb p' q')
same_tests t x y z w = rw (x, y, z, w) refl

pub returns-then-timed : goal.returns-then-timed
unfolding spec.untimely
returns-then-timed c =
    let a = c.args in
    same_tests (eqb a.c.last.high a.x.high) c.departure.ensures c.arrival.ensures c.arrival-then-timed.ensures c.departure-then-timed.ensures
    ∙ sym (cond-true _ _ (sym c.timed.ensures ∙ c.if-timed.true))

pub returns : goal.returns
unfolding spec.untimely
returns c = sym (cond-false _ _ (sym c.timed.ensures ∙ c.if-timed.false))
