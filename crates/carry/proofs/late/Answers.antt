-- `late`: a stop that no other follows is to be timed.
use mathlib.Core.Path.{◌≡◌, refl, ◌∙◌}
use mathlib.Core.Bool.{Bool, true, false, not, cond}
use Prim.Native.Nat.{ℕ, min}
use Rattle.journeys.specs.Counting.{none}
use Rattle.carry.specs.Carried.{late_end}
use Rattle.carry.proofs.late.Goals as goal

turned : (m : ℕ) {t t' : Bool} {l l' : ℕ} → t ≡ t' → l ≡ l' → min m (cond (not t) l none) ≡ min m (cond t' none l')
turned m {t} {t'} {l} {l'} e f = rw (e, f) (go t')
  where
    go : (b : Bool) → min m (cond (not b) l' none) ≡ min m (cond b none l')
    go true = refl
    go false = refl

pub returns : goal.returns
unfolding late_end
returns c =
    c.lowered.ensures ∙ turned c.args.c.sixteen c.timed.ensures c.line.ensures
