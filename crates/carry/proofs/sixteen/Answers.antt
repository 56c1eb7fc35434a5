-- `sixteen`: first the stop before, then this one.
use mathlib.Core.Path.{◌≡◌, refl, ◌∙◌}
use mathlib.Core.Bool.{Bool, cond}
use Prim.Native.Nat.{ℕ, min}
use Rattle.journeys.specs.Counting.{none}
use Rattle.carry.specs.Carried as spec
use Rattle.carry.proofs.sixteen.Goals as goal

told : {m m' l l' : ℕ} {t t' : Bool} → m ≡ m' → t ≡ t' → l ≡ l' → min m (cond t l none) ≡ min m' (cond t' l' none)
told x y z = rw (x, y, z) refl

pub returns : goal.returns
unfolding spec.sixteen
returns c =
    c.lowered.ensures ∙ told (c.lowered-before.ensures ∙ told refl c.ended.ensures c.line.ensures) c.untimely.ensures c.line-2.ensures
