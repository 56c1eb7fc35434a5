-- `fifteen`: the line is told if trip and sequence are those of the stop before.
use mathlib.Core.Path.{◌≡◌, refl, ◌∙◌}
use mathlib.Core.Bool.{Bool, cond, ◌&&◌}
use Prim.Native.Nat.{ℕ, min}
use lib.Dec.{eqb}
use Rattle.journeys.specs.Counting.{none}
use Rattle.carry.specs.Carried as spec
use Rattle.carry.proofs.fifteen.Goals as goal

same_line : (m : ℕ) (t : Bool) {a b l a' b' l' : ℕ} → a ≡ a' → b ≡ b' → l ≡ l' → min m (cond (t && eqb a b) l none) ≡ min m (cond (t && eqb a' b') l' none)
same_line m t x y z = rw (x, y, z) refl

pub returns : goal.returns
unfolding spec.fifteen
returns c =
    let a = c.args in
    c.lowered.ensures ∙ same_line a.c.fifteen (eqb a.c.prev.high a.x.high) c.sequence.ensures c.sequence-2.ensures c.line.ensures
