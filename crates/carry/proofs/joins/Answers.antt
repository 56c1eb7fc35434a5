-- `joins`: the tests of the definition.
use mathlib.Core.Path.{◌≡◌, refl}
use mathlib.Core.Bool.{Bool, not, ◌&&◌}
use Prim.Native.Nat.{ℕ}
use lib.Dec.{eqb}
use Rattle.carry.specs.Carried as spec
use Rattle.carry.proofs.joins.Goals as goal

same_tests : {t t' : Bool} (e : Bool) {a b a' b' : ℕ} → t ≡ t' → a ≡ a' → b ≡ b' → t && (e && not (eqb a b)) ≡ t' && (e && not (eqb a' b'))
same_tests e x y z = rw (x, y, z) refl

pub returns : goal.returns
unfolding spec.joins
returns c =
    let a = c.args in
    same_tests (eqb a.c.last.high a.x.high) c.timed.ensures c.vertex.ensures.0 c.vertex-2.ensures.0
