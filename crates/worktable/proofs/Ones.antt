-- A truth value as a number: what the library makes of it is what the definitions do. Assumes nothing.
use mathlib.Core.Path.{◌≡◌, refl}
use mathlib.Core.Bool.{Bool, true, false}
use Prim.Native.Nat.{◌≤◌}
use native.Mathlib.Omega.{arith}
use Rattle.std.specs.Int.{from_bool}
use Rattle.journeys.specs.Counting.{one}

pub as-one : (b : Bool) → from_bool b ≡ one b
as-one true = refl
as-one false = refl

pub one-low : (b : Bool) → from_bool b ≤ 1
one-low true = omega arith
one-low false = omega arith
