-- Fields passed in several goes are the same as in one. Assumes nothing.
use Prim.Native.Nat.{ℕ, zero, suc, ◌+◌}
use native.Mathlib.Nat.{zero-add, suc-add}
use mathlib.Core.Path.{◌≡◌, refl, sym, ap}
use mathlib.Core.Bool.{Bool, true, false, cond}
use mathlib.Core.List.{List}
use Rattle.lines.specs.declared.Stand.{Stand}
use Rattle.lines.specs.Passing.{stand}
use Rattle.lines.specs.Onward.{onward}

pushed : (f : Stand → Stand) (b : Bool) (x y : Stand) → f (cond b x y) ≡ cond b (f x) (f y)
pushed f true x y = refl
pushed f false x y = refl

pub stand-more : (s : List ℕ) (first more at : ℕ) → onward s more (stand s first at) ≡ stand s (first + more) at
unfolding stand
stand-more s zero more at = ap (λ n. stand s n at) (sym (zero-add more))
stand-more s (suc k) more at = simp (suc-add, pushed (onward s more), stand-more s k more)
