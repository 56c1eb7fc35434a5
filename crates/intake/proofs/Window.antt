-- A duration of at most a day, as signed seconds and in ticks. Assumes nothing.
use mathlib.Core.Path.{◌≡◌, ap, ◌∙◌}
use Prim.Native.Nat.{ℕ, ◌*◌, ◌≤◌}
use native.Mathlib.Omega.{arith}
use lib.Dec.{le→leb}
use lib.IntN.{ℤ, pos, nat_abs}
use lib.Signed.{◌≤ℤ◌}
use mir.Syntax.{w32}
use mir.Val.{to_z}
use mir.ValLaws.{to_z_pos}

module _ (duration : ℕ) (day : duration ≤ 86400) where
  pub window-some : (pos 0 ≤ℤ to_z w32 duration) × (to_z w32 duration ≤ℤ pos 259200)
  window-some = rw (to_z_pos w32 duration (omega arith)) (record { le = le→leb 0 duration (omega arith) }, record { le = le→leb duration 259200 (omega arith) })

  pub window-is : (D speed : ℕ) → D ≡ nat_abs (to_z w32 duration) * speed → D ≡ duration * speed
  window-is D speed h = h ∙ ap (λ (z : ℤ). nat_abs z * speed) (to_z_pos w32 duration (omega arith))
