use mathlib.Core.Path.{◌≡◌}
use Prim.Native.Nat.{◌-◌, ◌≤◌}
use Rattle.frame.specs.Frames.{bounds_to}
use Rattle.frame.specs.Floats.{frame_from}
use Rattle.frame.proofs.around.Given as goal

abbrev pub invariant-loop-i : goal.invariant-loop-i
invariant-loop-i l = (1 ≤ l.i) × (l.i ≤ l.n) × (l.f ≡ frame_from (bounds_to l.list l.coordinates (l.i - 1)))
