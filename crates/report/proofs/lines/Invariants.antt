use mathlib.Core.Path.{◌≡◌}
use Prim.Native.Nat.{◌+◌, ◌-◌, ◌*◌, ◌≤◌}
use lib.ListN.{length}
use Rattle.copying.specs.Write.{Wrote}
use Rattle.report.specs.Text.{lines}
use Rattle.report.proofs.lines.Given as goal

abbrev pub invariant-loop-i : goal.invariant-loop-i
invariant-loop-i l = (l.i ≤ l.count) × (length l.out ≡ length l.initial.out) × (l.to ≤ l.at + 49 * l.i) × Wrote l.initial.out l.at (lines l.label l.table l.n l.i) l.out l.to
