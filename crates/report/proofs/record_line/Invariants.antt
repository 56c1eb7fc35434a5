use Prim.Native.Nat.{◌+◌, ◌-◌, ◌*◌, ◌≤◌}
use lib.ListN.{length}
use Rattle.copying.specs.Write.{Wrote}
use Rattle.report.specs.Text.{fields_at}
use mathlib.Core.Path.{◌≡◌}
use Rattle.report.proofs.record_line.Given as goal

abbrev pub invariant-loop-j : goal.invariant-loop-j
invariant-loop-j l = (l.j ≤ l.n) × (length l.out ≡ length l.initial.out) × (l.to ≤ l.initial.to + 11 * l.j) × Wrote l.initial.out l.initial.to (fields_at l.table l.from l.j) l.out l.to
