use mathlib.Core.Path.{◌≡◌}
use Prim.Native.Nat.{◌+◌, ◌≤◌}
use lib.ListN.{length}
use Rattle.records.specs.Columns.{records_in}
use Rattle.departing.specs.Scratch.{Outside, Noted}
use Rattle.departing.proofs.note.Given as goal

abbrev pub invariant-loop-i : goal.invariant-loop-i
invariant-loop-i l =
    (l.i ≤ l.n) × (l.n ≡ records_in l.size l.table) × (length l.scratch ≡ 2048) × Noted l.size l.table l.at l.i l.scratch × Outside l.at (l.at + 70) l.initial.scratch l.scratch
