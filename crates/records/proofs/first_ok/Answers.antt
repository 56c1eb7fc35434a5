-- `records::first_ok` meets its contract: each return is the case of an ascending column that its tests pick. Assumes nothing.
use mathlib.Core.Path.{sym}
use Prim.Native.Nat.{◌-◌, ◌<◌}
use native.Mathlib.Omega.{arith}
use Rattle.records.specs.Columns.{to_at}
use Rattle.records.proofs.Columns.{first-right, first-high, first_past, first-named}
use Rattle.records.proofs.first_ok.Goals as goal
use Rattle.records.proofs.first_ok.Goals.{Joined-at-gt0, then-at-gt0+else-v-to_at, else-at-gt0}

-- what the first test leaves: the record before is below v
passed : (c : Joined-at-gt0) → 0 < c.args.first → to_at c.args.size c.args.table.now (c.args.first - 1) < c.args.v
passed c h =
    elim c.if-at-gt0.branch [ then-at-gt0+else-v-to_at w ↦ rw w.to_at.ensures at w.if-v-to_at.false | else-at-gt0 w ↦ absurd (omega arith) ]

pub returns-then-table-size : goal.returns-then-table-size
returns-then-table-size c =
    sym (first_past c.args.size c.args.table.now c.requires.ascending c.args.v c.args.first (omega arith))

pub returns-then-v-to_at : goal.returns-then-v-to_at
returns-then-v-to_at c =
    sym (first-high c.args.size c.args.table.now c.requires.ascending c.args.v c.args.first (omega arith) (omega arith) (rw c.to_at.ensures at c.if-v-to_at.true))

pub returns-then-at-table : goal.returns-then-at-table
returns-then-at-table c =
    rw c.to_at-then-at-table.ensures (first-named c.args.size c.args.table.now c.requires.ascending c.args.v c.args.first (omega arith) (passed (goal.at.returns-then-at-table c).Joined-at-gt0))

pub returns : goal.returns
returns c =
    sym (first-right c.args.size c.args.table.now c.requires.ascending c.args.v c.args.first (omega arith) (passed (goal.at.returns c).Joined-at-gt0) (λ h. absurd (omega arith)))
