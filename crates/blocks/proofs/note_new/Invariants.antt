use mathlib.Core.Path.{◌≡◌}
use Prim.Native.Nat.{ℕ, ◌-◌, ◌≤◌, ◌<◌}
use lib.ListN.{length, get_or}
use Rattle.directed.specs.Directed.{row_in}
use Rattle.worktable.specs.Table.{map_of}
use Rattle.blocks.specs.Block.{noting}
use Rattle.blocks.proofs.note_new.Given as goal

abbrev pub invariant-loop-j : goal.invariant-loop-j
invariant-loop-j l =
    (l.j ≤ l.n) × (length l.counters ≡ length l.initial.counters) × ((k : ℕ) → k < 2048 → get_or l.counters k 0 ≡ noting (row_in l.vertices l.walks l.hops l.list l.row) l.block (map_of l.t l.held) l.j k)
