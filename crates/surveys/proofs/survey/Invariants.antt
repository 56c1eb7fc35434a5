use mathlib.Core.Path.{◌≡◌}
use Prim.Native.Nat.{ℕ, ◌+◌, ◌-◌, ◌≤◌, ◌<◌}
use lib.ListN.{length, get_or}
use Rattle.directed.specs.Directed.{row_in}
use Rattle.worktable.specs.Map.{size}
use Rattle.worktable.specs.Table.{map_of}
use Rattle.meeting.specs.Passing.{goes}
use Rattle.meeting.proofs.Loops.{Went}
use Rattle.blocks.specs.Block.{noting}
use Rattle.surveys.specs.Survey.{touches_in, meets_in}
use Rattle.surveys.proofs.survey.Given as goal

abbrev pub invariant-loop-j : goal.invariant-loop-j
invariant-loop-j l =
    Went (row_in l.vertices l.walks l.hops l.list l.row).from (touches_in (row_in l.vertices l.walks l.hops l.list l.row) l.block) l.n l.t l.initial.held l.t l.held l.j
    × (length l.counters ≡ length l.initial.counters)
    × ((k : ℕ) → k < 2048 → get_or l.counters k 0 ≡ noting (row_in l.vertices l.walks l.hops l.list l.row) l.block (map_of l.t l.initial.held) l.j k)
    × (l.tally + size (map_of l.t l.initial.held) ≡ l.n + size (goes (row_in l.vertices l.walks l.hops l.list l.row).from (meets_in (row_in l.vertices l.walks l.hops l.list l.row) l.block) l.j (map_of l.t l.initial.held)))
    × (l.n ≤ l.tally + l.j) × (l.tally ≤ l.n + l.j)
