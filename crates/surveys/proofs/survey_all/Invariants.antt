use mathlib.Core.Path.{◌≡◌}
use Prim.Native.Nat.{◌-◌, ◌≤◌}
use lib.ListN.{length, replicate}
use Rattle.directed.specs.Directed.{row_in}
use Rattle.worktable.specs.Table.{map_of}
use Rattle.meeting.specs.Answer.{Leads}
use Rattle.surveys.specs.Survey.{touched_to}
use Rattle.surveys.proofs.BlockByBlock.{Stands}
use Rattle.surveys.proofs.survey_all.Given as goal

abbrev pub invariant-loop-block : goal.invariant-loop-block
invariant-loop-block l =
    (l.block ≤ 32)
    × Leads l.t l.t l.held (touched_to (row_in l.vertices l.walks l.hops l.list l.row) l.n l.block (map_of l.t l.initial.held))
    × (l.counters ≡ replicate 2048 0)
    × Stands (row_in l.vertices l.walks l.hops l.list l.row) l.n (map_of l.t l.initial.held) l.block l.total l.best l.start
    × (length l.held ≡ length l.initial.held) × (length l.counters ≡ length l.initial.counters)

abbrev pub decreases-loop-block : goal.decreases-loop-block
decreases-loop-block l = 32 - l.block
