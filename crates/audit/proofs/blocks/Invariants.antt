use mathlib.Core.Path.{◌≡◌}
use Prim.Native.Nat.{◌-◌, ◌*◌, ◌/◌}
use lib.ListN.{length}
use Rattle.journeys.specs.Tables.{tables_of}
use Rattle.records.specs.Columns.{records_in}
use Rattle.audit.specs.Judging.{vertex_refusals}
use Rattle.departing.specs.Scratch.{Noted}
use Rattle.audit.proofs.blocks.Given as goal

abbrev pub invariant-loop-g : goal.invariant-loop-g
invariant-loop-g l =
    (length l.scratch ≡ 2048)
    × Noted 16 l.walks 1904 (records_in 16 l.walks) l.scratch
    × Noted l.hop_size l.hops 1974 (records_in l.hop_size l.hops) l.scratch
    × (vertex_refusals (tables_of l.hop_size l.vertices l.walks l.hops) (length l.vertices / 12 - 1904 * l.g) (1904 * l.g) ≡ vertex_refusals (tables_of l.hop_size l.vertices l.walks l.hops) (length l.vertices / 12) 0)
