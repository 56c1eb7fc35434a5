use mathlib.Core.Path.{◌≡◌}
use Prim.Native.Nat.{◌≤◌}
use lib.ListN.{length}
use Rattle.records.specs.Columns.{from_at}
use Rattle.starts.specs.Sums.{sums}
use Rattle.listing.specs.Places.{total, from_of}
use Rattle.listed.specs.Waiting.{Leave}
use Rattle.listed.proofs.Counting.{Climbed}
use Rattle.listed.proofs.sure.Given as goal

abbrev pub invariant-loop-v : goal.invariant-loop-v
invariant-loop-v l =
    (l.v ≤ l.n) × (l.first ≤ l.many) × (l.first ≡ sums l.vertices l.v) × (l.k ≤ 512) × (length l.scratch ≡ 2048)
    × (Leave (from_at l.hop_size l.hops) l.scratch l.k → Climbed (from_of l.hop_size l.walks l.hops) (total l.hop_size l.walks l.hops) l.vertices l.list l.v)
