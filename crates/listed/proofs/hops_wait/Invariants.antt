use mathlib.Core.Path.{◌≡◌}
use Prim.Native.Nat.{ℕ, ◌≤◌}
use lib.ListN.{length}
use Rattle.records.specs.Columns.{records_in, from_at}
use Rattle.listing.specs.Places.{total, from_of}
use Rattle.listed.specs.Stretches.{Rising}
use Rattle.listed.specs.Waiting.{Leave}
use Rattle.listed.proofs.hops_wait.Given as goal

abbrev pub invariant-loop-i : goal.invariant-loop-i
invariant-loop-i l =
    (l.i ≤ l.end) × (l.many ≤ 512) × (length l.scratch ≡ 2048) × (records_in 16 l.walks ≤ l.least)
    × (Leave (from_at l.hop_size l.hops) l.scratch l.many → Leave (from_at l.hop_size l.hops) l.initial.scratch l.k)
    × (Leave (from_at l.hop_size l.hops) l.scratch l.many → (first : ℕ) → Rising (from_of l.hop_size l.walks l.hops) (total l.hop_size l.walks l.hops) l.v first l.at (records_in 16 l.walks) l.list → Rising (from_of l.hop_size l.walks l.hops) (total l.hop_size l.walks l.hops) l.v first l.i l.least l.list)
