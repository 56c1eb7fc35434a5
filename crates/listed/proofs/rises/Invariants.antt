use Prim.Native.Nat.{◌≤◌}
use Rattle.listing.specs.Places.{total, from_of}
use Rattle.listed.specs.Stretches.{Rising}
use Rattle.listed.proofs.rises.Given as goal

abbrev pub invariant-loop-i : goal.invariant-loop-i
invariant-loop-i l =
    (l.first ≤ l.i) × (l.i ≤ l.end) × Rising (from_of l.hop_size l.walks l.hops) (total l.hop_size l.walks l.hops) l.v l.first l.i l.low l.list
