use Prim.Native.Nat.{◌≤◌}
use Rattle.listing.specs.Places.{total, from_of}
use Rattle.listed.proofs.Judging.{Passed}
use Rattle.listed.proofs.differs.Given as goal

abbrev pub invariant-loop-x : goal.invariant-loop-x
invariant-loop-x l =
    (l.x ≤ total l.hop_size l.walks l.hops) × Passed (from_of l.hop_size l.walks l.hops) (total l.hop_size l.walks l.hops) l.v l.first l.x l.at l.list
