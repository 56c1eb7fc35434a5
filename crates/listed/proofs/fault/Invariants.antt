use mathlib.Core.Path.{◌≡◌}
use Rattle.listing.specs.Places.{total, from_of, below}
use Rattle.listed.specs.Stretches.{Found}
use Rattle.listed.proofs.fault.Given as goal

abbrev pub invariant-loop-v : goal.invariant-loop-v
invariant-loop-v l =
    (l.first ≡ below (from_of l.hop_size l.walks l.hops) l.v (total l.hop_size l.walks l.hops)) × Found (from_of l.hop_size l.walks l.hops) (total l.hop_size l.walks l.hops) l.v l.list
