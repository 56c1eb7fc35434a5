use Prim.Native.Nat.{◌-◌}
use Rattle.reread.specs.Read.{stops_here}
use Rattle.pairwise.specs.Asked.{asked}
use Rattle.pairwise.proofs.Answers.{once-told}
use Rattle.pairwise.proofs.is_once.Goals as goal

pub returns : goal.returns
unfolding asked
returns c =
    let a = c.args in
    once-told (stops_here a.c a.stops.now a.trips.now a.text.now a.from) a.i c.stop_at-h.ensures c.any.ensures
