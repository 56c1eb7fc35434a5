-- `in_order`: sorted, then written out.
use mathlib.Core.Path.{sym, subst, ◌∙◌}
use Rattle.hopbytes.specs.Listing.{OnTrips}
use Rattle.departures.proofs.JudgeLaws.{on-sorted}
use Rattle.departures.proofs.in_order.Goals as goal

pub write_hops-requires : goal.write_hops-requires
write_hops-requires c =
    (c.sort.auto.b ∙ c.requires.0, subst (OnTrips c.args.trips.now) (sym c.sort.ensures) (on-sorted c.args.trips.now _ c.requires.1))
