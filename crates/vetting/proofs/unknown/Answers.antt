use mathlib.Core.Path.{◌∙◌}
use Rattle.vetting.proofs.VettedLaws.{all-counted, known-lower}
use Rattle.vetting.proofs.unknown.Goals as goal

pub unlisted-by_stop-requires : goal.unlisted-by_stop-requires
unlisted-by_stop-requires c =
    let o = c.requires.opened.0 in record {
      list_good = (c.requires.stops_good, o.inside.stop);
      from_in_bounds = (o.within, all-counted _ _ _ o c.requires.opened.1);
    }

pub unlisted-by_trip-requires : goal.unlisted-by_trip-requires
unlisted-by_trip-requires c =
    let o = c.requires.opened.0 in record {
      list_good = (c.requires.trips_good, o.inside.trip);
      from_in_bounds = (o.within, all-counted _ _ _ o c.requires.opened.1);
    }

pub returns : goal.returns
returns c =
    let o = c.requires.opened.0 in
    c.lower.ensures ∙ known-lower _ _ _ o _ _ _ _ c.unlisted-by_stop.ensures c.unlisted-by_trip.ensures
