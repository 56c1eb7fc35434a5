use Rattle.std.proofs.Common.{sym, ◌∙◌}
use Rattle.rows.proofs.Picks.{nowhere-uncounted, fits-counted, arrival-placed, departure-placed, sequence-placed}
use Rattle.stops.proofs.StopLines.{other-count}
use Rattle.stops.proofs.stop_line.Goals as goal

pub returns-in_default : goal.returns-in_default
returns-in_default c = sym (other-count _ _ _ _ _ (nowhere-uncounted _ _ _ _ _ _ _ (sym c.in_default.is ∙ c.places_of-places.ensures)))

pub timely-requires : goal.timely-requires
timely-requires c =
    let p = c.requires in
    let e = sym c.in-Some.is ∙ c.places_of-places.ensures in record {
      arrival_lt_count = (p.0, p.1, p.2, fits-counted _ _ _ _ _ _ _ e);
      first_value = (arrival-placed _ _ _ _ _ _ _ e, departure-placed _ _ _ _ _ _ _ e, sequence-placed _ _ _ _ _ _ _ e);
    }
