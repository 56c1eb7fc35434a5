use mathlib.Core.Path.{sym, ap, ◌∙◌}
use Rattle.rows.specs.Placed.{place_in, place_of}
use Rattle.rows.proofs.field_place.Goals as goal

pub returns-in-Begins : goal.returns-in-Begins
unfolding place_of
returns-in-Begins c = sym (ap place_in (sym c.pass-stand.ensures ∙ c.in-Begins.is))

pub returns-in-Ended : goal.returns-in-Ended
unfolding place_of
returns-in-Ended c = sym (ap place_in (sym c.pass-stand.ensures ∙ c.in-Ended.is))

pub returns-in-Broken : goal.returns-in-Broken
unfolding place_of
returns-in-Broken c = sym (ap place_in (sym c.pass-stand.ensures ∙ c.in-Broken.is))
