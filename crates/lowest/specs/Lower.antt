-- Of two refusals of one number the one at the lower line. Assumes nothing.
use Rattle.std.specs.Prelude.{cond, eqb, ltb}
use Rattle.journeys.specs.Refusals.{Refusal}

unfoldable pub lower_of : Refusal → Refusal → Refusal
lower_of a b = cond (eqb a.number 0) b (cond (eqb b.number 0) a (cond (ltb b.place a.place) b a))
