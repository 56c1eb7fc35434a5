use mathlib.Core.Path.{refl}
use Rattle.journeys.specs.Bytes.{cleared}
use Rattle.ending.proofs.give_up.Goals as goal

pub returns : goal.returns
unfolding cleared
returns c =
    record {
      answer = refl;
      held_is = c.zero.ensures;
      settled_is = c.zero-2.ensures;
    }
