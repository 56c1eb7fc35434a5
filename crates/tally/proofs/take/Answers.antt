-- `tally::take` meets its contract: the counter is zero exactly if what stands below the counter above is less than its unit. Assumes nothing.
use mathlib.Core.Path.{refl}
use native.Mathlib.Omega.{arith}
use Rattle.tally.proofs.Groups.{none_left, some_left, lowered_is}
use Rattle.tally.proofs.take.Goals as goal

pub returns-then-word-above : goal.returns-then-word-above
returns-then-word-above c =
    let a = c.args in record {
      value = none_left a.scratch.now a.k _ _ c.power-unit.ensures.0 c.power-above.ensures.0 (omega arith);
      scratch_after = refl;
    }

pub returns : goal.returns
returns c =
    let a = c.args in record {
      value = some_left a.scratch.now a.k _ _ c.power-unit.ensures.0 c.power-above.ensures.0 (omega arith);
      scratch_after = lowered_is a.scratch.now a.k _ _ c.power-unit.ensures.0 c.power-above.ensures.0;
    }
