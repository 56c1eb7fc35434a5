use Rattle.std.proofs.Common.{true, false, ◌-◌, ◌<◌, ◌≤◌}
use Rattle.halving.proofs.end_of.Given as goal

abbrev pub invariant-loop-low : goal.invariant-loop-low
invariant-loop-low g l = record {
  order : (l.lo ≤ l.low) × (l.low ≤ l.high) × (l.high ≤ l.hi);
  before : l.lo < l.low → goal.F-post g l.passes (l.low - 1) true;
  here : l.high < l.hi → goal.F-post g l.passes l.high false;
}

abbrev pub decreases-loop-low : goal.decreases-loop-low
decreases-loop-low g l = l.high - l.low
