use mathlib.Core.Path.{refl, ap₂}
use mathlib.Core.Bool.{Bool, ◌&&◌}
use Rattle.pairwise.specs.Asked.{asked}
use Rattle.pairwise.proofs.ask.Goals as goal

pub returns-in-Between : goal.returns-in-Between
unfolding asked
returns-in-Between c = rw c.in-Between.is (ap₂ (λ (x y : Bool). c.args.k.timed && x && y) c.is_sooner.ensures c.is_sooner-in-Between.ensures)

pub returns-in-Before : goal.returns-in-Before
unfolding asked
returns-in-Before c = rw c.in-Before.is c.is_sooner-in-Before.ensures

pub returns-in-Behind : goal.returns-in-Behind
unfolding asked
returns-in-Behind c = rw c.in-Behind.is c.is_sooner-in-Behind.ensures

pub returns-in-Beside : goal.returns-in-Beside
unfolding asked
returns-in-Beside c = rw c.in-Beside.is refl
