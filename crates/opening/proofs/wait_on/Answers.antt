-- `opening::wait_on` meets its contract: a number beyond the walks has no wait. Assumes nothing.
use mathlib.Core.Path.{◌∙◌, ap}
use Prim.Native.Nat.{ℕ, ◌*◌}
use Rattle.journeys.specs.Tables.{wait_of, walk_at}
use Rattle.opening.proofs.OpenEnds.{wait-there, no-wait}
use Rattle.opening.proofs.wait_on.Goals as goal

pub returns-then-at-walks : goal.returns-then-at-walks
unfolding walk_at
returns-then-at-walks c = wait-there _ _ _ _ c.if-at-walks.true (c.wait_ticks.ensures ∙ ap (λ (z : ℕ). wait_of z * c.args.speed) c.word_at.ensures)

pub returns : goal.returns
returns c = no-wait _ _ _ c.if-at-walks.false
