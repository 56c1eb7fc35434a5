-- `parts::past_at` meets its contract: each return is the case that its test picks. Assumes nothing.
use native.Mathlib.Omega.{arith}
use Rattle.parts.proofs.Laws.{past_end, past-inner, past-no-walk}
use Rattle.parts.proofs.past_at.Goals as goal

pub returns-then-place-length_of : goal.returns-then-place-length_of
returns-then-place-length_of c =
    past_end _ _ _ _ c.if-at-walks.true _ c.word_at-bits.ensures _ c.length_of.ensures c.if-place-length_of.true _ c.wait_ticks.ensures

pub returns-else-place-length_of : goal.returns-else-place-length_of
returns-else-place-length_of c =
    past-inner _ _ _ _ c.if-at-walks.true _ c.word_at-bits.ensures _ c.length_of.ensures c.if-place-length_of.false

pub returns-else-at-walks : goal.returns-else-at-walks
returns-else-at-walks c = past-no-walk _ _ _ _ (omega (arith, c.if-at-walks.false))
