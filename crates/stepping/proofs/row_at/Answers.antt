-- `stepping::row_at` meets its contract: the courier's row has the records of its stretch, an ordinary one those that arrive. Assumes nothing.
use Rattle.stepping.proofs.NextEntry.{courier-row, ordinary-row}
use Rattle.stepping.proofs.row_at.Goals as goal

pub returns-then-courier : goal.returns-then-courier
returns-then-courier c = courier-row _ _ _ _ _ _ _ _ _ _ _ c.if-courier.true

pub returns : goal.returns
returns c = ordinary-row _ _ _ _ _ _ _ _ _ _ _ c.if-courier.false _ c.arriving_at.ensures
