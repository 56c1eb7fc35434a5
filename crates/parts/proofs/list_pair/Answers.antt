use mathlib.Core.Path.{sym}
use Rattle.parts.proofs.Laws.{listed-is, first-full, first-room, first_one, first_two}
use Rattle.parts.proofs.list_pair.Goals as goal

pub returns-in_err-count : goal.returns-in_err-count
returns-in_err-count c =
    let a = c.args in
    listed-is _ _ _ _ _ _ (sym c.from_residual.ensures)
    (first-full a.e a.start.0 a.end.0 a.start_back.0 a.end_back.0 _ _ _ c.list_part.ensures c.in_err-count.was)

pub returns-then-e-eq-NONE : goal.returns-then-e-eq-NONE
returns-then-e-eq-NONE c =
    first_one _ _ _ _ _ _ _ _ c.list_part.ensures _ c.in_ok-count.was c.if-e-eq-NONE.true

pub list_part-requires-2 : goal.list_part-requires-2
list_part-requires-2 c =
    first-room _ _ _ _ _ _ c.list_part.ensures _ c.in_ok-count.was

pub returns : goal.returns
returns c =
    first_two _ _ _ _ _ _ _ _ c.list_part.ensures _ c.in_ok-count.was c.if-e-eq-NONE.false _ _ c.list_part-2.ensures
