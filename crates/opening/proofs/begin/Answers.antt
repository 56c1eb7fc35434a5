-- `opening::begin` meets its contract: the seeds of the road are entered, or there is no room for them. Assumes nothing.
use mathlib.Core.Path.{ap, ◌∙◌}
use Rattle.std.specs.Result.{result_ok}
use Rattle.stepping.proofs.StepEnds.{lacked}
use Rattle.opening.proofs.OpenEnds.{as-pair, no-seeds, opened}
use Rattle.opening.proofs.begin.Goals as goal

pub returns-in_err-table : goal.returns-in_err-table
returns-in_err-table c =
    let a = c.args in
    no-seeds _ _ _ _ _ (as-pair a.vertices.now a.row _ _ c.pair_of-pair.ensures _ c.seeds.ensures) _ (lacked _ _ _ c.ok_or.ensures.value c.in_err-table.was c.from_residual.ensures)
    (c.ok_or.ensures.ok_part ∙ ap result_ok c.in_err-table.was)

pub returns : goal.returns
returns c =
    let a = c.args in
    opened _ _ _ _ _ (as-pair a.vertices.now a.row _ _ c.pair_of-pair.ensures _ c.seeds.ensures) _ (c.ok_or.ensures.ok_part ∙ ap result_ok c.in_ok-table.was)
