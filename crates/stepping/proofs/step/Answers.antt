-- `stepping::step` meets its contract: the refusals come in their order, and what is listed is what the step settles. Assumes nothing.
use mathlib.Core.Path.{ap, ◌∙◌}
use Rattle.std.specs.Result.{result_ok}
use Rattle.meeting.proofs.Leading as le
use Rattle.stepping.proofs.StepEnds.{lacked, full-held, full-settled, one_more}
use Rattle.stepping.proofs.step.Goals as goal

pub returns-in_err-table : goal.returns-in_err-table
returns-in_err-table c =
    let p = c.settle_and_pass in record {
      step_made = full-held c.args.p _ _ _ _ _ _ c.from_residual.result (lacked _ _ _ c.ok_or.ensures.value c.in_err-table.was c.from_residual.ensures) (le.none-fits _ _ _ p.ensures.0 (c.ok_or.ensures.ok_part ∙ ap result_ok c.in_err-table.was));
      scratch_after = p.ensures.1;
    }

pub returns-then-p-settled : goal.returns-then-p-settled
returns-then-p-settled c =
    let p = c.settle_and_pass in record {
      step_made = full-settled c.args.p _ _ _ _ _ _ (le.leads-room (le.fits-leads p.ensures.0 (c.ok_or.ensures.ok_part ∙ ap result_ok c.in_ok-table.was))) c.if-p-settled.true;
      scratch_after = p.ensures.1;
    }

pub returns : goal.returns
returns c =
    let p = c.settle_and_pass in
    let l = le.fits-leads p.ensures.0 (c.ok_or.ensures.ok_part ∙ ap result_ok c.in_ok-table.was) in record {
      step_made = one_more c.args.p _ _ _ _ _ _ _ l (le.leads-room l) c.requires.settled_in_bounds.0 c.if-p-settled.false c.add_settled.ensures;
      scratch_after = p.ensures.1;
    }
