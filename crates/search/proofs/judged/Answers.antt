-- `search::judged` meets its contract: step 0, the steps and the end give what the order of settling says. Assumes nothing.
use mathlib.Core.Path.{◌∙◌}
use Rattle.journeys.specs.Answers.{tables}
use Rattle.records.specs.Asked.{query_of}
use Rattle.intake.specs.Lending.{lent}
use Rattle.worktable.proofs.Ones.{as-one}
use Rattle.search.proofs.AnswerAllowed.{fits-end, concluded, late}
use Rattle.search.proofs.judged.Goals as goal

pub conclude-requires : goal.conclude-requires
conclude-requires c =
    let b = lent c.args.vertices.now c.args.walks.now c.args.hops.now c.args.hop_size c.args.held.now c.args.settled.now in
    fits-end c.args.courier (tables b) (query_of c.args.q) c.requires.valid.0 c.args.limit b.held b.settled _ _ _ c.all_steps.ensures.ends _ c.in-Ok.is

pub returns-in-Ok : goal.returns-in-Ok
returns-in-Ok c =
    let b = lent c.args.vertices.now c.args.walks.now c.args.hops.now c.args.hop_size c.args.held.now c.args.settled.now in
    let steps = c.all_steps.ensures in
    let z = concluded c.args.courier (tables b) (query_of c.args.q) c.requires.valid.0 c.args.limit b.held b.settled _ _ _ steps.ends _ c.in-Ok.is (c.from.ensures ∙ as-one _) _ _ _ c.conclude.ensures c.held-1.given in record {
      answered_in = z.0;
      parts_value = z.1;
      scratch_after = steps.scratch_after;
    }

pub returns-in-Err : goal.returns-in-Err
returns-in-Err c =
    let b = lent c.args.vertices.now c.args.walks.now c.args.hops.now c.args.hop_size c.args.held.now c.args.settled.now in
    let steps = c.all_steps.ensures in
    let z = late c.args.courier (tables b) (query_of c.args.q) c.requires.valid.0 c.args.limit b.held b.settled _ _ _ steps.ends _ c.in-Err.is c.from-in-Err.ensures _ _ _ c.give_up.ensures c.held-1.given c.settled-1.given in record {
      answered_in = z.0;
      parts_value = z.1;
      scratch_after = steps.scratch_after;
    }
