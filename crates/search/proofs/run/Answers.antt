-- `search::run` meets its contract: a refusal of 1 to 7, or the run behind them. Assumes nothing.
use mathlib.Core.Path.{◌≡◌}
use borrow.Author.Rules.{rules}
use Rattle.journeys.specs.Refusals.{fine}
use Rattle.journeys.specs.Answers.{early}
use Rattle.records.specs.Asked.{query_of}
use Rattle.intake.specs.Lending.{lent}
use Rattle.search.proofs.AnswerAllowed.{passed}
use Rattle.search.proofs.run.Goals as goal

pub run_judged-requires : goal.run_judged-requires
run_judged-requires c =
    let b = lent c.args.vertices.now c.args.walks.now c.args.hops.now c.args.hop_size c.args.held.now c.args.settled.now in
    let none : fine ≡ early b (query_of c.args.q) = search rules in record { q_value = passed b (query_of c.args.q) c.args.limit none; scratch_value = c.input_fault.ensures.scratch_after }

pub returns : goal.returns
returns c =
    let b = lent c.args.vertices.now c.args.walks.now c.args.hops.now c.args.hop_size c.args.held.now c.args.settled.now in
    let e = c.refuse.ensures in record { allowed = e.ordinary b (query_of c.args.q) c.args.limit (search rules); parts_value = e.parts_value }
