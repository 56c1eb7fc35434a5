-- `search::courier` meets its contract: a refusal of the input, or the run behind it. Assumes nothing.
use mathlib.Core.Path.{◌≡◌}
use borrow.Author.Rules.{rules}
use Rattle.journeys.specs.Refusals.{fine}
use Rattle.journeys.specs.CourierAnswers.{courier_early}
use Rattle.records.specs.Asked.{query_of}
use Rattle.courier_intake.specs.Lending.{courier_lent}
use Rattle.search.proofs.AnswerAllowed.{courier-valid, courier-lists, courier-allow}
use Rattle.search.proofs.courier.Goals as goal

pub judged-requires : goal.judged-requires
judged-requires c =
    let b = courier_lent c.args.vertices.now c.args.walks.now c.args.hops.now c.args.hop_size c.args.list.now c.args.held.now c.args.settled.now in
    let none : fine ≡ courier_early b (query_of c.args.q) = search rules in
    let v = courier-valid b (query_of c.args.q) c.args.limit none in record {
      valid = (v.0, c.courier_fault.ensures.scratch_after, v.1, v.2);
      lists = courier-lists b (query_of c.args.q) c.args.limit none;
    }

pub returns-in_default : goal.returns-in_default
returns-in_default c =
    let b = courier_lent c.args.vertices.now c.args.walks.now c.args.hops.now c.args.hop_size c.args.list.now c.args.held.now c.args.settled.now in
    let none : fine ≡ courier_early b (query_of c.args.q) = search rules in
    let e = c.judged.ensures in record {
      courier_allowed = courier-allow b (query_of c.args.q) c.args.limit none _ e.answered_in;
      parts_value = e.parts_value;
    }

pub returns : goal.returns
returns c =
    let b = courier_lent c.args.vertices.now c.args.walks.now c.args.hops.now c.args.hop_size c.args.list.now c.args.held.now c.args.settled.now in
    let e = c.refuse.ensures in record { courier_allowed = e.courier b (query_of c.args.q) c.args.limit (search rules); parts_value = e.parts_value }
