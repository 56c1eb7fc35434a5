-- `courier_fault`: the lengths, then 2 to 6, 22 and 7 as the courier's run has them, then the list. Assumes nothing.
use mathlib.Core.Path.{◌∙◌}
use Rattle.journeys.specs.CourierPartAnswers.{courier_parts_early}
use Rattle.journeys.proofs.Refusals.{or-fine}
use Rattle.journeys.proofs.Valid.{query-valid}
use Rattle.audit.proofs.Whole.{sizes}
use Rattle.words.proofs.Chains.{passes, stops, goes-on}
use Rattle.making.proofs.InOrder.{length_is}
use Rattle.covering.proofs.FirstFault.{list-as, three-then}
use Rattle.covering.proofs.courier_fault.Goals as goal

pub returns-in_err-lengths : goal.returns-in_err-lengths
unfolding courier_parts_early
returns-in_err-lengths c = stops _ _ c.in_err-lengths.was c.lengths.ensures c.from_residual.ensures

pub returns-in_err-lengths-2 : goal.returns-in_err-lengths-2
unfolding courier_parts_early
returns-in_err-lengths-2 c = goes-on c.in_ok-lengths.was c.lengths.ensures (stops _ _ c.in_err-lengths-2.was c.lengths-2.ensures c.from_residual-in_err-lengths-2.ensures)

pub list_length-requires : goal.list_length-requires
list_length-requires c = sizes _ _ _ _ (passes c.in_ok-lengths.was c.lengths.ensures)

pub returns-in_err-list_length : goal.returns-in_err-list_length
unfolding courier_parts_early
returns-in_err-list_length c =
    goes-on c.in_ok-lengths.was c.lengths.ensures (goes-on c.in_ok-lengths-2.was c.lengths-2.ensures (stops _ _ c.in_err-list_length.was c.list_length.ensures c.from_residual-in_err-list_length.ensures))

pub contents_fault-requires : goal.contents_fault-requires
contents_fault-requires c = record {
  hops_value = passes c.in_ok-lengths.was c.lengths.ensures;
  list_len = length_is _ _ _ _ _ (passes c.in_ok-list_length.was c.list_length.ensures);
}

pub returns-in_err-contents_fault : goal.returns-in_err-contents_fault
unfolding courier_parts_early
returns-in_err-contents_fault c =
    goes-on c.in_ok-lengths.was c.lengths.ensures
    (goes-on c.in_ok-lengths-2.was c.lengths-2.ensures
    (goes-on c.in_ok-list_length.was c.list_length.ensures (stops _ _ c.in_err-contents_fault.was c.contents_fault.ensures.result_value c.from_residual-in_err-contents_fault.ensures ∙ three-then _ _ _ _)))

pub allowed-requires : goal.allowed-requires
allowed-requires c =
    let z = passes c.in_ok-contents_fault.was c.contents_fault.ensures.result_value in
    let q = query-valid _ _ (or-fine _ _ (or-fine _ _ z).1).1 in
    (q.duration_high, q.speed_high)

pub list_fault-requires : goal.list_fault-requires
list_fault-requires c =
    ((sizes _ _ _ _ (passes c.in_ok-lengths.was c.lengths.ensures)).vertices_most, c.contents_fault.ensures.scratch_after)

pub returns : goal.returns
unfolding courier_parts_early
returns c =
    goes-on c.in_ok-lengths.was c.lengths.ensures
    (goes-on c.in_ok-lengths-2.was c.lengths-2.ensures
    (goes-on c.in_ok-list_length.was c.list_length.ensures
    (goes-on c.in_ok-contents_fault.was c.contents_fault.ensures.result_value (c.list_fault.ensures ∙ list-as _ _ _ _ _ c.allowed.ensures _) ∙ three-then _ _ _ _)))
