use mathlib.Core.Path.{◌∙◌}
use mathlib.Core.List.{[]}
use Rattle.journeys.specs.PartAnswers.{parts_early}
use Rattle.journeys.proofs.Valid.{query-valid}
use Rattle.audit.proofs.Whole.{sizes}
use Rattle.words.proofs.Chains.{passes, stops, goes-on}
use Rattle.covering.proofs.FirstFault.{list-as}
use Rattle.covering.proofs.fault.Goals as goal

pub returns-in_err-lengths : goal.returns-in_err-lengths
unfolding parts_early
returns-in_err-lengths c = stops _ _ c.in_err-lengths.was c.lengths.ensures c.from_residual.ensures

pub returns-in_err-lengths-2 : goal.returns-in_err-lengths-2
unfolding parts_early
returns-in_err-lengths-2 c = goes-on c.in_ok-lengths.was c.lengths.ensures (stops _ _ c.in_err-lengths-2.was c.lengths-2.ensures c.from_residual-in_err-lengths-2.ensures)

pub contents-requires : goal.contents-requires
contents-requires c = sizes _ _ _ _ (passes c.in_ok-lengths.was c.lengths.ensures)

pub returns-in_err-contents : goal.returns-in_err-contents
unfolding parts_early
returns-in_err-contents c = goes-on c.in_ok-lengths.was c.lengths.ensures (goes-on c.in_ok-lengths-2.was c.lengths-2.ensures (stops _ _ c.in_err-contents.was c.contents.ensures.result_value c.from_residual-in_err-contents.ensures))

pub returns-in_err-query_fault : goal.returns-in_err-query_fault
unfolding parts_early
returns-in_err-query_fault c =
    goes-on c.in_ok-lengths.was c.lengths.ensures (goes-on c.in_ok-lengths-2.was c.lengths-2.ensures
    (goes-on c.in_ok-contents.was c.contents.ensures.result_value (stops _ _ c.in_err-query_fault.was (c.query_fault.ensures _ _ _) c.from_residual-in_err-query_fault.ensures)))

pub allowed-requires : goal.allowed-requires
allowed-requires c = let q = query-valid _ _ (passes c.in_ok-query_fault.was (c.query_fault.ensures 16 [] [])) in (q.duration_high, q.speed_high)

pub list_fault-requires : goal.list_fault-requires
list_fault-requires c = ((sizes _ _ _ _ (passes c.in_ok-lengths.was c.lengths.ensures)).vertices_most, c.contents.ensures.scratch_after)

pub returns : goal.returns
unfolding parts_early
returns c =
    goes-on c.in_ok-lengths.was c.lengths.ensures (goes-on c.in_ok-lengths-2.was c.lengths-2.ensures
    (goes-on c.in_ok-contents.was c.contents.ensures.result_value (goes-on c.in_ok-query_fault.was (c.query_fault.ensures _ _ _)
    (c.list_fault.ensures ∙ list-as _ _ _ _ _ c.allowed.ensures _))))
