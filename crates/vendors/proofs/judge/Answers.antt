-- `vendors::judge` meets its contract: refusals 1 to 7 in their order, then those of the list. Assumes nothing.
use mathlib.Core.Path.{◌∙◌}
use Rattle.journeys.specs.VendorLists.{judge_refusal}
use Rattle.journeys.proofs.Valid.{lengths-valid, query-valid, size_fits}
use Rattle.audit.proofs.Whole.{sizes}
use Rattle.words.proofs.Chains.{passes, stops, goes-on}
use Rattle.vendors.proofs.Firsts.{list-cut, list-whole}
use Rattle.vendors.proofs.judge.Goals as goal

pub returns-in_err-lengths : goal.returns-in_err-lengths
unfolding judge_refusal
returns-in_err-lengths c = stops _ _ c.in_err-lengths.was c.lengths.ensures c.from_residual.ensures

pub returns-then-list-ne0 : goal.returns-then-list-ne0
unfolding judge_refusal
returns-then-list-ne0 c = goes-on c.in_ok-lengths.was c.lengths.ensures (c.refused.ensures.told ∙ list-cut c.args.list.now c.if-list-ne0.true _)

pub contents-requires : goal.contents-requires
contents-requires c = sizes _ _ _ _ (passes c.in_ok-lengths.was c.lengths.ensures)

pub returns-in_err-contents : goal.returns-in_err-contents
unfolding judge_refusal
returns-in_err-contents c =
    goes-on c.in_ok-lengths.was c.lengths.ensures
    (list-whole c.args.list.now c.if-list-ne0.false (stops _ _ c.in_err-contents.was c.contents.ensures.result_value c.from_residual-in_err-contents.ensures))

pub returns-in_err-query_fault : goal.returns-in_err-query_fault
unfolding judge_refusal
returns-in_err-query_fault c =
    goes-on c.in_ok-lengths.was c.lengths.ensures
    (list-whole c.args.list.now c.if-list-ne0.false
    (goes-on c.in_ok-contents.was c.contents.ensures.result_value (stops _ _ c.in_err-query_fault.was (c.query_fault.ensures _ _ _) c.from_residual-in_err-query_fault.ensures)))

pub vendor_fault-requires : goal.vendor_fault-requires
vendor_fault-requires c =
    let a = c.args in
    let lengths = passes c.in_ok-lengths.was c.lengths.ensures in
    let contents = passes c.in_ok-contents.was c.contents.ensures.result_value in
    let query = passes c.in_ok-query_fault.was (c.query_fault.ensures a.hop_size a.vertices.now a.hops.now) in (
      record { tables = lengths-valid a.hop_size a.vertices.now a.walks.now a.hops.now lengths contents; query = query-valid _ _ query },
      size_fits a.hop_size a.vertices.now a.walks.now a.hops.now lengths,
    )

pub returns : goal.returns
unfolding judge_refusal
returns c =
    goes-on c.in_ok-lengths.was c.lengths.ensures
    (list-whole c.args.list.now c.if-list-ne0.false
    (goes-on c.in_ok-contents.was c.contents.ensures.result_value
    (goes-on c.in_ok-query_fault.was (c.query_fault.ensures _ _ _) c.vendor_fault.ensures)))
