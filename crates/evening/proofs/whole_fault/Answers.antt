-- `evening::whole_fault` meets its contract: the chain of refusals in the fixed order. Assumes nothing.
use native.Mathlib.Omega.{arith}
use Rattle.records.specs.Asked.{query_of}
use Rattle.audit.proofs.Whole.{sizes}
use Rattle.intake.specs.Lending.{lent}
use Rattle.words.proofs.Chains.{passes, stops, goes-on}
use Rattle.evening.specs.Asked.{evening_refusal}
use Rattle.evening.proofs.Judged.{tables-fine, patients-long, query-window}
use Rattle.evening.proofs.whole_fault.Goals as goal

pub returns-in_err-lengths_fault : goal.returns-in_err-lengths_fault
unfolding evening_refusal
returns-in_err-lengths_fault c = stops _ _ c.in_err-lengths_fault.was c.lengths_fault.ensures c.from_residual.ensures

pub contents-requires : goal.contents-requires
contents-requires c =
    sizes _ _ _ _ (tables-fine (lent c.args.vertices.now c.args.walks.now c.args.hops.now c.args.hop_size c.args.held.now c.args.settled.now) (query_of c.args.q) c.args.gap c.args.arrivals c.args.patients.now c.args.report.now (passes c.in_ok-lengths_fault.was c.lengths_fault.ensures))

pub returns-in_err-contents : goal.returns-in_err-contents
unfolding evening_refusal
returns-in_err-contents c = goes-on c.in_ok-lengths_fault.was c.lengths_fault.ensures (stops _ _ c.in_err-contents.was c.contents.ensures.result_value c.from_residual-in_err-contents.ensures)

pub returns-in_err-query_fault : goal.returns-in_err-query_fault
unfolding evening_refusal
returns-in_err-query_fault c = goes-on c.in_ok-lengths_fault.was c.lengths_fault.ensures (goes-on c.in_ok-contents.was c.contents.ensures.result_value (stops _ _ c.in_err-query_fault.was (c.query_fault.ensures _ _ _) c.from_residual-in_err-query_fault.ensures))

pub patients_fault-requires : goal.patients_fault-requires
patients_fault-requires c =
    let e = passes c.in_ok-lengths_fault.was c.lengths_fault.ensures in
    let b = lent c.args.vertices.now c.args.walks.now c.args.hops.now c.args.hop_size c.args.held.now c.args.settled.now in
    let long = patients-long b (query_of c.args.q) c.args.gap c.args.arrivals c.args.patients.now c.args.report.now e in
    (omega (arith, long), (sizes _ _ _ _ (tables-fine b (query_of c.args.q) c.args.gap c.args.arrivals c.args.patients.now c.args.report.now e)).vertices_most)

pub returns-in_err-patients_fault : goal.returns-in_err-patients_fault
unfolding evening_refusal
returns-in_err-patients_fault c = goes-on c.in_ok-lengths_fault.was c.lengths_fault.ensures
    (goes-on c.in_ok-contents.was c.contents.ensures.result_value (goes-on c.in_ok-query_fault.was (c.query_fault.ensures _ _ _) (stops _ _ c.in_err-patients_fault.was c.patients_fault.ensures c.from_residual-in_err-patients_fault.ensures)))

pub evening_fault-requires : goal.evening_fault-requires
evening_fault-requires c =
    query-window (lent c.args.vertices.now c.args.walks.now c.args.hops.now c.args.hop_size c.args.held.now c.args.settled.now) (query_of c.args.q) c.args.gap c.args.arrivals c.args.patients.now c.args.report.now (passes c.in_ok-query_fault.was (c.query_fault.ensures _ _ _))

pub returns : goal.returns
unfolding evening_refusal
returns c = goes-on c.in_ok-lengths_fault.was c.lengths_fault.ensures
    (goes-on c.in_ok-contents.was c.contents.ensures.result_value (goes-on c.in_ok-query_fault.was (c.query_fault.ensures _ _ _) (goes-on c.in_ok-patients_fault.was c.patients_fault.ensures c.evening_fault.ensures)))
