-- `audit::first_fault` meets its contract: each return is the first part that refuses. Assumes nothing.
use mathlib.Core.Path.{refl, sym, ◌∙◌}
use native.Mathlib.Omega.{arith}
use Rattle.records.specs.Arriving.{size_of}
use Rattle.quick.specs.Claims.{alone_in}
use Rattle.words.proofs.Chains.{passes, stops, goes-on}
use Rattle.audit.proofs.Whole.{contents-are, passed}
use Rattle.audit.proofs.first_fault.Goals as goal

pub table_faults-requires : goal.table_faults-requires
unfolding size_of
table_faults-requires c = record {
  table_bound = c.requires.sizes.walks_most;
  le_size = (omega arith, refl);
}

pub table_faults-requires-2 : goal.table_faults-requires-2
unfolding size_of
table_faults-requires-2 c = record {
  table_bound = c.requires.sizes.hops_most;
  le_size = (c.requires.sizes.hop_fits, refl);
}

pub returns-in_err-of_walks : goal.returns-in_err-of_walks
returns-in_err-of_walks c =
    let a = c.args in
    stops _ _ c.in_err-of_walks.was c.table_faults.ensures.bad_value c.from_residual.ensures ∙ sym (contents-are a.hop_size a.vertices.now a.walks.now a.hops.now)

pub returns-in_err-of_hops : goal.returns-in_err-of_hops
returns-in_err-of_hops c =
    let a = c.args in
    goes-on c.in_ok-of_walks.was c.table_faults.ensures.bad_value
    (stops _ _ c.in_err-of_hops.was c.table_faults-2.ensures.bad_value c.from_residual-in_err-of_hops.ensures)
    ∙ sym (contents-are a.hop_size a.vertices.now a.walks.now a.hops.now)

pub returns-in_err-of_walks-2 : goal.returns-in_err-of_walks-2
returns-in_err-of_walks-2 c =
    let a = c.args in
    goes-on c.in_ok-of_walks.was c.table_faults.ensures.bad_value
    (goes-on c.in_ok-of_hops.was c.table_faults-2.ensures.bad_value
    (stops _ _ c.in_err-of_walks-2.was c.in_ok-of_walks.ensures.order_value c.from_residual-in_err-of_walks-2.ensures))
    ∙ sym (contents-are a.hop_size a.vertices.now a.walks.now a.hops.now)

pub returns-in_err-of_hops-2 : goal.returns-in_err-of_hops-2
returns-in_err-of_hops-2 c =
    let a = c.args in
    goes-on c.in_ok-of_walks.was c.table_faults.ensures.bad_value
    (goes-on c.in_ok-of_hops.was c.table_faults-2.ensures.bad_value
    (goes-on c.in_ok-of_walks-2.was c.in_ok-of_walks.ensures.order_value
    (stops _ _ c.in_err-of_hops-2.was c.in_ok-of_hops.ensures.order_value c.from_residual-in_err-of_hops-2.ensures)))
    ∙ sym (contents-are a.hop_size a.vertices.now a.walks.now a.hops.now)

pub vertex_records-requires : goal.vertex_records-requires
unfolding alone_in
vertex_records-requires c =
    let a = c.args in record {
      sizes = c.requires.sizes;
      scratch_len = (c.requires.scratch_len.0, c.in_ok-of_walks.ensures.alone_value, c.requires.scratch_len.1);
      passed = passed a.hop_size a.vertices.now a.walks.now a.hops.now (passes c.in_ok-of_walks.was c.table_faults.ensures.bad_value) (passes c.in_ok-of_hops.was c.table_faults-2.ensures.bad_value)
          (passes c.in_ok-of_walks-2.was c.in_ok-of_walks.ensures.order_value) (passes c.in_ok-of_hops-2.was c.in_ok-of_hops.ensures.order_value);
    }

pub returns : goal.returns
returns c =
    let a = c.args in
    goes-on c.in_ok-of_walks.was c.table_faults.ensures.bad_value
    (goes-on c.in_ok-of_hops.was c.table_faults-2.ensures.bad_value
    (goes-on c.in_ok-of_walks-2.was c.in_ok-of_walks.ensures.order_value
    (goes-on c.in_ok-of_hops-2.was c.in_ok-of_hops.ensures.order_value c.vertex_records.ensures)))
    ∙ sym (contents-are a.hop_size a.vertices.now a.walks.now a.hops.now)
