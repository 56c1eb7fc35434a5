-- `contents_fault`: 2 to 6, then 22, then 7, by one pass over the list where that is sure. Assumes nothing.
use mathlib.Core.Path.{sym, ap, ◌∙◌}
use Prim.Native.Nat.{ℕ, ◌*◌}
use native.Mathlib.Omega.{arith}
use Rattle.journeys.proofs.Valid.{size_fits, lengths-valid}
use Rattle.journeys.proofs.Refusals.{or-next}
use Rattle.audit.proofs.Whole.{sizes}
use Rattle.listing.proofs.Froms.{total-is, sound}
use Rattle.listed.proofs.Counting.{counts-told, list-told}
use Rattle.words.proofs.Chains.{passes, stops, goes-on}
use Rattle.courier_intake.proofs.contents_fault.Goals as goal

pub sure-requires : goal.sure-requires
sure-requires c =
    let a = c.args in
    let few = sizes a.hop_size a.vertices.now a.walks.now a.hops.now c.requires.hops_value in
    (omega (arith, few.hop_fits), few.vertices_most, omega (arith, few.walks_most, few.hops_most), c.requires.list_len ∙ ap (λ (n : ℕ). 4 * n) (total-is a.hop_size a.vertices.now a.walks.now a.hops.now), c.sure-arg-1.given.0.1)

pub contents_counted-requires : goal.contents_counted-requires
contents_counted-requires c =
    let a = c.args in record {
      sizes = sizes _ _ _ _ c.requires.hops_value;
      counts = record { says = counts-told a.hop_size a.vertices.now a.walks.now a.hops.now (c.sure.ensures c.if-sure.true) };
    }

pub returns-in_err-contents_counted : goal.returns-in_err-contents_counted
returns-in_err-contents_counted c = let told = c.contents_counted.ensures in record {
  result_value = stops _ _ c.in_err-contents_counted.was told.result_value c.from_residual.ensures;
  scratch_after = told.scratch_after;
}

pub returns-then-sure : goal.returns-then-sure
returns-then-sure c =
    let told = c.contents_counted.ensures in
    let a = c.args in
    let ok = sound a.hop_size a.vertices.now a.walks.now a.hops.now (lengths-valid _ _ _ _ c.requires.hops_value (passes c.in_ok-contents_counted.was told.result_value)) (omega (arith, size_fits _ _ _ _ c.requires.hops_value)) in
    let right = list-told a.hop_size a.vertices.now a.walks.now a.hops.now (c.sure.ensures c.if-sure.true) ok in record {
      result_value = goes-on c.in_ok-contents_counted.was told.result_value (c.query_fault.ensures _ _ _ ∙ sym (or-next _ _ (sym (ap (λ r. r.number) right))));
      scratch_after = told.scratch_after;
    }

pub contents-requires : goal.contents-requires
contents-requires c = sizes _ _ _ _ c.requires.hops_value

pub returns-in_err-contents : goal.returns-in_err-contents
returns-in_err-contents c = let told = c.contents.ensures in record {
  result_value = stops _ _ c.in_err-contents.was told.result_value c.from_residual-in_err-contents.ensures;
  scratch_after = told.scratch_after;
}

pub fault-requires : goal.fault-requires
fault-requires c = record {
  le_hop_size = (omega (arith, size_fits _ _ _ _ c.requires.hops_value), lengths-valid _ _ _ _ c.requires.hops_value (passes c.in_ok-contents.was c.contents.ensures.result_value));
  list_len = c.requires.list_len;
}

pub returns-in_err-fault : goal.returns-in_err-fault
returns-in_err-fault c =
    let told = c.contents.ensures in record {
      result_value = goes-on c.in_ok-contents.was told.result_value (stops _ _ c.in_err-fault.was c.fault.ensures c.from_residual-in_err-fault.ensures);
      scratch_after = told.scratch_after;
    }

pub returns : goal.returns
returns c =
    let told = c.contents.ensures in record {
      result_value = goes-on c.in_ok-contents.was told.result_value (goes-on c.in_ok-fault.was c.fault.ensures (c.query_fault-2.ensures _ _ _));
      scratch_after = told.scratch_after;
    }
