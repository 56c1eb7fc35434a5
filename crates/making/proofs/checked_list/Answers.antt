-- `checked_list`: the refusals in their order, and then the list. Assumes nothing.
use mathlib.Core.Path.{refl, ap, ◌∙◌}
use Prim.Native.Nat.{ℕ}
use native.Mathlib.Omega.{arith}
use lib.ListN.{length, length-replicate}
use Rattle.journeys.proofs.Valid.{size_fits, lengths-valid}
use Rattle.words.proofs.Chains.{kept, refuses, passes}
use Rattle.audit.proofs.Whole.{sizes}
use Rattle.making.proofs.InOrder.{length_is, by-tables, by_length, by-contents, kept_by, made_by}
use Rattle.making.proofs.checked_list.Goals as goal

pub returns-in_err-lengths : goal.returns-in_err-lengths
returns-in_err-lengths c =
    let a = c.args in
    let n = refuses c.in_err-lengths.was c.lengths.ensures in
    let e = by-tables a.hop_size a.vertices.now a.walks.now a.hops.now a.list.now refl n in record {
      result_value = kept _ c.in_err-lengths.was c.from_residual.ensures ∙ c.lengths.ensures ∙ e;
      list_after = kept_by a.hop_size a.vertices.now a.walks.now a.hops.now a.list.now e n;
    }

pub list_length-requires : goal.list_length-requires
list_length-requires c =
    let a = c.args in
    sizes a.hop_size a.vertices.now a.walks.now a.hops.now (passes c.in_ok-lengths.was c.lengths.ensures)

pub returns-in_err-list_length : goal.returns-in_err-list_length
returns-in_err-list_length c =
    let a = c.args in
    let n = refuses c.in_err-list_length.was c.list_length.ensures in
    let e = by_length a.hop_size a.vertices.now a.walks.now a.hops.now a.list.now (passes c.in_ok-lengths.was c.lengths.ensures) refl n in record {
      result_value = kept _ c.in_err-list_length.was c.from_residual-in_err-list_length.ensures ∙ c.list_length.ensures ∙ e;
      list_after = kept_by a.hop_size a.vertices.now a.walks.now a.hops.now a.list.now e n;
    }

pub contents-requires : goal.contents-requires
contents-requires c =
    let a = c.args in
    sizes a.hop_size a.vertices.now a.walks.now a.hops.now (passes c.in_ok-lengths.was c.lengths.ensures)

pub returns-in_err-contents : goal.returns-in_err-contents
returns-in_err-contents c =
    let a = c.args in
    let n = refuses c.in_err-contents.was c.contents.ensures.result_value in
    let e = by-contents a.hop_size a.vertices.now a.walks.now a.hops.now a.list.now (passes c.in_ok-lengths.was c.lengths.ensures) (passes c.in_ok-list_length.was c.list_length.ensures) refl in record {
      result_value = kept _ c.in_err-contents.was c.from_residual-in_err-contents.ensures ∙ c.contents.ensures.result_value ∙ e;
      list_after = kept_by a.hop_size a.vertices.now a.walks.now a.hops.now a.list.now e n;
    }

pub make-requires : goal.make-requires
make-requires c =
    let a = c.args in
    let uneven = passes c.in_ok-lengths.was c.lengths.ensures in
    let bad = passes c.in_ok-contents.was c.contents.ensures.result_value in record {
      le_hop_size = (omega (arith, size_fits a.hop_size a.vertices.now a.walks.now a.hops.now uneven), lengths-valid a.hop_size a.vertices.now a.walks.now a.hops.now uneven bad);
      list_len = (
        length_is a.hop_size a.vertices.now a.walks.now a.hops.now a.list.now (passes c.in_ok-list_length.was c.list_length.ensures),
        ap length c.contents.ensures.scratch_after ∙ length-replicate {A = ℕ} 2048 0,
      );
    }

pub returns : goal.returns
returns c =
    let a = c.args in
    let e = by-contents a.hop_size a.vertices.now a.walks.now a.hops.now a.list.now (passes c.in_ok-lengths.was c.lengths.ensures) (passes c.in_ok-list_length.was c.list_length.ensures) c.in_ok-contents.ensures.result_value in record {
      result_value = e;
      list_after = c.make.ensures.list_after ∙ made_by a.hop_size a.vertices.now a.walks.now a.hops.now a.list.now e refl;
    }
