-- `frame::frame_of` meets its contract: a refusal with zeros, or the frame of the list. Assumes nothing.
use mathlib.Core.Path.{sym, ap, ◌∙◌}
use Rattle.std.proofs.lemmas.Result.{err_from_is_err_and}
use Rattle.words.proofs.Chains.{kept, refuses, passes}
use Rattle.frame.specs.Floats.{frame_in, frame_from}
use Rattle.frame.proofs.Fine.{some-entry, all_listed, refusal-fine, bounds-none, bounds-are}
use Rattle.frame.proofs.frame_of.Goals as goal

pub returns-in_err-fault : goal.returns-in_err-fault
returns-in_err-fault c =
    let a = c.args in
    let e = c.fault.ensures.result_value in
    let b = bounds-none a.vertices.now a.list.now a.coordinates.now (refuses c.in_err-fault.was e) in
    let p = err_from_is_err_and c.from_residual.result c.from_residual.ensures.1 in record {
      value = kept _ c.in_err-fault.was c.from_residual.ensures ∙ e;
      frame = ap frame_in p.1 ∙ ap frame_from (sym b);
      marks_after = c.fault.ensures.marks_after;
    }

pub around-requires : goal.around-requires
around-requires c =
    let a = c.args in
    let z = passes c.in_ok-fault.was c.fault.ensures.result_value in record {
      nonzero = some-entry a.vertices.now a.list.now a.coordinates.now z;
      listed = all_listed a.vertices.now a.list.now a.coordinates.now z;
    }

pub returns : goal.returns
returns c =
    let a = c.args in
    let z = passes c.in_ok-fault.was c.fault.ensures.result_value in record {
      value = sym (refusal-fine a.vertices.now a.list.now a.coordinates.now z);
      frame = c.around.ensures ∙ ap frame_from (sym (bounds-are a.vertices.now a.list.now a.coordinates.now z));
      marks_after = c.fault.ensures.marks_after;
    }
