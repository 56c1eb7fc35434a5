-- `frame::fault` meets its contract: each return is the first reason. Assumes nothing.
use native.Mathlib.Omega.{arith}
use Rattle.words.proofs.Chains.{passes, stops, goes-on}
use Rattle.frame.specs.Frames.{frame_refusal}
use Rattle.frame.proofs.Fine.{few-vertices, one-point-each}
use Rattle.frame.proofs.fault.Goals as goal

pub returns-in_err-lengths : goal.returns-in_err-lengths
unfolding frame_refusal
returns-in_err-lengths c = record {
  result_value = stops _ _ c.in_err-lengths.was c.lengths.ensures c.from_residual.ensures;
  marks_after = c.requires;
}

pub entries-requires : goal.entries-requires
entries-requires c =
    let a = c.args in record {
      vertices_len_bound = few-vertices a.vertices.now a.list.now a.coordinates.now (passes c.in_ok-lengths.was c.lengths.ensures);
      marks_value = c.requires;
    }

pub returns-in_err-entries : goal.returns-in_err-entries
unfolding frame_refusal
returns-in_err-entries c = record {
  result_value =
      goes-on c.in_ok-lengths.was c.lengths.ensures
      (stops _ _ c.in_err-entries.was c.entries.ensures.result_value c.from_residual-in_err-entries.ensures);
  marks_after = c.entries.ensures.marks_after;
}

pub points-requires : goal.points-requires
points-requires c =
    let a = c.args in
    let e = passes c.in_ok-lengths.was c.lengths.ensures in
    (omega (arith, one-point-each a.vertices.now a.list.now a.coordinates.now e), few-vertices a.vertices.now a.list.now a.coordinates.now e)

pub returns-in_err-points : goal.returns-in_err-points
unfolding frame_refusal
returns-in_err-points c = record {
  result_value =
      goes-on c.in_ok-lengths.was c.lengths.ensures
      (goes-on c.in_ok-entries.was c.entries.ensures.result_value
      (stops _ _ c.in_err-points.was c.points.ensures c.from_residual-in_err-points.ensures));
  marks_after = c.entries.ensures.marks_after;
}

pub returns : goal.returns
unfolding frame_refusal
returns c = record {
  result_value =
      goes-on c.in_ok-lengths.was c.lengths.ensures
      (goes-on c.in_ok-entries.was c.entries.ensures.result_value
      (goes-on c.in_ok-points.was c.points.ensures c.nonempty.ensures));
  marks_after = c.entries.ensures.marks_after;
}
