-- `audit::judge_counted` meets its contract: what is left of the scan gives the answer of the whole. Assumes nothing.
use mathlib.Core.Path.{sym, ◌∙◌}
use Prim.Native.Nat.{◌+◌, ◌-◌, ◌/◌, ◌<◌}
use native.Mathlib.Nat.{sub-zero}
use lib.ListN.{length}
use Rattle.journeys.specs.Tables.{tables_of, vertex_at}
use Rattle.journeys.specs.Refusals.{vertex_ok}
use Rattle.records.proofs.Answered.{good-vertex, bad-vertex}
use Rattle.audit.specs.Judging.{vertex_refusals}
use Rattle.audit.proofs.Scan.{scan_step, scan-stop, scan-end}
use native.Mathlib.Omega.{arith}
use Rattle.audit.proofs.judge_counted.Goals as goal

pub loop-v-init : goal.loop-v-init
unfolding vertex_refusals
loop-v-init c = (omega arith, rw sub-zero)

pub read_vertex-requires : goal.read_vertex-requires
unfolding vertex_at
read_vertex-requires c =
    let p = c.requires in
    let low : c.loop-v.v < length c.args.vertices.now / 12 = omega (arith, c.loop-v-test.true) in record {
      v_in_bounds = (low, p.sizes.hop_fits);
      ascending = p.ascending.0;
      ascending_2 = p.ascending.1;
      departs_value = c.half_at-departs.ensures ∙ p.counts.says c.loop-v.v low;
    }

pub returns-in_default : goal.returns-in_default
unfolding vertex_refusals
returns-in_default c =
    let a = c.args in
    let N = tables_of a.hop_size a.vertices.now a.walks.now a.hops.now in
    let n = length a.vertices.now / 12 in
    let bad = bad-vertex N c.loop-v.v c.read_vertex.ensures c.in_default.is in
    c.refused.ensures.told ∙ sym (scan-stop 6 (vertex_ok N) (n - c.loop-v.v) (n - (c.loop-v.v + 1)) c.loop-v.v (omega arith) (omega arith) bad) ∙ c.loop-v.invariant.1

pub loop-v-preserved : goal.loop-v-preserved
unfolding vertex_refusals
loop-v-preserved c =
    let a = c.args in
    let N = tables_of a.hop_size a.vertices.now a.walks.now a.hops.now in
    let n = length a.vertices.now / 12 in
    let good = good-vertex N c.loop-v.v c.read_vertex.ensures c.in-Ok.is in
    (omega arith, sym (scan_step 6 (vertex_ok N) (n - c.loop-v.v) (n - (c.loop-v.v + 1)) c.loop-v.v (omega arith) good) ∙ c.loop-v.invariant.1)

pub returns : goal.returns
unfolding vertex_refusals
returns c =
    let a = c.args in
    let n = length a.vertices.now / 12 in
    sym (scan-end 6 (vertex_ok (tables_of a.hop_size a.vertices.now a.walks.now a.hops.now)) (n - c.loop-v.v) c.loop-v.v (omega arith)) ∙ c.loop-v.invariant.1
