-- `audit::judge` meets its contract: what is left of the scan gives the answer of the whole. Assumes nothing.
use mathlib.Core.Path.{◌≡◌, sym, ap, ◌∙◌}
use Prim.Native.Nat.{◌+◌, ◌-◌}
use native.Mathlib.Nat.{sub-zero, add-zero}
use Rattle.journeys.specs.Tables.{tables_of}
use Rattle.journeys.specs.Refusals.{vertex_ok, first_from}
use Rattle.records.proofs.Answered.{good-vertex, bad-vertex}
use Rattle.audit.specs.Judging.{vertex_refusals}
use Rattle.audit.proofs.Scan.{refusing, scan_step, scan-stop, scan-end}
use native.Mathlib.Omega.{arith}
use Rattle.audit.proofs.judge.Goals as goal

pub loop-k-init : goal.loop-k-init
unfolding vertex_refusals
loop-k-init c = (omega arith, rw (sub-zero, add-zero))

pub returns-in_default : goal.returns-in_default
unfolding vertex_refusals
returns-in_default c =
    let loop = c.loop-k in
    let a = c.args in
    let bad = bad-vertex (tables_of a.hop_size a.vertices.now a.walks.now a.hops.now) (a.base + loop.k) c.read_vertex.ensures c.in_default.is in
    c.refused.ensures.told ∙ sym (scan-stop 6 (vertex_ok (tables_of a.hop_size a.vertices.now a.walks.now a.hops.now)) (a.low - loop.k) (a.low - (loop.k + 1)) (a.base + loop.k) (omega arith) (omega arith) bad) ∙ loop.invariant.1

pub loop-k-preserved : goal.loop-k-preserved
unfolding vertex_refusals
loop-k-preserved c =
    let loop = c.loop-k in
    let a = c.args in
    let good = good-vertex (tables_of a.hop_size a.vertices.now a.walks.now a.hops.now) (a.base + loop.k) c.read_vertex.ensures c.in-Ok.is in
    let e : a.base + loop.k + 1 ≡ a.base + (loop.k + 1) = omega arith in (
      omega arith,
      ap (first_from (refusing 6 (vertex_ok (tables_of a.hop_size a.vertices.now a.walks.now a.hops.now))) (a.low - (loop.k + 1))) (sym e)
          ∙ sym (scan_step 6 (vertex_ok (tables_of a.hop_size a.vertices.now a.walks.now a.hops.now)) (a.low - loop.k) (a.low - (loop.k + 1)) (a.base + loop.k) (omega arith) good)
          ∙ loop.invariant.1,
    )

pub returns : goal.returns
unfolding vertex_refusals
returns c =
    let loop = c.loop-k in
    let a = c.args in
    sym (scan-end 6 (vertex_ok (tables_of a.hop_size a.vertices.now a.walks.now a.hops.now)) (a.low - loop.k) (a.base + loop.k) (omega arith)) ∙ loop.invariant.1
