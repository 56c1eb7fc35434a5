-- `audit::blocks` meets its contract: what is left of the scan gives the answer of the whole. Assumes nothing.
use mathlib.Core.Path.{◌≡◌, sym, ◌∙◌}
use mathlib.Core.Logic.{inr}
use Prim.Native.Nat.{◌-◌, ◌*◌, ◌/◌, min}
use lib.ListN.{length}
use Rattle.journeys.specs.Tables.{tables_of}
use Rattle.journeys.specs.Refusals.{vertex_ok}
use Rattle.records.specs.Columns.{records_in}
use Rattle.audit.specs.Judging.{vertex_refusals}
use Rattle.audit.proofs.Scan.{scan-end}
use Rattle.words.proofs.Chains.{kept, refuses, passes}
use Rattle.departing.proofs.Ranges.{noted-kept}
use Rattle.audit.proofs.Vertices.{good-before, block-refuses, block-good}
use native.Mathlib.Omega.{arith}
use Rattle.audit.proofs.blocks.Goals as goal

pub loop-g-init : goal.loop-g-init
loop-g-init c =
    let a = c.args in
    let ok = good-before (tables_of a.hop_size a.vertices.now a.walks.now a.hops.now) (1904 * a.start) (length a.vertices.now / 12) c.requires.start_in_bounds.0 c.requires.by_index in
    (c.requires.start_in_bounds.1, c.requires.noted, c.requires.noted_2, ok)

pub returns-in_err-block : goal.returns-in_err-block
returns-in_err-block c =
    let loop = c.loop-g in
    let a = c.args in
    let n = length a.vertices.now / 12 in
    let q : ((vertex_refusals (tables_of a.hop_size a.vertices.now a.walks.now a.hops.now) (min 1904 (n - 1904 * loop.g)) (1904 * loop.g)).number ≡ 0 → ⊥) = refuses c.in_err-block.was c.block.ensures.result_value in
    kept _ c.in_err-block.was c.from_residual.ensures ∙ c.block.ensures.result_value ∙ block-refuses (tables_of a.hop_size a.vertices.now a.walks.now a.hops.now) n loop.g q ∙ loop.invariant.3

pub loop-g-preserved : goal.loop-g-preserved
loop-g-preserved c =
    let loop = c.loop-g in
    let a = c.args in
    let n = length a.vertices.now / 12 in
    let last = c.block.new.scratch in
    let z : (vertex_refusals (tables_of a.hop_size a.vertices.now a.walks.now a.hops.now) (min 1904 (n - 1904 * loop.g)) (1904 * loop.g)).number ≡ 0 = passes c.in_ok-block.was c.block.ensures.result_value in
    let w = a.walks.now in
    let h = a.hops.now in (
      omega (arith, c.block.auto),
      noted-kept 16 w 1904 (records_in 16 w) 0 1904 loop.scratch last (λ i l. inr (omega arith)) c.block.ensures.outside loop.invariant.1,
      noted-kept a.hop_size h 1974 (records_in a.hop_size h) 0 1904 loop.scratch last (λ i l. inr (omega arith)) c.block.ensures.outside loop.invariant.2,
      block-good (tables_of a.hop_size a.vertices.now a.walks.now a.hops.now) n loop.g z ∙ loop.invariant.3,
    )

pub returns : goal.returns
unfolding vertex_refusals
returns c =
    let loop = c.loop-g in
    let a = c.args in
    let n = length a.vertices.now / 12 in
    sym (scan-end 6 (vertex_ok (tables_of a.hop_size a.vertices.now a.walks.now a.hops.now)) (n - 1904 * loop.g) (1904 * loop.g) (omega (arith, c.div_ceil-n.ensures))) ∙ loop.invariant.3
