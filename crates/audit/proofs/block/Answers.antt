-- `audit::block` meets its contract: the vertices up to the first counter that has passed are judged, and that one is bad. Assumes nothing.
use mathlib.Core.Path.{◌≡◌, ap, ◌∙◌}
use Prim.Native.Nat.{ℕ, ◌*◌}
use Rattle.journeys.specs.Tables.{tables_of}
use Rattle.audit.specs.Judging.{vertex_refusals}
use Rattle.words.proofs.Chains.{kept, refuses, passes}
use Rattle.audit.proofs.Vertices.{departs-exact, departs-over, block-found, block-passed}
use native.Mathlib.Omega.{arith}
use Rattle.audit.proofs.block.Goals as goal

pub judge-requires : goal.judge-requires
judge-requires c =
    let a = c.args in
    let own = c.count_departing-low.ensures.counted in record {
      sizes = c.requires.sizes;
      low_in_bounds = (omega (arith, own.within, c.min-len.ensures), omega (arith, own.within, c.min-len.ensures, c.count_departing-low.auto));
      ascending = c.requires.ascending.0;
      ascending_2 = c.requires.ascending.1;
      by_index = departs-exact a.hop_size a.vertices.now a.walks.now a.hops.now c.count_departing-low.new.scratch c.min-len.result c.count_departing-low.result (1904 * a.g) own;
    }

pub returns-in_err-judge : goal.returns-in_err-judge
returns-in_err-judge c =
    let a = c.args in
    let own = c.count_departing-low.ensures.counted in
    let e = c.min-len.ensures in
    let n : ((vertex_refusals (tables_of a.hop_size a.vertices.now a.walks.now a.hops.now) c.count_departing-low.result (1904 * a.g)).number ≡ 0 → ⊥) = refuses c.in_err-judge.was c.judge.ensures in record {
      result_value = kept _ c.in_err-judge.was c.from_residual.ensures ∙ c.judge.ensures ∙ block-found (tables_of a.hop_size a.vertices.now a.walks.now a.hops.now) c.count_departing-low.result c.min-len.result (1904 * a.g) own.within n ∙ ap (λ (k : ℕ). vertex_refusals (tables_of a.hop_size a.vertices.now a.walks.now a.hops.now) k (1904 * a.g)) e;
      outside = c.count_departing-low.ensures.outside;
    }

pub returns-then-low-len : goal.returns-then-low-len
returns-then-low-len c =
    let a = c.args in
    let own = c.count_departing-low.ensures.counted in
    let e = c.min-len.ensures in
    let z : (vertex_refusals (tables_of a.hop_size a.vertices.now a.walks.now a.hops.now) c.count_departing-low.result (1904 * a.g)).number ≡ 0 = passes c.in_ok-judge.was c.judge.ensures in
    let bad = departs-over a.hop_size a.vertices.now a.walks.now a.hops.now _ c.min-len.result c.count_departing-low.result (1904 * a.g) own c.if-low-len.true (omega (arith, e)) (λ i. omega (arith, c.type_inv.vertices i)) in record {
      result_value = c.refused.ensures.told ∙ block-passed (tables_of a.hop_size a.vertices.now a.walks.now a.hops.now) c.count_departing-low.result c.min-len.result (1904 * a.g) own.within z c.if-low-len.true bad ∙ ap (λ (k : ℕ). vertex_refusals (tables_of a.hop_size a.vertices.now a.walks.now a.hops.now) k (1904 * a.g)) e;
      outside = c.count_departing-low.ensures.outside;
    }
