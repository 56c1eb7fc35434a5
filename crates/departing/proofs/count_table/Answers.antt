-- `departing::count_table` meets its contract: the records before the range and behind it leave none of these vertices. Assumes nothing.
use mathlib.Core.Path.{◌≡◌, refl, ap, ◌∙◌}
use Prim.Native.Nat.{ℕ, ◌+◌}
use Rattle.departing.proofs.Ranges.{outside-then}
use Rattle.departing.proofs.Counters.{counted_same, leaving_to, none_before, none-behind, leaving-more}
use native.Mathlib.Omega.{arith}
use Rattle.departing.proofs.count_table.Goals as goal

pub loop-i-init : goal.loop-i-init
loop-i-init c =
    let a = c.args in (
      omega arith,
      omega arith,
      omega arith,
      λ all h. counted_same (λ k l. omega (arith, none_before a.size a.table.now a.start a.end a.base a.len c.requires.start_le_end.0 c.requires.start_le_end.1 c.requires.inside k l)) h,
      λ k w. refl,
    )

pub loop-i-preserved : goal.loop-i-preserved
loop-i-preserved c =
    let loop = c.loop-i in
    let a = c.args in
    let t = a.table.now in (
      omega arith,
      omega arith,
      omega (arith, c.count_record-low.auto),
      λ all h.
          counted_same (λ k l. leaving-more a.size t (a.base + k) loop.i (all k))
          (c.count_record-low.ensures.by_index (λ k. all k + leaving_to a.size t (a.base + k) loop.i) (loop.invariant.3 all h)),
      outside-then 0 1904 a.scratch.now loop.scratch c.count_record-low.new.scratch loop.invariant.4 c.count_record-low.ensures.outside,
    )

pub returns : goal.returns
returns c =
    let loop = c.loop-i in
    let a = c.args in
    let t = a.table.now in
    let e : loop.i ≡ a.end = omega arith in record {
      by_index = λ all h.
          counted_same (λ k l. ap (λ (x : ℕ). all k + x) (ap (leaving_to a.size t (a.base + k)) e ∙ none-behind a.size t a.start a.end a.base a.len c.requires.start_le_end.0 c.requires.start_le_end.1 c.requires.inside k l))
          (loop.invariant.3 all h);
      outside = loop.invariant.4;
    }
