-- `quick::advance` meets its contract: each stretch that is met adds its vertices to those that are good. Assumes nothing.
use Rattle.std.proofs.Common.{◌≡◌, ◌+◌, ◌-◌, ◌*◌, ◌/◌, ◌<◌, ◌≤◌, length, ⊎_elim, arith, le-leb}
use Rattle.journeys.proofs.Tests.{le-or-lt}
use Rattle.quick.proofs.Whole.{alone-most, ordered-less, runs, vertex-right}
use Rattle.quick.proofs.advance.Goals as goal

pub overflow_mul-pairs : goal.overflow_mul-pairs
overflow_mul-pairs c =
    omega (arith, alone-most c.args.walks.now)

pub stretch-len-requires : goal.stretch-len-requires
stretch-len-requires c =
    let a = c.args in
    let order = ordered-less c.min-end.result (omega (arith, c.min-end.ensures)) c.requires.ordered in record {
      ascending = (c.requires.ascending.0, c.requires.ascending.1, λ z. le-leb (2 * a.alone) (length a.walks.now / 16) (omega arith));
      limit_in_bounds = (order.within, runs a.hop_size a.vertices.now a.walks.now a.hops.now c.requires.vertices_len_bound.1 c.requires.by_index c.min-end.result order);
      base_le_limit = (omega (arith, c.min-end.ensures), omega (arith, order.within, c.requires.vertices_len_bound), omega arith, c.requires.start_le_limit.2);
    }

pub loop-base-preserved : goal.loop-base-preserved
loop-base-preserved c =
    let loop = c.loop-base in
    let a = c.args in
    let order = ordered-less c.min-end.result (omega (arith, c.min-end.ensures)) c.requires.ordered in (
      omega arith,
      omega (arith, c.stretch-len.ensures.0, c.min-end.ensures),
      omega (arith, c.stretch-len.auto),
      λ v l m.
          ⊎_elim (λ (h : loop.base ≤ v).
          let e : loop.base + (v - loop.base) ≡ v = omega arith in
          vertex-right a.hop_size a.vertices.now a.walks.now a.hops.now c.requires.vertices_len_bound.1 c.requires.by_index _ c.min-end.result v order
          (omega (arith, c.stretch-len.ensures.0)) (rw e at (c.stretch-len.ensures.1 (v - loop.base) (omega arith))))
          (λ (h : v < loop.base). loop.invariant.3 v l h)
          (le-or-lt loop.base v),
    )
