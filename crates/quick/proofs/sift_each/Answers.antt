-- `quick::sift_each` meets its contract: after each turn the list takes the records up to i. Assumes nothing.
use Rattle.std.proofs.Common.{◌≡◌, ◌+◌, ◌∙◌, arith}
use Rattle.quick.specs.Claims.{leaves}
use Rattle.quick.proofs.Sifted.{listed_same, count_next}
use Rattle.quick.proofs.sift_each.Goals as goal

pub loop-i-preserved : goal.loop-i-preserved
loop-i-preserved c =
    let loop = c.loop-i in
    let a = c.args in (
      omega (arith, c.sift_one-count.ensures.upper_bound),
      omega arith,
      omega arith,
      omega (arith, c.sift_one-count.auto),
      λ x h. listed_same (λ k. count_next (leaves a.pairs a.size a.table.now (a.base + k)) loop.i) (c.sift_one-count.ensures.by_index x _ (loop.invariant.4 x h)),
      λ k l m. c.sift_one-count.ensures.same k l m ∙ loop.invariant.5 k l m,
    )

pub returns : goal.returns
returns c =
    let loop = c.loop-i in
    let e : loop.i ≡ c.args.end = omega arith in record {
      start_bound = (omega arith, rw e at loop.invariant.4);
      same = loop.invariant.5;
    }
