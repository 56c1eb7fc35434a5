-- `queries::answer_each` meets its contract: the queries before i are answered, and the next share starts where the last one ends. Assumes nothing.
use mathlib.Core.Path.{◌≡◌, sym, ◌∙◌}
use Prim.Native.Nat.{◌+◌, ◌-◌, ◌*◌}
use native.Mathlib.Omega.{arith}
use lib.ListN.{length, take}
use lib.Seq.{length-take-le}
use Rattle.queries.proofs.Judging.{judged-once}
use Rattle.queries.proofs.Turn.{ongoing-next, ongoing-end, share-next, part-long}
use Rattle.queries.proofs.answer_each.Goals as goal

pub answer_one-requires : goal.answer_one-requires
answer_one-requires c =
    let L = c.loop-i in
    let fits = (share-next c.args.share _ L.i L.at _ c.loop-i-test.true L.invariant.1).0 in
    let first : length (take c.args.share c.args.settled.now) ≡ c.args.share = length-take-le c.args.share c.args.settled.now (omega (arith, fits, L.invariant.3)) in record {
      fault_value = c.requires.fault_value
          ∙ judged-once _ _ _ _ _ L.held _ _ (sym L.invariant.2) (omega (arith, first, c.requires.queries_in_bounds.1)) (omega (arith, part-long L.at c.args.share L.settled fits, c.requires.queries_in_bounds.1));
      answer_len = (part-long (24 * L.i) 24 L.answers (omega arith), L.invariant.5);
    }

pub loop-i-preserved : goal.loop-i-preserved
loop-i-preserved c =
    let L = c.loop-i in
    let one = c.answer_one.ensures in
    let below = c.loop-i-test.true in
    let fits = share-next c.args.share _ L.i L.at _ below L.invariant.1 in
    let k = L.at + c.args.share - L.at in
    let l = 24 * L.i + 24 - 24 * L.i in
    let shared = c.settled-1.given in
    let told = c.answers-1.given in (
      omega arith,
      omega (arith, fits.1, shared.1),
      c.held-1.given ∙ L.invariant.2,
      shared.1 ∙ L.invariant.3,
      told.1 ∙ L.invariant.4,
      one.scratch_after,
      ongoing-next _ _ _ _ _ _ _ _ _ L.i L.at k l L.held L.settled L.answers _ _ _ _ _ below (omega arith) (omega arith) fits.0 (omega arith) shared.0 told.0 c.query_at-q.ensures c.limit_at-limit.ensures one.left L.invariant.6,
    )

pub returns : goal.returns
returns c =
    let L = c.loop-i in
    ongoing-end _ _ _ _ _ _ _ _ _ L.i L.at _ _ _ c.loop-i-test.false (omega arith) L.invariant.6
