-- `quick::drain_table` meets its contract: at each turn what is drained and what waits are the records up to i. Assumes nothing.
use Rattle.std.proofs.Common.{◌≡◌, ◌+◌, refl, ◌∙◌, arith}
use Rattle.records.specs.Columns.{records_in}
use Rattle.quick.specs.Claims.{leaves, counted_to}
use Rattle.quick.proofs.Sifted.{count-zero}
use Rattle.quick.proofs.Taken.{placed-kept, takes_none, takes-kept, takes-list, none-wait}
use Rattle.quick.proofs.drain_table.Goals as goal

pub loop-i-init : goal.loop-i-init
loop-i-init c =
    let a = c.args in
    let nothing = takes_none a.groups (λ k. counted_to a.pairs a.size a.table.now (a.base + k) 0) a.scratch.now (λ k. count-zero (leaves a.pairs a.size a.table.now (a.base + k))) in
    (omega arith, refl, omega arith, omega arith, c.requires.by_index, none-wait a.groups _ _ _ nothing)

pub relieve-requires : goal.relieve-requires
relieve-requires c =
    let loop = c.loop-i in
    let w = loop.invariant.5 in record {
      waiting_bound = (omega (arith, c.min-end.ensures, c.sift-listed.ensures.start_bound.0), omega (arith, c.sift-listed.auto));
      by_index = λ j l. placed-kept (λ k p q. c.sift-listed.ensures.same k (omega arith) (omega arith)) (loop.invariant.4 _ ((c.sift-listed.ensures.start_bound.1 w.before w.list).inside j l));
    }

pub loop-i-preserved : goal.loop-i-preserved
loop-i-preserved c =
    let loop = c.loop-i in
    let a = c.args in
    let w = loop.invariant.5 in
    let start = a.scratch.now in (
      omega (arith, c.min-end.ensures),
      loop.invariant.1,
      c.in-Some.ensures.few,
      omega (arith, c.sift-listed.auto, c.relieve.auto),
      λ k l. placed-kept (λ j p q. c.relieve.ensures.same j p (omega arith) ∙ c.sift-listed.ensures.same j (omega arith) (omega arith)) (loop.invariant.4 k l),
      c.in-Some.ensures.by_index_2 a.groups _ start
          (record {
            before = w.before;
            takes = takes-kept a.groups w.before start loop.scratch _ c.sift-listed.ensures.same w.takes;
            list = c.sift-listed.ensures.start_bound.1 w.before w.list;
          }),
    )

pub returns : goal.returns
returns c =
    let loop = c.loop-i in
    let a = c.args in
    let e : loop.i ≡ records_in a.size a.table.now = omega arith in
    λ t. takes-list a.groups loop.waiting _ a.scratch.now loop.scratch c.drain.new.scratch c.drain.result (rw e at loop.invariant.5) c.drain.ensures.drained t
