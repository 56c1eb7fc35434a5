-- `quick::paired` meets its contract: after i turns the walks before i that arrive with a twin are counted, and none arrives outside the run. Assumes nothing.
use Rattle.std.proofs.Common.{◌≡◌, ◌+◌, not, sym, ap, ◌∙◌, arith}
use Rattle.journeys.specs.Counting.{one, count}
use Rattle.journeys.proofs.Counting.{count_most}
use Rattle.records.specs.Columns.{arriving_below}
use Rattle.quick.specs.Claims.{arrives, arriving}
use Rattle.quick.proofs.Sifted.{count_next}
use Rattle.quick.proofs.Run.{run_inside, run-ascends, run-starts, run-goes, run_ends}
use Rattle.quick.proofs.paired.Goals as goal

pub loop-i-init : goal.loop-i-init
loop-i-init c =
    let t = c.args.walks.now in
    let starts : 0 ≡ count (arrives t c.args.v) c.args.first = rw c.requires.1 (sym (run-starts t c.requires.0 c.args.v)) in
    (omega arith, omega (arith, run-ascends t c.requires.0 c.args.v), starts)

pub alone-requires : goal.alone-requires
alone-requires c =
    omega (arith, run_inside c.args.walks.now c.requires.0 (c.args.v + 1))

pub more-found-requires : goal.more-found-requires
more-found-requires c =
    let loop = c.loop-i in
    omega (arith, count_most (arrives c.args.walks.now c.args.v) loop.i, run_inside c.args.walks.now c.requires.0 (c.args.v + 1))

pub loop-i-preserved : goal.loop-i-preserved
loop-i-preserved c =
    let loop = c.loop-i in
    let t = c.args.walks.now in
    let e : arrives t c.args.v loop.i ≡ not c.alone.result = run-goes t c.requires.0 c.args.v loop.i loop.invariant.0 (omega arith) ∙ ap not (sym c.alone.ensures) in
    (omega arith, omega arith, omega (arith, c.more-found.ensures.0, count_next (arrives t c.args.v) loop.i, ap one e))

pub returns : goal.returns
unfolding arriving
returns c =
    let loop = c.loop-i in
    let e : loop.i ≡ arriving_below 16 c.args.walks.now (c.args.v + 1) = omega arith in
    rw e at loop.invariant.2 ∙ sym (run_ends c.args.walks.now c.requires.0 c.args.v)
