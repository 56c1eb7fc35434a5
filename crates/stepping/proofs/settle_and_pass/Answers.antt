-- `stepping::settle_and_pass` meets its contract: the three parts are the row of x. Assumes nothing.
use Rattle.stepping.proofs.StepEnds.{ready, all-passed}
use Rattle.stepping.proofs.settle_and_pass.Goals as goal

pub arrive-requires : goal.arrive-requires
arrive-requires c =
    let a = c.args in
    (ready a.vertices.now a.walks.now a.hops.now a.list.now a.x a.slot a.stretch a.row a.t _ _ c.requires.0 c.walks_at-walked.ensures c.hops_at-ridden.ensures c.numbers_at-numbers.ensures c.settle_next-settled.ensures, c.requires.1)

pub returns : goal.returns
returns c =
    let a = c.args in
    let done = c.arrive in
    (all-passed a.vertices.now a.walks.now a.hops.now a.list.now a.x a.slot a.stretch a.row a.t _ _ c.requires.0 c.walks_at-walked.ensures c.hops_at-ridden.ensures c.numbers_at-numbers.ensures c.settle_next-settled.ensures _ _ done.ensures.0, done.ensures.1)
