-- `quick::claim` meets its contract: each return is the case that its tests pick. Assumes nothing.
use Rattle.std.proofs.Common.{sym, arith}
use Rattle.journeys.specs.Tables.{vertex_at}
use Rattle.quick.proofs.Claimed.{claim-behind, claim-short, claim-good}
use Rattle.quick.proofs.claim.Goals as goal

pub returns-then-limit-v : goal.returns-then-limit-v
returns-then-limit-v c =
    let a = c.args in
    sym (claim-behind a.pairs a.vertices.now a.walks.now a.limit a.v c.if-limit-v.true)

pub returns-then-departing-arriving : goal.returns-then-departing-arriving
unfolding vertex_at
returns-then-departing-arriving c =
    let a = c.args in
    sym
    (claim-short a.pairs a.vertices.now a.walks.now a.limit a.v (omega arith)
    (rw (c.half_at-departing.ensures, c.arriving_pairs-arriving.ensures) at c.if-departing-arriving.true))

pub returns : goal.returns
unfolding vertex_at
returns c =
    let a = c.args in
    rw (c.half_at-departing.ensures, c.arriving_pairs-arriving.ensures)
    (sym
    (claim-good a.pairs a.vertices.now a.walks.now a.limit a.v (omega arith)
    (rw (c.half_at-departing.ensures, c.arriving_pairs-arriving.ensures) at c.if-departing-arriving.false)))
