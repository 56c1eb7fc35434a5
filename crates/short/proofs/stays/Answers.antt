-- `short::stays` meets its contract. Assumes nothing.
use Rattle.passing.specs.Row.{passes}
use Rattle.directed.specs.Directed.{row_in}
use Rattle.short.proofs.RowOfStep.{some-leave, near-stays}
use Rattle.short.proofs.stays.Goals as goal

pub returns-then-offer-allowed : goal.returns-then-offer-allowed
returns-then-offer-allowed c =
    let a = c.args in
    let R = row_in a.vertices.now a.walks.now a.hops.now a.list.now a.row in
    near-stays R a.u (passes a.row.arriving) a.j c.requires.passable.3 c.requires.passable.4 c.requires.passable.5 c.if-offer-allowed.true c.requires.arriving_bound

pub lasts-requires : goal.lasts-requires
lasts-requires c =
    let a = c.args in
    let R = row_in a.vertices.now a.walks.now a.hops.now a.list.now a.row in record {
      passable = (c.requires.passable.0, c.requires.passable.1, c.requires.passable.2);
      arriving_bound = (c.requires.arriving_bound, some-leave R a.u (passes a.row.arriving) a.j c.requires.passable.3 c.requires.passable.4);
    }
