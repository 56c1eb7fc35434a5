-- `judged`: the steps and the end give what the order of settling says. Assumes nothing.
use Rattle.marking.specs.Setting.{query}
use Rattle.riding.specs.Lending.{ride_lent}
use Rattle.riding.proofs.RideAnswered.{fits-end, concluded, given-up}
use Rattle.riding.proofs.judged.Goals as goal

pub listed-requires : goal.listed-requires
listed-requires c =
    let b = ride_lent c.args.vertices.now c.args.walks.now c.args.hops.now c.args.a.size c.args.settled.now c.args.scratch.now in
    fits-end b (query c.args.a) c.args.a.boarding c.args.limit c.requires.0.valid _ _ c.search.ensures _ c.in-Ok.is

pub returns-in-Ok : goal.returns-in-Ok
returns-in-Ok c =
    let b = ride_lent c.args.vertices.now c.args.walks.now c.args.hops.now c.args.a.size c.args.settled.now c.args.scratch.now in
    concluded b (query c.args.a) c.args.a.boarding c.args.limit c.requires.0.valid _ _ c.search.ensures _ c.in-Ok.is c.listed.ensures c.scratch-1.given

pub returns-in-Err : goal.returns-in-Err
returns-in-Err c =
    let b = ride_lent c.args.vertices.now c.args.walks.now c.args.hops.now c.args.a.size c.args.settled.now c.args.scratch.now in
    given-up b (query c.args.a) c.args.a.boarding c.args.limit c.requires.0.valid _ _ c.search.ensures _ c.in-Err.is c.from.ensures c.give_up.ensures c.scratch-1.given
