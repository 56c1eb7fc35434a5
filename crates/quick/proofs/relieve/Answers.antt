-- `quick::relieve` meets its contract: a list that is drained leaves nothing that waits. Assumes nothing.
use Rattle.std.proofs.Common.{arith}
use Rattle.quick.proofs.Taken.{takes-list, none-wait}
use Rattle.quick.proofs.relieve.Goals as goal

pub returns-then-drain : goal.returns-then-drain
returns-then-drain c =
    let a = c.args in record {
      few = omega arith;
      by_index_2 = λ groups all start w. none-wait groups all start _ (takes-list groups a.waiting all start a.scratch.now c.drain.new.scratch c.drain.result w c.drain.ensures.drained c.if-drain.true);
      same = λ k l m. c.drain.ensures.same k l (omega arith);
    }
