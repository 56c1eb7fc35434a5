-- `records::add_settled` meets its contract: the rest that is lent starts behind the records that stand there. Assumes nothing.
use mathlib.Core.Path.{refl}
use native.Mathlib.Omega.{arith}
use Prim.Native.Nat.{◌*◌}
use Rattle.journeys.specs.Bytes.{word}
use Rattle.journeys.specs.Answers.{settled_bytes}
use Rattle.records.specs.Fields.{settled_of}
use Rattle.words.proofs.Written.{rest-written}
use Rattle.records.proofs.add_settled.Goals as goal

pub returns : goal.returns
unfolding word
returns c =
    let a = c.args in
    rw c.put_settled.ensures (rest-written a.settled.now (8 * a.count) (settled_bytes (settled_of a.vertex a.distance.0)) (omega arith) _ refl)
