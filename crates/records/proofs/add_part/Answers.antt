-- `records::add_part` meets its contract: the rest that is lent starts behind the records that stand there. Assumes nothing.
use mathlib.Core.Path.{refl}
use native.Mathlib.Omega.{arith}
use Prim.Native.Nat.{◌*◌}
use Rattle.journeys.specs.Bytes.{word}
use Rattle.journeys.specs.Parts.{part_bytes}
use Rattle.records.specs.Fields.{part_of}
use Rattle.words.proofs.Written.{rest-written}
use Rattle.records.proofs.add_part.Goals as goal

pub returns : goal.returns
unfolding word
returns c =
    let a = c.args in
    rw c.put_part.ensures (rest-written a.parts.now (12 * a.count) (part_bytes (part_of a.walk a.start.0 a.end.0)) (omega arith) _ refl)
