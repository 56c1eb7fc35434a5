use native.Mathlib.Omega.{arith}
use Rattle.idtable.proofs.Mixing.{start_is, start-within, part-fits}
use Rattle.idtable.proofs.first_slot.Goals as goal

pub overflow_mul-result : goal.overflow_mul-result
overflow_mul-result c =
    record { fits = part-fits c.args.n c.args.name.now c.mix-h.ensures c.requires.0 c.requires.1 }

pub returns : goal.returns
returns c =
    let e = start_is c.args.n c.args.name.now c.mix-h.result c.mix-h.ensures in
    (e, omega (arith, e, start-within c.args.n c.args.name.now c.requires.0))
