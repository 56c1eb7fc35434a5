use native.Mathlib.Omega.{arith}
use Rattle.covering.proofs.Entries.{stretch-in, stretch-fits, ahead-listed}
use Rattle.covering.proofs.list_entry_ahead.Goals as goal

pub overflow_add-end : goal.overflow_add-end
overflow_add-end c =
    record { fits = omega (arith, stretch-in _ _ _ _ _ c.args.list.now c.requires.3 c.args.i _ _ c.walks_of-s.ensures, c.requires.3.sound.few) }

pub list_departing-requires : goal.list_departing-requires
list_departing-requires c =
    let f = stretch-fits _ _ _ _ _ c.args.list.now c.requires.3 c.args.i _ _ c.walks_of-s.ensures in
    (c.requires.0, f.0, f.1, f.2)

pub returns : goal.returns
returns c =
    ahead-listed _ _ _ _ _ _ c.requires.3 c.args.i _ _ c.walks_of-s.ensures _ _ _ _ _ _ _ c.word_at-vertex.ensures c.word_at.ensures c.list_departing.ensures
