-- `instead`: the hops are more than the room, and stay so.
use Prim.Native.Nat.{◌-◌}
use Rattle.sorting.specs.Sorted.{sorted}
use Rattle.sorting.proofs.Arranged.{sorted-ascends}
use Rattle.windows.specs.Gone.{lines_records}
use Rattle.windows.proofs.GoneLaws.{gone-next, held-still}
use Rattle.windows.proofs.instead.Goals as goal

pub returns : goal.returns
returns c =
    let a = c.args in
    let e = c.piece-p.ensures in
    let S = sorted (lines_records a.c a.stops.now a.trips.now a.text.now a.from) in
    let r = c.piece-p.result in
    (e.0, gone-next S (sorted-ascends _) a.run (record { lo = r.lo; carry = r.carry; hops = a.run.hops }) e.0 e.1 (λ H h. held-still H _ c.requires.target_len.2 h))
