-- `beside`: the hops of the window are copied.
use mathlib.Core.Path.{subst}
use mathlib.Core.List.{List, ◌++◌}
use Prim.Native.Nat.{ℕ, ◌+◌, ◌-◌}
use Rattle.sorting.specs.Sorted.{recs, sorted}
use Rattle.sorting.proofs.Arranged.{sorted-ascends}
use Rattle.windows.specs.Gone.{lines_records, Held}
use Rattle.windows.proofs.GoneLaws.{gone-next}
use Rattle.windows.proofs.beside.Goals as goal

pub returns : goal.returns
returns c =
    let a = c.args in
    let e = c.piece-p.ensures in
    let S = sorted (lines_records a.c a.stops.now a.trips.now a.text.now a.from) in
    let r = c.piece-p.result in (
      e.0,
      gone-next S (sorted-ascends _) a.run (record { lo = r.lo; carry = r.carry; hops = c.gain-k.result }) e.0 e.1
          (λ H h. subst (λ (G : List ℕ). Held a.room c.gain-k.result (recs a.room c.gain-k.new.target) (H ++ G)) e.3 (c.gain-k.ensures H h)),
    )
