-- `behind`: the hops of the window stand where they belong.
use mathlib.Core.Path.{◌≡◌, ap, ◌∙◌}
use mathlib.Core.List.{List, ◌++◌}
use Prim.Native.Nat.{ℕ, ◌+◌, ◌-◌, ◌*◌, ◌≤◌}
use native.Mathlib.Omega.{arith}
use lib.ListN.{length, take}
use Rattle.sorting.specs.Sorted.{recs, sorted}
use Rattle.sorting.proofs.Arranged.{sorted-ascends}
use Rattle.windows.specs.Gone.{lines_records}
use Rattle.windows.proofs.GoneLaws.{gone-next, held_more, free-long, records-behind}
use Rattle.windows.proofs.behind.Goals as goal

pub returns : goal.returns
returns c =
    let a = c.args in
    let p = c.requires.target_len in
    let e = c.piece-p.ensures in
    let k = a.run.hops in
    let z = c.piece-p.new.b in
    let b = a.target.now in
    let S = sorted (lines_records a.c a.stops.now a.trips.now a.text.now a.from) in
    let r = c.piece-p.result in
    let few : k ≤ a.room = omega (arith, p.1) in
    let sum : k + (a.room - k) ≡ a.room = omega (arith, p.1) in
    let fits : k + r.hops ≤ a.room = omega (arith, p.1, e.2) in
    let laid = records-behind b z a.room k (a.room - k) r.hops p.0 sum (c.piece-p.auto.b ∙ free-long b a.room k p.0 few) e.2 (length b - 20 * k) in (
      e.0,
      gone-next S (sorted-ascends _) a.run (record { lo = r.lo; carry = r.carry; hops = k + r.hops }) e.0 e.1
          (λ H h. held_more r.hops H _ fits (laid ∙ ap (λ (G : List ℕ). take k (recs a.room b) ++ G) e.3) h),
    )
