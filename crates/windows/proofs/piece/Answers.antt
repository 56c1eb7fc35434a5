-- `piece`: sifted, then passed.
use mathlib.Core.Path.{sym, ap, ◌∙◌}
use Prim.Native.Nat.{◌-◌}
use native.Mathlib.Omega.{arith}
use lib.ListN.{length, take}
use Rattle.table_bytes.proofs.Access.{col-length}
use Rattle.sorting.specs.Sorted.{recs, sorted}
use Rattle.departures.proofs.SliceLaws.{recs-take}
use Rattle.carry.specs.Carried.{all_followed, all_hops}
use Rattle.windows.specs.Gone.{lines_records}
use Rattle.windows.proofs.GoneLaws.{bound-rises}
use Rattle.windows.proofs.piece.Goals as goal

pub returns : goal.returns
returns c =
    let a = c.args in
    let e = c.sift-w.ensures in
    let g = c.pass-p.ensures in
    let S = sorted (lines_records a.c a.stops.now a.trips.now a.text.now a.from) in
    let b = c.sift-w.new.b in
    let count = c.sift-w.result.count in
    let front = recs-take count a.n b e.0 in
    let p = sym front ∙ e.1 in (
      bound-rises a.lo c.sift-w.result.end count S (take count (recs a.n b)) c.requires.b_len.2 p (ap length (sym front) ∙ col-length 20 count b 0) e.3,
      g.0 ∙ ap (all_followed a.held) p,
      omega (arith, g.2, e.0),
      g.3 ∙ ap (all_hops a.held) p,
    )
