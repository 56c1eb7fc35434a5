-- `spreading::lowest` meets its contract: from p on all are of the trip. Assumes nothing.
use Prim.Native.Nat.{◌-◌}
use native.Mathlib.Omega.{arith}
use Rattle.arranging.proofs.StretchLaws.{word_in}
use Rattle.spreading.proofs.lowest.Goals as goal

pub trip_at-requires : goal.trip_at-requires
trip_at-requires c =
    let L = c.loop-p in
    let r = c.requires.0 in
    let o = word_in r.stretch r.order (omega (arith, r.fit, r.few)) (L.p - 1) (omega (arith, c.loop-p-test.true)) (omega (arith, c.loop-p-test.true, L.invariant.1, c.requires.2)) in
    (r.wide, omega (arith, c.word-j.ensures, o, r.fit))

pub member-requires : goal.member-requires
member-requires c =
    let L = c.loop-p in
    let t = c.loop-p-test.true in
    let r = c.requires.0 in
    let o = word_in r.stretch r.order (omega (arith, r.fit, r.few)) (L.p - 1) (omega (arith, t)) (omega (arith, t, L.invariant.1, c.requires.2)) in
    omega (arith, c.word-j.ensures, o, r.fit, r.few, r.long)
