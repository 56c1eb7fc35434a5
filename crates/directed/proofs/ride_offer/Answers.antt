-- `directed::ride_offer` meets its contract: the two tests are those of the definition. Assumes nothing.
use Rattle.journeys.specs.Bytes.{clocked}
use Rattle.journeys.specs.Counting.{none}
use mathlib.Core.Path.{◌≡◌, sym, ◌∙◌}
use mathlib.Core.Bool.{true, false}
use Prim.Native.Nat.{◌-◌, ◌*◌}
use native.Mathlib.Omega.{arith}
use lib.Dec.{leb}
use borrow.Author.Tests.{le-leb, lt-leb}
use Rattle.journeys.specs.CourierRecords.{offer}
use Rattle.journeys.specs.Tables.{hop_at}
use Rattle.journeys.proofs.Tests.{and-true, and_left, and_right, cond-true, cond-false}
use Rattle.words.proofs.Signed.{clocked-signed}
use Rattle.directed.proofs.ride_offer.Goals as goal

pub returns-then-distance-ticks_before : goal.returns-then-distance-ticks_before
unfolding offer
returns-then-distance-ticks_before c =
    let h = hop_at c.args.size c.args.hops.now c.args.at in
    let e = c.hop_at-h.ensures in
    let k = clocked-signed h.arrival in
    let i = clocked-signed h.departure in
    let a : leb (clocked c.args.departure.0) h.departure ≡ true = rw (e, i) at (sym c.not_after.ensures ∙ c.if-not_after.true) in
    let t = rw (e, i) at c.ticks_before.ensures in
    let b : leb c.args.distance.0 ((h.departure - clocked c.args.departure.0) * c.args.speed) ≡ true = le-leb c.args.distance.0 ((h.departure - clocked c.args.departure.0) * c.args.speed) (omega (arith, t, c.if-distance-ticks_before.true)) in
    let r = rw (e, k) at c.ticks_before-then-distance-ticks_before.ensures in
    r ∙ sym (cond-true ((h.arrival - clocked c.args.departure.0) * c.args.speed) none (and-true a b))

pub returns-else-distance-ticks_before : goal.returns-else-distance-ticks_before
unfolding offer
returns-else-distance-ticks_before c =
    let h = hop_at c.args.size c.args.hops.now c.args.at in
    let e = c.hop_at-h.ensures in
    let i = clocked-signed h.departure in
    let t = rw (e, i) at c.ticks_before.ensures in
    let b : leb c.args.distance.0 ((h.departure - clocked c.args.departure.0) * c.args.speed) ≡ false = lt-leb c.args.distance.0 ((h.departure - clocked c.args.departure.0) * c.args.speed) (omega (arith, t, c.if-distance-ticks_before.false)) in
    sym (cond-false ((h.arrival - clocked c.args.departure.0) * c.args.speed) none (and_right (leb (clocked c.args.departure.0) h.departure) b))

pub returns-else-not_after : goal.returns-else-not_after
unfolding offer
returns-else-not_after c =
    let h = hop_at c.args.size c.args.hops.now c.args.at in
    let e = c.hop_at-h.ensures in
    let i = clocked-signed h.departure in
    let a : leb (clocked c.args.departure.0) h.departure ≡ false = rw (e, i) at (sym c.not_after.ensures ∙ c.if-not_after.false) in
    sym (cond-false ((h.arrival - clocked c.args.departure.0) * c.args.speed) none (and_left (leb c.args.distance.0 ((h.departure - clocked c.args.departure.0) * c.args.speed)) a))
