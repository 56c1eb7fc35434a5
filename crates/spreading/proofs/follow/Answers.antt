-- `spreading::follow` meets its contract. Assumes nothing.
use mathlib.Core.Path.{refl, ◌∙◌}
use mathlib.Core.Logic.{◌≢◌}
use native.Mathlib.Omega.{arith}
use Rattle.boarding.specs.Rides.{trip_at}
use Rattle.marking.proofs.Hops.{hop-low}
use Rattle.spreading.proofs.Following.{x-low, readable, staying, followed, retold}
use Rattle.spreading.proofs.follow.Goals as goal

pub trip_at-trip-requires : goal.trip_at-trip-requires
trip_at-trip-requires c = (c.requires.judged.0.wide, hop-low c.requires.judged.0 _ (c.requires.judged.1.low c.args.j c.requires.sorted.1))

pub from_at-x-requires : goal.from_at-x-requires
from_at-x-requires c =
    (omega (arith, c.requires.judged.0.wide), hop-low c.requires.judged.0 _ (c.requires.judged.1.low c.args.j c.requires.sorted.1))

pub first_arriving-first-requires : goal.first_arriving-first-requires
first_arriving-first-requires c =
    let a = c.args in
    let k = c.requires.judged.0 in
    let w = c.requires.sorted.0 in
    let l = c.requires.judged.1.low a.j c.requires.sorted.1 in
    let n : trip_at a.a.size a.hops.now a.j ≢ 0 = λ z. c.if-trip-eq0.false (c.trip_at-trip.ensures ∙ z) in
    x-low k a.j l n a.scratch.now w.room w.arranged c.from_at-x.ensures refl refl

pub end_arriving-end-requires : goal.end_arriving-end-requires
end_arriving-end-requires c =
    let a = c.args in
    let k = c.requires.judged.0 in
    let w = c.requires.sorted.0 in
    let l = c.requires.judged.1.low a.j c.requires.sorted.1 in
    let n : trip_at a.a.size a.hops.now a.j ≢ 0 = λ z. c.if-trip-eq0.false (c.trip_at-trip.ensures ∙ z) in
    x-low k a.j l n a.scratch.now w.room w.arranged c.from_at-x.ensures refl refl

pub upto-q-requires : goal.upto-q-requires
upto-q-requires c =
    let a = c.args in
    let k = c.requires.judged.0 in
    let w = c.requires.sorted.0 in
    let l = c.requires.judged.1.low a.j c.requires.sorted.1 in
    let n : trip_at a.a.size a.hops.now a.j ≢ 0 = λ z. c.if-trip-eq0.false (c.trip_at-trip.ensures ∙ z) in
    let r = readable k a.j l n a.scratch.now w.room w.arranged c.from_at-x.ensures c.first_arriving-first.ensures c.end_arriving-end.ensures {marks = a.marks.now} c.requires.judged.1.marks_long in record {
      le_size = (r.wide, r.order, r.fit, r.few, r.room, hop-low k a.j l);
      stretch = r.stretch;
    }

pub lowest-low-requires : goal.lowest-low-requires
lowest-low-requires c =
    let a = c.args in
    let k = c.requires.judged.0 in
    let w = c.requires.sorted.0 in
    let l = c.requires.judged.1.low a.j c.requires.sorted.1 in
    let n : trip_at a.a.size a.hops.now a.j ≢ 0 = λ z. c.if-trip-eq0.false (c.trip_at-trip.ensures ∙ z) in
    let u = c.upto-q.ensures in
    (readable k a.j l n a.scratch.now w.room w.arranged c.from_at-x.ensures c.first_arriving-first.ensures c.end_arriving-end.ensures c.requires.judged.1.marks_long, u.order.0, u.order.2)

pub stay_from-requires : goal.stay_from-requires
stay_from-requires c =
    let a = c.args in
    let k = c.requires.judged.0 in
    let w = c.requires.sorted.0 in
    let l = c.requires.judged.1.low a.j c.requires.sorted.1 in
    let n : trip_at a.a.size a.hops.now a.j ≢ 0 = λ z. c.if-trip-eq0.false (c.trip_at-trip.ensures ∙ z) in record {
      judged = c.requires.judged;
      staying = (staying k a.j l n a.scratch.now w.room w.arranged c.from_at-x.ensures c.first_arriving-first.ensures c.end_arriving-end.ensures c.upto-q.ensures (retold c.trip_at-trip.ensures c.lowest-low.ensures), c.requires.sorted.1);
    }

pub returns : goal.returns
returns c =
    let a = c.args in
    let k = c.requires.judged.0 in
    let w = c.requires.sorted.0 in
    let l = c.requires.judged.1.low a.j c.requires.sorted.1 in
    let n : trip_at a.a.size a.hops.now a.j ≢ 0 = λ z. c.if-trip-eq0.false (c.trip_at-trip.ensures ∙ z) in
    followed k a.j l n a.scratch.now w.room w.arranged c.from_at-x.ensures c.first_arriving-first.ensures c.end_arriving-end.ensures c.upto-q.ensures (retold c.trip_at-trip.ensures c.lowest-low.ensures) refl c.requires.sorted.2 c.stay_from.ensures
