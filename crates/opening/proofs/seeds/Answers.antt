-- `opening::seeds` meets its contract: each seed is entered where there is a slot for it. Assumes nothing.
use mathlib.Core.Path.{◌∙◌}
use native.Mathlib.Omega.{arith}
use Rattle.opening.proofs.SeedTable.{first-seed, after_first, second-seed, other-fits, seeded-none, seeded-one, seeded-few, seeded-two}
use Rattle.opening.proofs.seeds.Goals as goal

pub returns-then-room-lt1 : goal.returns-then-room-lt1
returns-then-room-lt1 c = seeded-none _ _ _ _ _ _ (omega (arith, c.if-room-lt1.true, c.room.ensures, c.start-empty.ensures.1))

pub insert-one-requires : goal.insert-one-requires
insert-one-requires c =
    let p = c.requires in
    let start = c.start-empty.ensures in
    first-seed _ _ _ _ _ _ start.0 start.1 (omega (arith, c.if-room-lt1.false, c.room.ensures, start.1)) (omega (arith, p.held_len.1, p.pair_fits.sure.vertex)) p.pair_fits.sure.away c.due_at.ensures.1

pub returns-in_default : goal.returns-in_default
returns-in_default c =
    let start = c.start-empty.ensures in
    let one = c.insert-one.ensures in
    let h = after_first _ _ _ _ _ _ _ _ c.due_at.ensures.0 start.0 one in
    seeded-one _ _ _ _ _ _ _ c.in_default.is h (one.room ∙ start.1) (omega (arith, c.if-room-lt1.false, c.room.ensures, start.1))

pub returns-then-room-lt2 : goal.returns-then-room-lt2
returns-then-room-lt2 c =
    seeded-few _ _ _ _ _ _ c.in-Some.is (omega (arith, c.if-room-lt2.true, c.room-2.ensures, c.insert-one.ensures.room, c.start-empty.ensures.1))

pub insert-requires : goal.insert-requires
insert-requires c =
    let p = c.requires in
    let start = c.start-empty.ensures in
    let one = c.insert-one.ensures in
    let h = after_first _ _ _ _ _ _ _ _ c.due_at.ensures.0 start.0 one in
    let f = other-fits _ _ p.pair_fits c.in-Some.is in
    second-seed _ _ _ _ _ _ _ _ _ h (omega (arith, p.held_len.1, p.pair_fits.sure.vertex)) f.1 (omega (arith, c.if-room-lt2.false, c.room-2.ensures)) (omega (arith, p.held_len.1, f.0.vertex)) f.0.away c.due_at-2.ensures.1

pub returns : goal.returns
returns c =
    let start = c.start-empty.ensures in
    let one = c.insert-one.ensures in
    let h = after_first _ _ _ _ _ _ _ _ c.due_at.ensures.0 start.0 one in
    seeded-two _ _ _ _ _ _ _ _ _ _ c.due_at-2.ensures.0 c.in-Some.is h c.insert.ensures (one.room ∙ start.1) (omega (arith, c.if-room-lt2.false, c.room-2.ensures, one.room, start.1))
