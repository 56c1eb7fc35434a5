-- `pass`: the word is read once and stored once, in one of three ways.
use native.Mathlib.Omega.{arith}
use mathlib.Core.Path.{sym, ◌∙◌}
use Prim.Native.Nat.{◌+◌, ◌-◌, ◌*◌, ◌%◌, ◌<◌}
use Rattle.worktable.specs.Table.{map_of, PassedIs}
use Rattle.worktable.specs.Map.{touched}
use Rattle.worktable.proofs.MapLaws.{put_id, absent-touched, absent-known}
use Rattle.worktable.proofs.TableLaws.{found-place, found-absent, place-pos, place-low, gives_same}
use Rattle.worktable.proofs.PassLaws.{told_is, gives-place, pass-some, less-is, pass-settled, pass-settled-gives, pass-open-same, pass-open-gives, pass-lower-key, pass-lower-same, pass-lower-gives}
use Rattle.worktable.proofs.pass.Goals as goal

pub returns-in_default : goal.returns-in_default
unfolding PassedIs
returns-in_default c =
    let a = c.args in
    let m = map_of a.t a.b.now in
    let z = found-absent a.t a.b.now a.u c.find.ensures c.in_default.is in
    let k = absent-touched a.offer z in record {
      gives = gives_same c.requires.0 (put_id m a.u (touched a.offer (m a.u)) (z ∙ sym k));
      passed_is = k;
    }

pub word-w-requires : goal.word-w-requires
word-w-requires c =
    (c.requires.0.slotted.len, place-low c.requires.0 (found-place c.find.ensures c.in-Some.is))

pub overflow_sub-w : goal.overflow_sub-w
overflow_sub-w c =
    let p = found-place c.find.ensures c.in-Some.is in
    omega (arith, pass-some c.args.offer c.requires.0 p c.word-w.ensures (omega (arith, c.word-w.type_inv)) c.requires.2)

pub lower_word-requires : goal.lower_word-requires
lower_word-requires c =
    let w = c.word-w in
    let p = found-place c.find.ensures c.in-Some.is in
    let o = c.requires.0 in
    (o.slotted, p.slot.low, (o.layout (place-pos o p)).win, pass-lower-key c.args.offer o p w.ensures (omega (arith, w.type_inv)) c.requires.2 c.if-w-lt-SETTLED.true c.requires.1 c.if-x-w.true)

pub returns-then-x-w : goal.returns-then-x-w
returns-then-x-w c =
    let v = c.word-w in
    let p = found-place c.find.ensures c.in-Some.is in
    let o = c.requires.0 in
    let x = c.args.offer in
    let fit : v.result < 18446744073709551616 = omega (arith, v.type_inv) in
    let due = c.requires.2 in
    let h = c.if-w-lt-SETTLED.true in
    let lower = c.if-x-w.true in
    let g = pass-lower-gives x o p v.ensures fit due h c.requires.1 lower c.lower_word.ensures c.lower_word.auto.b in
    let e = pass-lower-same x o p v.ensures fit due h c.requires.1 lower in record {
      gives = g;
      passed_is = told_is c.args.allowed (x * 68719476736 + (v.result - 1) % 68719476736) (gives-place (touched x (map_of c.args.t c.args.b.now c.args.u)) g (λ z. absent-known (sym z ∙ sym e)) p) e c.told.ensures;
    }

pub set_word-requires : goal.set_word-requires
set_word-requires c =
    (c.requires.0.slotted.len, place-low c.requires.0 (found-place c.find.ensures c.in-Some.is))

pub returns-then-w-lt-SETTLED : goal.returns-then-w-lt-SETTLED
returns-then-w-lt-SETTLED c =
    let v = c.word-w in
    let p = found-place c.find.ensures c.in-Some.is in
    let o = c.requires.0 in
    let x = c.args.offer in
    let fit : v.result < 18446744073709551616 = omega (arith, v.type_inv) in
    let due = c.requires.2 in
    let h = c.if-w-lt-SETTLED.true in
    let high = c.if-x-w.false in
    let g = pass-open-gives x o p v.ensures fit due h c.requires.1 high c.set_word.ensures c.set_word.auto.b in
    let e = less-is x o p v.ensures fit due ∙ sym (pass-open-same x o p v.ensures fit due h c.requires.1 high) in record {
      gives = g;
      passed_is = told_is c.args.allowed (v.result - 1) (gives-place (touched x (map_of c.args.t c.args.b.now c.args.u)) g (λ z. absent-known (sym z ∙ sym e)) p) e c.told-then-w-lt-SETTLED.ensures;
    }

pub set_word-requires-2 : goal.set_word-requires-2
set_word-requires-2 c =
    (c.requires.0.slotted.len, place-low c.requires.0 (found-place c.find.ensures c.in-Some.is))

pub returns : goal.returns
returns c =
    let v = c.word-w in
    let p = found-place c.find.ensures c.in-Some.is in
    let o = c.requires.0 in
    let x = c.args.offer in
    let fit : v.result < 18446744073709551616 = omega (arith, v.type_inv) in
    let due = c.requires.2 in
    let h = c.if-w-lt-SETTLED.false in
    let g = pass-settled-gives x o p v.ensures fit due h c.set_word-2.ensures c.set_word-2.auto.b in
    let e = less-is x o p v.ensures fit due ∙ sym (pass-settled x o p v.ensures fit due h) in record {
      gives = g;
      passed_is = told_is c.args.allowed (v.result - 1) (gives-place (touched x (map_of c.args.t c.args.b.now c.args.u)) g (λ z. absent-known (sym z ∙ sym e)) p) e c.told-2.ensures;
    }
