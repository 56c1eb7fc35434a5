use Rattle.std.specs.Prelude.{◌≡◌, ◌+◌, ◌-◌, false, Some, take, drop}
use Rattle.std.proofs.Common.{arith, sym, ◌∙◌}
use Rattle.feed.specs.Values.{number}
use Rattle.values.proofs.Times.{read-value, read-bad, no-colon, bad-hours, bad-minutes, bad-seconds, good-time}
use Rattle.values.specs.Readings.{number_read}
use Rattle.values.proofs.time_parts.Goals as goal

pub returns-then-field-h : goal.returns-then-field-h
returns-then-field-h c = sym (no-colon c.args.field.now c.args.h c.requires.0 c.requires.1 c.requires.2 c.if-field-h.true)

pub returns-in_err-hours : goal.returns-in_err-hours
returns-in_err-hours c = c.from_residual.ensures ∙ sym (bad-hours c.args.field.now c.args.h c.requires.0 c.requires.1 c.requires.2 (read-bad 47 _ (sym c.in_err-hours.ensures)))

pub returns-in_err-minutes : goal.returns-in_err-minutes
returns-in_err-minutes c = let two : c.args.h + 3 - (c.args.h + 1) ≡ 2 = omega arith in let bad : number 59 (take 2 (drop (c.args.h + 1) c.args.field.now)) ≡ false = rw two at (read-bad 59 _ (sym c.in_err-minutes.ensures)) in c.from_residual-in_err-minutes.ensures ∙ sym (bad-minutes c.args.field.now c.args.h c.requires.0 c.requires.1 c.requires.2 bad)

pub returns-in_err-seconds : goal.returns-in_err-seconds
returns-in_err-seconds c = let two : c.args.h + 6 - (c.args.h + 4) ≡ 2 = omega arith in let bad : number 59 (take 2 (drop (c.args.h + 4) c.args.field.now)) ≡ false = rw two at (read-bad 59 _ (sym c.in_err-seconds.ensures)) in c.from_residual-in_err-seconds.ensures ∙ sym (bad-seconds c.args.field.now c.args.h c.requires.0 c.requires.1 c.requires.2 bad)

pub overflow_mul-result : goal.overflow_mul-result
overflow_mul-result c = let x = read-value 47 _ _ (sym c.in_ok-hours.ensures) in omega arith

pub overflow_mul-result-2 : goal.overflow_mul-result-2
overflow_mul-result-2 c = let y = read-value 59 _ _ (sym c.in_ok-minutes.ensures) in omega arith

pub overflow_add-result : goal.overflow_add-result
overflow_add-result c = let x = read-value 47 _ _ (sym c.in_ok-hours.ensures) in let y = read-value 59 _ _ (sym c.in_ok-minutes.ensures) in omega arith

pub overflow_add-result-2 : goal.overflow_add-result-2
overflow_add-result-2 c = let x = read-value 47 _ _ (sym c.in_ok-hours.ensures) in let y = read-value 59 _ _ (sym c.in_ok-minutes.ensures) in let z = read-value 59 _ _ (sym c.in_ok-seconds.ensures) in omega arith

pub returns : goal.returns
returns c = let two : c.args.h + 3 - (c.args.h + 1) ≡ 2 = omega arith in let three : c.args.h + 6 - (c.args.h + 4) ≡ 2 = omega arith in let y : number_read 59 (take 2 (drop (c.args.h + 1) c.args.field.now)) ≡ Some c.in_ok-minutes.minutes = rw two at (sym c.in_ok-minutes.ensures) in let z : number_read 59 (take 2 (drop (c.args.h + 4) c.args.field.now)) ≡ Some c.in_ok-seconds.seconds = rw three at (sym c.in_ok-seconds.ensures) in sym (good-time c.args.field.now c.args.h c.requires.0 c.requires.1 c.requires.2 _ _ _ c.if-field-h.false (sym c.in_ok-hours.ensures) y z)
