use Prim.Native.Nat.{◌-◌, ◌*◌, ◌+◌}
use native.Mathlib.Omega.{arith}
use mathlib.Core.Path.{sym, ap, ◌∙◌}
use lib.ListN.{get_or, drop}
use Rattle.values.specs.Readings.{rest_read}
use Rattle.values.proofs.Numbers.{read_none, read-begins, rest_over, rest-bad, rest-on, rest-large, digit-is, digit-range}
use Rattle.values.proofs.read_number.Goals as goal

pub returns-then-field-eq0 : goal.returns-then-field-eq0
returns-then-field-eq0 c = sym (read_none _ _ c.if-field-eq0.true)

pub loop-b-init : goal.loop-b-init
loop-b-init c = (omega arith, omega arith, read-begins c.args.most _ c.if-field-eq0.false)

pub returns-then-not-is_ascii_digit : goal.returns-then-not-is_ascii_digit
returns-then-not-is_ascii_digit c = sym (rest-bad c.args.most c.loop-b.value c.args.field.now c.loop-b.b-index (omega arith) (sym (digit-is _) ∙ sym c.if-not-is_ascii_digit.ensures.value)) ∙ c.loop-b.invariant.2

pub overflow_sub-longer : goal.overflow_sub-longer
overflow_sub-longer c = let low = digit-range (get_or c.args.field.now c.loop-b.b-index 0) (sym (digit-is _) ∙ sym c.if-not-is_ascii_digit.ensures.value) in omega arith

pub returns-then-greatest-longer : goal.returns-then-greatest-longer
returns-then-greatest-longer c = sym (rest-large c.args.most c.loop-b.value c.args.field.now c.loop-b.b-index (omega arith) (sym (digit-is _) ∙ sym c.if-not-is_ascii_digit.ensures.value) (omega arith)) ∙ c.loop-b.invariant.2

pub loop-b-preserved : goal.loop-b-preserved
loop-b-preserved c = (omega arith, c.if-greatest-longer.false, ap (λ w. rest_read c.args.most (10 * c.loop-b.value + (w - 48)) (drop (c.loop-b.b-index + 1) c.args.field.now)) c.from.ensures ∙ sym (rest-on c.args.most c.loop-b.value c.args.field.now c.loop-b.b-index (omega arith) (sym (digit-is _) ∙ sym c.if-not-is_ascii_digit.ensures.value)) ∙ c.loop-b.invariant.2)

pub returns : goal.returns
returns c = sym (rest_over _ _ _ _ c.loop-b-test.false c.loop-b.invariant.1) ∙ c.loop-b.invariant.2
