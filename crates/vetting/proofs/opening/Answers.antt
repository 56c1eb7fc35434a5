use Rattle.std.proofs.Common.{sym, ◌∙◌}
use Rattle.vetting.proofs.FitLaws.{stops-shut, trips-shut, columns-shut, by-quotes}
use Rattle.vetting.proofs.VettedLaws.{err-number, ok-number}
use Rattle.vetting.proofs.opening.Goals as goal

pub returns-then-is_err : goal.returns-then-is_err
returns-then-is_err c = sym (stops-shut _ _ _ (err-number _ c.list_fault.ensures (sym c.if-is_err.ensures.value)))

pub returns-then-is_err-2 : goal.returns-then-is_err-2
returns-then-is_err-2 c =
    sym (trips-shut _ _ _ (ok-number _ c.list_fault.ensures (sym c.if-is_err.ensures.value)) (err-number _ c.list_fault-2.ensures (sym c.if-is_err-2.ensures.value)))

pub returns-then-not-columns_once : goal.returns-then-not-columns_once
returns-then-not-columns_once c =
    sym (columns-shut _ _ _ (ok-number _ c.list_fault.ensures (sym c.if-is_err.ensures.value)) (ok-number _ c.list_fault-2.ensures (sym c.if-is_err-2.ensures.value)) (sym c.if-not-columns_once.ensures))

pub returns : goal.returns
returns c =
    c.count_fields-fields.ensures.sound
    ∙ sym (by-quotes _ _ _ (ok-number _ c.list_fault.ensures (sym c.if-is_err.ensures.value)) (ok-number _ c.list_fault-2.ensures (sym c.if-is_err-2.ensures.value)) (sym c.if-not-columns_once.ensures))
