use Rattle.std.proofs.Common.{◌≡◌, sym, ap, ◌∙◌}
use Rattle.std.proofs.lemmas.Result.{err_from_is_err_and}
use Rattle.journeys.specs.Refusals.{Refusal}
use Rattle.words.proofs.Told.{named}
use Rattle.vetting.proofs.VettedLaws.{by-stops, by-trips, by-text}
use Rattle.vetting.proofs.text_fault.Goals as goal

number_of : {a b : Refusal} → a ≡ b → b.number ≡ a.number
number_of e = ap (λ (r : Refusal). r.number) (sym e)

pub returns-in_err-list_fault : goal.returns-in_err-list_fault
returns-in_err-list_fault c =
    let p = err_from_is_err_and c.from_residual.result c.from_residual.ensures.1 in
    rw (p.1, p.2) (c.in_err-list_fault.ensures ∙ by-stops _ _ _ (λ z. named _ (sym (number_of c.in_err-list_fault.ensures) ∙ z)))

pub returns-in_err-list_fault-2 : goal.returns-in_err-list_fault-2
returns-in_err-list_fault-2 c =
    let p = err_from_is_err_and c.from_residual-in_err-list_fault-2.result c.from_residual-in_err-list_fault-2.ensures.1 in
    rw (p.1, p.2) (c.in_err-list_fault-2.ensures ∙ by-trips _ _ _ (number_of c.in_ok-list_fault.ensures) (λ z. named _ (sym (number_of c.in_err-list_fault-2.ensures) ∙ z)))

pub returns : goal.returns
returns c = c.text_fault.ensures ∙ by-text _ _ _ (number_of c.in_ok-list_fault.ensures) (number_of c.in_ok-list_fault-2.ensures)
