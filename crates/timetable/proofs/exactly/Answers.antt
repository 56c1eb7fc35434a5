use mathlib.Core.Path.{sym, ap, ap₂, ◌∙◌}
use mathlib.Core.List.{List}
use Prim.Native.Nat.{ℕ}
use Rattle.words.specs.Told.{told}
use Rattle.words.proofs.Chains.{refuses, passes}
use Rattle.vetting.specs.Vetted.{text_refusal}
use Rattle.timetable.specs.Lent.{feed_of}
use Rattle.timetable.proofs.FaultLaws.{text-refused}
use Rattle.timetable.proofs.exactly.Goals as goal

pub returns-in-Err : goal.returns-in-Err
returns-in-Err c =
    let a = c.args in
    let e = c.text_fault.ensures ∙ ap₂ (λ (s t : List ℕ). text_refusal a.text.now s t) c.stops.view_is c.trips.view_is in
    text-refused (feed_of a.text.now a.stops.now a.trips.now a.target.now) c.requires.target_value c.refuse.result _
    (refuses c.in-Err.is e) (c.refuse.ensures.0 ∙ sym (ap told c.in-Err.is) ∙ e) c.refuse.ensures.1 c.refuse.ensures.2

pub judged-requires : goal.judged-requires
judged-requires c =
    let a = c.args in
    let e = c.text_fault.ensures ∙ ap₂ (λ (s t : List ℕ). text_refusal a.text.now s t) c.stops.view_is c.trips.view_is in
    record { target_value = (c.requires.target_value, passes c.in_default.is e) }
