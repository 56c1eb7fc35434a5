-- `short::touch_one` meets its contract: the record is passed, and who is spent goes. Assumes nothing.
use mathlib.Core.Path.{ap, ◌∙◌}
use lib.ListN.{set}
use Rattle.journeys.specs.Counting.{one}
use Rattle.worktable.specs.Map.{Entry, put, touched, swept}
use Rattle.worktable.specs.Table.{map_of}
use Rattle.worktable.proofs.PassLaws.{gives_at, gives-twice}
use Rattle.meeting.proofs.Leading as le
use Rattle.surveys.proofs.TouchThenSweep.{touched-missing}
use Rattle.short.proofs.RowOfStep.{told-missing}
use Rattle.short.proofs.touch_one.Goals as goal

pub drop_spent-requires : goal.drop_spent-requires
drop_spent-requires c =
    let a = c.args in
    let p = c.pass-told in
    (p.ensures.gives.holds.order, le.told-there a.allowed.0 a.t a.held.now a.u a.offer.0 p.ensures.gives p.result p.ensures.passed_is)

pub returns : goal.returns
returns c =
    let a = c.args in
    let p = c.pass-told in
    let e = map_of a.t a.held.now a.u in
    let x = touched a.offer.0 e in
    let h = p.new.b in record {
      leads = le.leads-same c.drop_spent.ensures
          (ap (λ (y : Entry). put (map_of a.t h) a.u (swept a.allowed.0 y)) (gives_at a.u x p.ensures.gives) ∙ gives-twice a.u x (swept a.allowed.0 x) p.ensures.gives);
      marks_after = ap (set a.marks.now a.j) (c.new_mark.ensures ∙ ap one (told-missing a.allowed.0 a.t h a.u x p.result p.ensures.passed_is ∙ touched-missing a.offer.0 e));
    }
