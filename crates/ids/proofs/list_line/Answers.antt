use Rattle.std.proofs.Common.{sym, ◌∙◌}
use Rattle.ids.proofs.ListLines.{not-two, second-told}
use Rattle.ids.proofs.list_line.Goals as goal

pub returns-then-not-has_fields : goal.returns-then-not-has_fields
returns-then-not-has_fields c = sym (not-two _ _ (sym c.if-not-has_fields.ensures))

pub returns : goal.returns
returns c = c.is_some.ensures ∙ second-told _ _ (sym c.if-not-has_fields.ensures) _ (sym c.number_in.ensures)
