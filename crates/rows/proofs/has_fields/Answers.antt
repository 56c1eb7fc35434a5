use mathlib.Core.Path.{sym, ◌∙◌}
use Rattle.rows.proofs.Fields.{ended-these, longer-these, broken-these}
use Rattle.rows.proofs.has_fields.Goals as goal

pub returns-in-Ended : goal.returns-in-Ended
returns-in-Ended c = sym (ended-these _ _ _ (sym c.pass-all.ensures ∙ c.in-Ended.is))

pub returns-in-Begins : goal.returns-in-Begins
returns-in-Begins c = sym (longer-these _ _ _ (sym c.pass-all.ensures ∙ c.in-Begins.is))

pub returns-in-Broken : goal.returns-in-Broken
returns-in-Broken c = sym (broken-these _ _ _ (sym c.pass-all.ensures ∙ c.in-Broken.is))
