-- `number_on`: a good line has a number in its second field.
use mathlib.Core.Path.{sym, ◌∙◌}
use Rattle.hopbytes.proofs.OutLaws.{second-field, value_read, number-there}
use Rattle.hopbytes.proofs.number_on.Goals as goal

pub number_in-requires : goal.number_in-requires
number_in-requires c = second-field _ c.requires

pub unwrap-requires : goal.unwrap-requires
unwrap-requires c = number-there _ c.requires _ (sym c.number_in.ensures)

pub returns : goal.returns
returns c = value_read _ c.requires (sym c.number_in.ensures ∙ c.unwrap.ensures)
