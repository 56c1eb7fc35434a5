use Rattle.std.proofs.Common.{sym, ◌∙◌}
use Rattle.halts.proofs.Readings.{number-told, number-there}
use Rattle.halts.proofs.number_from.Goals as goal

pub unwrap-requires : goal.unwrap-requires
unwrap-requires c = number-there _ _ (sym c.number_from.ensures) c.requires.2

pub returns : goal.returns
returns c = number-told _ _ (sym c.number_from.ensures ∙ c.unwrap.ensures)
