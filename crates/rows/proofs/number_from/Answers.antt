use Rattle.std.proofs.Common.{ap, ◌∙◌}
use Rattle.values.specs.Readings.{number_read}
use Rattle.rows.proofs.Fields.{within, as_number}
use Rattle.rows.proofs.number_from.Goals as goal

pub bytes-requires : goal.bytes-requires
bytes-requires c = within _ _ c.requires.0 _ c.span_from-span.ensures

pub returns : goal.returns
returns c = c.read_number.ensures ∙ ap (number_read c.args.most) c.bytes.ensures ∙ as_number _ _ c.requires.0 _ c.span_from-span.ensures _
