use Rattle.std.proofs.Common.{ap, ◌∙◌}
use Rattle.rows.proofs.Fields.{within}
use Rattle.naming.specs.Named.{found_from}
use Rattle.known.proofs.Lookups.{bytes-between}
use Rattle.known.proofs.listed_from.Goals as goal

pub bytes-requires : goal.bytes-requires
bytes-requires c = within _ _ c.requires.0 _ c.span_from-span.ensures

pub returns : goal.returns
returns c = c.find.ensures ∙ ap (found_from c.args.list.now 0) c.bytes.ensures ∙ bytes-between _ _ _ _ c.span_from-span.ensures
