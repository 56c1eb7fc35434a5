use Rattle.std.proofs.Common.{ap, ◌∙◌}
use Rattle.feed.specs.Fields.{same}
use Rattle.lines.proofs.Spans.{span-within}
use Rattle.header.proofs.Names.{name-is}
use Rattle.header.proofs.named.Goals as goal

pub bytes-requires : goal.bytes-requires
bytes-requires c = span-within _ _ _ c.requires.at_in_bounds.0 c.span_at-span.ensures

pub returns : goal.returns
returns c =
    c.same_bytes.ensures ∙ ap (same c.args.name.now) c.bytes.ensures ∙ name-is _ _ _ _ c.requires.at_in_bounds.1 c.requires.name_value c.span_at-span.ensures
