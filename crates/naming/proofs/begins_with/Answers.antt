use Rattle.std.proofs.Common.{arith, ap, ◌∙◌}
use Rattle.feed.specs.Fields.{same}
use Rattle.lines.proofs.Spans.{span-within}
use Rattle.naming.proofs.Places.{first-bytes}
use Rattle.naming.proofs.begins_with.Goals as goal

pub bytes-requires : goal.bytes-requires
bytes-requires c = span-within _ 0 _ (omega arith) c.span_at-span.ensures

pub returns : goal.returns
returns c = c.same_bytes.ensures ∙ ap (same c.args.name.now) c.bytes.ensures ∙ first-bytes _ _ _ c.span_at-span.ensures
