use Rattle.std.proofs.Common.{arith, ap, ◌∙◌}
use Rattle.lines.proofs.Spans.{span-within}
use Rattle.naming.specs.Named.{first_bytes}
use Rattle.naming.proofs.Places.{bytes-are}
use Rattle.idtable.proofs.graft_line.Goals as goal

pub bytes-requires : goal.bytes-requires
bytes-requires c = span-within _ 0 _ (omega arith) c.span_at-span.ensures

pub graft-requires : goal.graft-requires
graft-requires c =
    let p = c.requires in record {
      table_len = p.table_len;
      place_value = (p.place_value.0, c.bytes.ensures ∙ bytes-are _ _ c.span_at-span.ensures ∙ ap first_bytes p.place_value.1, p.place_value.2);
    }
