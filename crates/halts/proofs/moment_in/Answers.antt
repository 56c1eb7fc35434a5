use Rattle.std.proofs.Common.{sym, ap, ◌∙◌}
use Rattle.values.specs.Readings.{time_read}
use Rattle.rows.proofs.Fields.{within, as-time}
use Rattle.halts.proofs.Readings.{moment-read}
use Rattle.halts.proofs.moment_in.Goals as goal

pub bytes-requires : goal.bytes-requires
bytes-requires c = within _ _ c.requires.0 _ c.span_from-span.ensures

pub returns : goal.returns
returns c =
    moment-read _ _ (sym (c.read_time.ensures ∙ ap time_read c.bytes.ensures ∙ as-time _ _ c.requires.0 _ c.span_from-span.ensures)) c.requires.1
