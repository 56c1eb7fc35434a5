use Rattle.std.proofs.Common.{sym, ap, ◌∙◌, eq-eqb, ne_eqb}
use Rattle.values.specs.Readings.{time_read}
use Rattle.rows.proofs.Fields.{within, as-time, as-blank}
use Rattle.stops.proofs.StopLines.{blank-good, time-told}
use Rattle.stops.proofs.time_or_blank.Goals as goal

pub returns-then-span : goal.returns-then-span
returns-then-span c =
    sym (blank-good _ (sym (as-blank _ _ c.requires.0 _ c.span_from-span.ensures) ∙ eq-eqb _ _ c.if-span.true))

pub bytes-requires : goal.bytes-requires
bytes-requires c = within _ _ c.requires.0 _ c.span_from-span.ensures

pub returns : goal.returns
returns c =
    let h = c.requires.0 in
    let e = c.span_from-span.ensures in
    c.is_some.ensures
    ∙ time-told _ _ (sym (as-blank _ _ h _ e) ∙ ne_eqb _ _ c.if-span.false) (sym (c.read_time.ensures ∙ ap time_read c.bytes.ensures ∙ as-time _ _ h _ e))
