use native.Mathlib.Omega.{arith}
use mathlib.Core.Path.{sym, ◌∙◌}
use Rattle.lines.proofs.Steps.{opens-within}
use Rattle.lines.proofs.Stands.{span-quoted, span-plain}
use Rattle.lines.proofs.span_at.Goals as goal

pub quoted_stop-requires : goal.quoted_stop-requires
quoted_stop-requires c = omega (arith, opens-within _ _ (sym c.opens.ensures ∙ c.if-opens.true))

pub returns-then-opens : goal.returns-then-opens
returns-then-opens c = span-quoted _ _ _ (sym c.opens.ensures ∙ c.if-opens.true) c.quoted_stop.ensures

pub returns : goal.returns
returns c = span-plain _ _ _ (sym c.opens.ensures ∙ c.if-opens.false) c.plain_stop.ensures
