use Prim.Native.Nat.{◌≤◌}
use lib.ListN.{length}
use mathlib.Core.Path.{subst, sym, ap, ◌∙◌}
use Rattle.rows.proofs.Fields.{place-within}
use Rattle.rows.specs.Placed.{field_span}
use Rattle.lines.specs.Spans.{span_at}
use Rattle.rows.proofs.span_from.Goals as goal

pub span_at-requires : goal.span_at-requires
span_at-requires c = subst (λ n. n ≤ length c.args.line.now) (sym c.requires.1) (place-within _ _ c.requires.0)

pub returns : goal.returns
unfolding field_span
returns c = c.span_at.ensures ∙ ap (span_at _) c.requires.1
