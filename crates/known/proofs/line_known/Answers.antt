use mathlib.Core.Path.{sym, ap, ◌∙◌}
use mathlib.Core.Bool.{not}
use lib.Dec.{eqb}
use Rattle.known.proofs.Lookups.{has-field, listed-is, empty-none, empty-some, counted-some, or-true, or-false}
use Rattle.known.proofs.line_known.Goals as goal

pub returns-then-line-eq0 : goal.returns-then-line-eq0
returns-then-line-eq0 c = or-true _ (empty-none _ c.if-line-eq0.true)

pub listed_at-requires : goal.listed_at-requires
listed_at-requires c =
    let p = c.requires in
    has-field _ _ _ (counted-some _ _ p.line_value c.if-line-eq0.false) p.list_good.1

pub returns : goal.returns
returns c =
    let p = c.requires in
    or-false (empty-some _ c.if-line-eq0.false) (ap (λ r. not (eqb r 0)) c.listed_at.ensures ∙ sym (listed-is _ _ _ _ p.list_good.0 (has-field _ _ _ (counted-some _ _ p.line_value c.if-line-eq0.false) p.list_good.1)))
