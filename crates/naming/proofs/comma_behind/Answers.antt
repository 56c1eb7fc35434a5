use native.Mathlib.Omega.{arith}
use mathlib.Core.Path.{sym, ◌∙◌}
use Rattle.naming.proofs.Plainly.{plain-id}
use Rattle.naming.proofs.comma_behind.Goals as goal

pub returns : goal.returns
returns c =
    let a = c.args in
    λ t d. plain-id a.text.now a.name.now a.at (omega (arith, c.if-text-end.false)) c.if-text-end-ne44.false (sym c.plain_name.ensures ∙ t) d
