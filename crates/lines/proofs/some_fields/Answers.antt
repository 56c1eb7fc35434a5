use native.Mathlib.Omega.{arith}
use mathlib.Core.Path.{sym, ◌∙◌}
use Rattle.lines.proofs.Steps.{opens-within}
use Rattle.lines.proofs.some_fields.Goals as goal

pub quoted-requires : goal.quoted-requires
quoted-requires c = let q = sym c.opens.ensures ∙ c.if-opens.true in record {
  at_in_bounds = (opens-within _ _ q, omega arith);
  at_value = q;
}
