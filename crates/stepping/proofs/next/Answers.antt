use mathlib.Core.Path.{sym, subst}
use Rattle.stepping.specs.Taken.{NextIs}
use Rattle.stepping.proofs.NextEntry.{next-none, next-beyond, next-at}
use Rattle.stepping.proofs.next.Goals as goal

pub returns-in_err-nearest : goal.returns-in_err-nearest
returns-in_err-nearest c = subst (NextIs _ _ _) (sym c.from_residual.ensures) (next-none _ _ _ _ c.least.ensures c.in_err-nearest.was)

pub returns-then-allowed-nearest : goal.returns-then-allowed-nearest
returns-then-allowed-nearest c = next-beyond _ _ _ _ c.least.ensures _ c.in_ok-nearest.was c.if-allowed-nearest.true

pub returns : goal.returns
returns c = next-at _ _ _ _ c.least.ensures _ c.in_ok-nearest.was c.if-allowed-nearest.false
