-- `queries::asked_fault` meets its contract: what the tables are refused for comes first. Assumes nothing.
use mathlib.Core.Path.{refl}
use Rattle.words.proofs.Chains.{stops, goes-on}
use Rattle.queries.proofs.asked_fault.Goals as goal

pub returns-in_err-fault : goal.returns-in_err-fault
returns-in_err-fault c = λ size v h. stops _ _ c.in_err-fault.was refl c.from_residual.ensures

pub returns : goal.returns
returns c = λ size v h. goes-on c.in_ok-fault.was refl (c.query_fault.ensures size v h)
