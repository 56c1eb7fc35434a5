-- `audit::hops_ok` meets its contract: the size decides before the table is asked. Assumes nothing.
use mathlib.Core.Path.{sym}
use Rattle.journeys.specs.Refusals.{hop_size_ok, table_of}
use Rattle.journeys.proofs.Tests.{and_left}
use Rattle.audit.proofs.hops_ok.Goals as goal

pub returns-then-size : goal.returns-then-size
unfolding hop_size_ok
returns-then-size c = rw c.if-size.true c.table_ok.ensures

pub returns : goal.returns
unfolding hop_size_ok
returns c =
    let a = c.args in
    sym (and_left (table_of a.size 0 262144 a.hops.now) c.if-size.false)
