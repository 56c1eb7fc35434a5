-- `audit::whole_fault` meets its contract: the contents are judged where the lengths are right. Assumes nothing.
use Rattle.journeys.specs.Refusals.{check, contents}
use Rattle.journeys.specs.Tables.{tables_of}
use Rattle.words.proofs.Chains.{passes, stops, goes-on}
use Rattle.audit.proofs.Whole.{sizes}
use Rattle.audit.proofs.whole_fault.Goals as goal

pub returns-in_err-lengths : goal.returns-in_err-lengths
unfolding check
returns-in_err-lengths c =
    let a = c.args in
    stops _ (contents (tables_of a.hop_size a.vertices.now a.walks.now a.hops.now)) c.in_err-lengths.was c.lengths.ensures c.from_residual.ensures

pub first_fault-requires : goal.first_fault-requires
first_fault-requires c =
    let a = c.args in record {
      sizes = sizes a.hop_size a.vertices.now a.walks.now a.hops.now (passes c.in_ok-lengths.was c.lengths.ensures);
      scratch_len = (c.requires, λ e. cc);
    }

pub returns : goal.returns
unfolding check
returns c = goes-on c.in_ok-lengths.was c.lengths.ensures c.first_fault.ensures
