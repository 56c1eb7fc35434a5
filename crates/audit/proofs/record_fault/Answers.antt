-- `audit::record_fault` meets its contract: each return is what the reader of its kind answers. Assumes nothing.
use mathlib.Core.Path.{◌≡◌, sym, ◌∙◌}
use mathlib.Core.List.{[]}
use Rattle.journeys.specs.Tables.{tables_of}
use Rattle.journeys.specs.Refusals.{walk_ok, hop_ok}
use Rattle.journeys.proofs.Refusals.{unless-fine, unless-good, unless-bad}
use Rattle.records.specs.Arriving.{size_of}
use Rattle.records.proofs.Answered.{good-walk, bad-walk, good-hop, bad-hop}
use Rattle.audit.specs.Judging.{record_fault}
use native.Mathlib.Omega.{arith}
use Rattle.audit.proofs.record_fault.Goals as goal

pub read_walk-requires : goal.read_walk-requires
unfolding record_fault size_of
read_walk-requires c =
    let a = c.args in
    let e : a.size ≡ 16 = rw c.in-Walks.is at c.requires.le_size.1 in record {
      i_bound = rw e at c.requires.i_bound;
      by_index = λ k l. unless-fine (walk_ok (tables_of 16 a.vertices.now a.table.now []) k) 2 k (omega arith) (rw c.in-Walks.is at (c.requires.by_index k l));
    }

pub returns-in_default : goal.returns-in_default
unfolding record_fault
returns-in_default c =
    let a = c.args in
    let N = tables_of 16 a.vertices.now a.table.now [] in
    rw c.in-Walks.is (c.refused.ensures.told ∙ sym (unless-bad (walk_ok N a.i) 2 a.i (bad-walk N a.i c.read_walk.ensures c.in_default.is)))

pub returns-in_default-read_hop : goal.returns-in_default-read_hop
unfolding record_fault
returns-in_default-read_hop c =
    let a = c.args in
    let N = tables_of a.size a.vertices.now [] a.table.now in
    rw c.in-Hops.is (c.refused-in_default-read_hop.ensures.told ∙ sym (unless-bad (hop_ok N a.i) 3 a.i (bad-hop N a.i c.read_hop.ensures c.in_default-read_hop.is)))

pub returns-in-Ok : goal.returns-in-Ok
unfolding record_fault
returns-in-Ok c =
    let a = c.args in
    let N = tables_of 16 a.vertices.now a.table.now [] in
    rw c.in-Walks.is (sym (unless-good (walk_ok N a.i) 2 a.i (good-walk N a.i c.read_walk.ensures c.in-Ok.is)))

pub returns-in-Ok-read_hop : goal.returns-in-Ok-read_hop
unfolding record_fault
returns-in-Ok-read_hop c =
    let a = c.args in
    let N = tables_of a.size a.vertices.now [] a.table.now in
    rw c.in-Hops.is (sym (unless-good (hop_ok N a.i) 3 a.i (good-hop N a.i c.read_hop.ensures c.in-Ok-read_hop.is)))
