-- `audit::vertex_records` meets its contract: all vertices are good, or those before the block at which the exact check begins. Assumes nothing.
use mathlib.Core.Path.{sym}
use Prim.Native.Nat.{◌/◌}
use lib.ListN.{length}
use Rattle.journeys.specs.Tables.{tables_of}
use Rattle.audit.proofs.Vertices.{all-good}
use Rattle.audit.proofs.Whole.{walks-low, hops-low}
use native.Mathlib.Omega.{arith}
use Rattle.audit.proofs.vertex_records.Goals as goal

pub returns-then-sure-vertices : goal.returns-then-sure-vertices
returns-then-sure-vertices c =
    let a = c.args in
    let n = length a.vertices.now / 12 in
    sym (all-good (tables_of a.hop_size a.vertices.now a.walks.now a.hops.now) n (λ v l. c.sure-sure.ensures.1 v (omega (arith, c.if-sure-vertices.true))))

pub note_ranges-requires : goal.note_ranges-requires
note_ranges-requires c =
    let a = c.args in
    let few = c.requires.sizes in
    let ok = c.requires.passed in record {
      walks_bound = (few.walks_most, few.hops_most, omega (arith, c.sure-sure.auto), omega (arith, few.hop_fits));
      low = (
        walks-low a.hop_size a.vertices.now a.walks.now a.hops.now few.vertices_most ok,
        hops-low a.hop_size a.vertices.now a.walks.now a.hops.now few.vertices_most ok,
      );
    }
