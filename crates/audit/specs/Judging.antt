-- The parts of the check's answer. Assumes nothing.
use Rattle.std.specs.Prelude.{◌≡◌, true, List, [], ℕ, ◌/◌, ◌≤◌, ◌<◌, length}
use Rattle.journeys.specs.Tables.{Tables, tables_of, vertex_at}
use Rattle.journeys.specs.Records.{departing}
use Rattle.journeys.specs.Refusals as refusals
use Rattle.journeys.specs.Refusals.{unless, first_from, walk_ok, hop_ok, vertex_ok}
use Rattle.records.specs.Columns.{records_in, Ascending}
use Rattle.records.specs.declared.Kind.{Kind}
use Rattle.records.specs.declared.Kind.TheVariants.{Walks, Hops}

-- the lengths that refusal 1 leaves, where a hop has `size` bytes
pub record Sizes (size : ℕ) (vertices walks hops : List ℕ) : Type 0 where
  pub vertices_most : length vertices / 12 ≤ 65536
  pub walks_most : records_in 16 walks ≤ 262144
  pub hops_most : records_in size hops ≤ 262144
  pub hop_fits : 16 ≤ size

-- the records that refusals 2 to 5 leave: good, and in order
pub record Passed (size : ℕ) (vertices walks hops : List ℕ) : Type 0 where
  pub walks_good : (i : ℕ) → i < records_in 16 walks → walk_ok (tables_of size vertices walks hops) i ≡ true
  pub hops_good : (j : ℕ) → j < records_in size hops → hop_ok (tables_of size vertices walks hops) j ≡ true
  pub walks_ascend : Ascending 16 walks
  pub hops_ascend : Ascending size hops

-- every vertex record says how many records leave its vertex
pub record Counts (size : ℕ) (vertices walks hops : List ℕ) : Type 0 where
  pub says : (v : ℕ) → v < length vertices / 12 → (vertex_at vertices v).departing ≡ departing (tables_of size vertices walks hops) v

-- 2 and 3: the record i of the table of a kind; `size` is that of a hop
unfoldable pub record_fault : Kind → ℕ → List ℕ → List ℕ → ℕ → refusals.Refusal
record_fault Walks size vertices walks i = unless (walk_ok (tables_of 16 vertices walks []) i) 2 i
record_fault Hops size vertices hops i = unless (hop_ok (tables_of size vertices [] hops) i) 3 i

-- the first bad one of n vertices from v on
unfoldable pub vertex_refusals : Tables → ℕ → ℕ → refusals.Refusal
vertex_refusals N n v = first_from (λ x. unless (vertex_ok N x) 6 x) n v
