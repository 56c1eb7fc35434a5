-- A vertex's arriving records: one unbroken run of the walk table or of the hop table. Assumes nothing.
use Rattle.std.specs.Prelude.{cond, List, ℕ, ◌+◌, ◌-◌, ◌*◌, ◌/◌, ltb, length, take, drop}
use Rattle.journeys.specs.Tables.{Vertex, vertex_at}
use Rattle.records.specs.declared.Kind.{Kind}
use Rattle.records.specs.declared.Kind.TheVariants.{Walks, Hops}

-- the table of a kind, and the field of a vertex that counts its records before those of the vertex
unfoldable pub table_of : Kind → List ℕ → List ℕ → List ℕ
table_of Walks walks hops = walks
table_of Hops walks hops = hops

-- the size of its records
unfoldable pub size_of : Kind → ℕ → ℕ
size_of Walks hop_size = 16
size_of Hops hop_size = hop_size

unfoldable pub first_of : Kind → Vertex → ℕ
first_of Walks x = x.first_walk
first_of Hops x = x.first_hop

-- the run of v ends where that of v + 1 begins, or behind the last record
unfoldable pub end_of : Kind → List ℕ → ℕ → ℕ → ℕ
end_of kind vertices records v = cond (ltb (v + 1) (length vertices / 12)) (first_of kind (vertex_at vertices (v + 1))) records

-- of records of a size those from one number to another
unfoldable pub run : ℕ → List ℕ → ℕ → ℕ → List ℕ
run size table first end = take (size * end - size * first) (drop (size * first) table)
