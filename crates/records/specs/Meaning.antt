-- The structs that hold what `journeys` decodes: the same numbers, seconds as signed ones from midnight. Assumes nothing.
use Rattle.std.specs.Prelude.{ℕ, pos, nat_abs}
use Rattle.journeys.specs.Tables as tables
use Rattle.words.specs.declared.Seconds.{Seconds}
use Rattle.words.specs.declared.Offset.{Offset}
use Rattle.words.specs.Quantities.{seconds_of}
use Rattle.records.specs.declared.Vertex.{Vertex}
use Rattle.records.specs.declared.Walk.{Walk}
use Rattle.records.specs.declared.Hop.{Hop}
use Rattle.records.specs.declared.Answer.{Answer}

-- decimetres, and a span of seconds
abbrev pub offset_of : ℕ → Offset
offset_of x = record { 0 = x }

abbrev pub span_of : ℕ → Seconds
span_of seconds = record { 0 = pos seconds }

abbrev pub vertex_of : tables.Vertex → Vertex
vertex_of x = record { first_walk = x.first_walk; first_hop = x.first_hop; departing = x.departing; zeros = x.zeros }

abbrev pub walk_of : tables.Walk → Walk
walk_of w = record { from = w.from; to = w.to; len = offset_of w.len; wait = span_of w.wait; twin = w.twin }

-- the other way
abbrev pub walk_in : Walk → tables.Walk
walk_in w = record { from = w.from; to = w.to; len = w.len.0; wait = nat_abs w.wait.0; twin = w.twin }

abbrev pub hop_of : tables.Hop → Hop
hop_of h = record { from = h.from; to = h.to; departure = seconds_of h.departure; arrival = seconds_of h.arrival }

-- an answer that refuses
abbrev pub refusal_of : ℕ → ℕ → Answer
refusal_of number place = record { refusal = number; place = place; settled = 0; parts = 0; held = 0; finished = 0 }
