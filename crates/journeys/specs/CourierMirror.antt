-- Tables and a query turned round: what the courier's distances are beside the ordinary ones. Assumes nothing.
use Rattle.std.specs.Prelude.{[], ◌∷◌, ℕ, ◌+◌, ◌-◌}
use Rattle.journeys.specs.Counting.{joined}
use Rattle.journeys.specs.Tables.{Tables, Walk, Hop, walk, hop, walk_count, hop_count}
use Rattle.journeys.specs.Query.{Query, asked}

-- a walk the other way; a hop the other way, as long before T as it was behind it
abbrev pub turned_walk : Walk → Walk
turned_walk w = record { from = w.to; to = w.from; len = w.len; wait = w.wait; twin = w.twin }

abbrev pub turned_hop : ℕ → Hop → Hop
turned_hop T h = record { from = h.to; to = h.from; departure = (T + T) - h.arrival; arrival = (T + T) - h.departure }

-- every record turned; no journey asks for the order of the records or for the vertex table
unfoldable pub turned : Tables → Query → Tables
turned N Q =
    record {
      vertices = N.vertices;
      walks = joined (λ i. turned_walk (walk N i) ∷ []) (walk_count N);
      hops = joined (λ j. turned_hop Q.arrival (hop N j) ∷ []) (hop_count N);
    }

-- the same place, counted from the other end
unfoldable pub turned_query : Tables → Query → Query
turned_query N Q = record { walk = Q.walk; offset = (asked N Q).len - Q.offset; arrival = Q.arrival; duration = Q.duration; speed = Q.speed }
