-- The network of either direction: the ordinary one, and the courier's. Assumes nothing.
use Rattle.std.specs.Prelude.{Bool, true, false, cond, ℕ}
use Rattle.journeys.specs.Tables.{Tables, vertex_count}
use Rattle.journeys.specs.Query.{Query, allowed}
use Rattle.journeys.specs.Network.{Network}
use Rattle.journeys.specs.Journeys.{Distance}
use Rattle.journeys.specs.CourierJourneys.{CourierDistance}
use Rattle.journeys.specs.Records.{from, to, seed, offer, record_count, record_at}
use Rattle.journeys.specs.CourierRecords as courier

-- the courier's where `c` is true; what both have in common is the same whatever it is
abbrev pub network_in : Bool → Tables → Query → Network
network_in c N Q =
    record {
      vertices = vertex_count N;
      records = record_count N;
      allowed = allowed Q;
      from = λ r. cond c (to (record_at N r)) (from (record_at N r));
      to = λ r. cond c (from (record_at N r)) (to (record_at N r));
      seed = λ v. cond c (courier.seed N Q v) (seed N Q v);
      offer = λ r d. cond c (courier.offer Q (record_at N r) d) (offer Q (record_at N r) d);
    }

-- and its distances
unfoldable pub distance_for : Bool → Tables → Query → ℕ → ℕ → Type 0
distance_for true N Q = CourierDistance N Q
distance_for false N Q = Distance N Q
