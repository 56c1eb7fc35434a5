-- Walks and hops as a network, RULES 8.3 and 8.4: walks are numbered first, then hops. Assumes nothing.
use Rattle.std.specs.Prelude.{not, cond, ◌&&◌, ◌||◌, ℕ, ◌+◌, ◌-◌, min, eqb, leb, ltb}
use Rattle.journeys.specs.Counting.{none, count}
use Rattle.journeys.specs.Tables.{Tables, Walk, Hop, walk, hop, vertex_count, walk_count, hop_count}
use Rattle.journeys.specs.Query.{Query, allowed, before, asked, walk_ticks, from_ticks, to_ticks}
use Rattle.journeys.specs.Network.{Network}

pub data Record : Type 0 where
  walked : Walk → Record
  ridden : Hop → Record

abbrev pub from : Record → ℕ
from (walked w) = w.from
from (ridden h) = h.from

abbrev pub to : Record → ℕ
to (walked w) = w.to
to (ridden h) = h.to

-- A walk offers the far distance plus its ticks; a hop whose arrival is not after T less the far distance offers T less its departure.
unfoldable pub offer : Query → Record → ℕ → ℕ
offer Q (walked w) d = d + walk_ticks Q w
offer Q (ridden h) d = cond (leb h.arrival Q.arrival && leb d (before Q h.arrival)) (before Q h.departure) none

abbrev pub record_count : Tables → ℕ
record_count N = walk_count N + hop_count N

unfoldable pub record_at : Tables → ℕ → Record
record_at N r = cond (ltb r (walk_count N)) (walked (walk N r)) (ridden (hop N (r - walk_count N)))

-- walks and hops that leave v
unfoldable pub departing : Tables → ℕ → ℕ
departing N v = count (λ r. eqb (from (record_at N r)) v) (record_count N)

-- the query ends: "from" of e; "to" if e has a twin or the offset is the length
unfoldable pub seed : Tables → Query → ℕ → ℕ
seed N Q v =
    let e = asked N Q in
    min (cond (eqb e.from v) (from_ticks N Q) none)
    (cond (eqb e.to v && (not (eqb e.twin none) || eqb Q.offset e.len)) (to_ticks N Q) none)

abbrev pub network : Tables → Query → Network
network N Q =
    record {
      vertices = vertex_count N;
      records = record_count N;
      allowed = allowed Q;
      from = λ r. from (record_at N r);
      to = λ r. to (record_at N r);
      seed = seed N Q;
      offer = λ r. offer Q (record_at N r);
    }
