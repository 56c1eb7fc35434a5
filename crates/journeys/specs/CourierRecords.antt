-- Walks and hops as the courier's network, RULES 27.3 and 27.4: a record leads from its "to" back to its "from", and offers "to" the time at which the courier is there. Assumes nothing.
-- The query is that of `Query`; its second T, there the arrival, is here the departure.
use Rattle.std.specs.Prelude.{not, cond, ◌&&◌, ◌||◌, ℕ, ◌+◌, ◌-◌, min, eqb, leb}
use Rattle.journeys.specs.Counting.{none, count}
use Rattle.journeys.specs.Tables.{Tables, vertex_count}
use Rattle.journeys.specs.Query.{Query, allowed, asked, asked_twin, wait_ticks, walk_ticks}
pub use Rattle.journeys.specs.Query.{after}
use Rattle.journeys.specs.Network.{Network}
use Rattle.journeys.specs.Records.{Record, walked, ridden, from, to, record_count, record_at}

-- A walk offers the near distance plus its ticks; a hop whose departure is not before T and the near distance offers its arrival less T.
unfoldable pub offer : Query → Record → ℕ → ℕ
offer Q (walked w) d = d + walk_ticks Q w
offer Q (ridden h) d = cond (leb Q.arrival h.departure && leb d (after Q h.departure)) (after Q h.arrival) none

-- walks and hops that arrive at v
unfoldable pub arriving : Tables → ℕ → ℕ
arriving N v = count (λ r. eqb (to (record_at N r)) v) (record_count N)

-- what it takes from the query place to "to" of e, and along its twin to "from": the wait is passed from every place but that end itself
abbrev pub on_ticks : Tables → Query → ℕ
on_ticks N Q = cond (eqb Q.offset (asked N Q).len) 0 (((asked N Q).len - Q.offset) + wait_ticks Q (asked N Q))

abbrev pub back_ticks : Tables → Query → ℕ
back_ticks N Q = cond (eqb Q.offset 0) 0 (Q.offset + wait_ticks Q (asked_twin N Q))

-- where the courier comes first: "to" of e; "from" if e has a twin or the offset is 0
unfoldable pub seed : Tables → Query → ℕ → ℕ
seed N Q v =
    let e = asked N Q in
    min (cond (eqb e.to v) (on_ticks N Q) none)
    (cond (eqb e.from v && (not (eqb e.twin none) || eqb Q.offset 0)) (back_ticks N Q) none)

-- the same network theory with the ends exchanged: what is "from" there is "to" here
abbrev pub network : Tables → Query → Network
network N Q =
    record {
      vertices = vertex_count N;
      records = record_count N;
      allowed = allowed Q;
      from = λ r. to (record_at N r);
      to = λ r. from (record_at N r);
      seed = seed N Q;
      offer = λ r. offer Q (record_at N r);
    }
