-- A call of `siltbrow_run_boarding` beside other calls: one for the parts of its list, and one of `siltbrow_run` with the same tables, query and limit. Assumes nothing.
use Rattle.std.specs.Prelude.{◌≡◌, ◌*◌, ◌≤◌, length, take}
use Rattle.journeys.specs.Tables.{hop_count}
use Rattle.covering.specs.Lending.{parts_lent}
use Rattle.ride_demands.specs.RideCall.{RideCall, settled_count}
use Rattle.siltbrow.specs.Call.{Call, read}
use Rattle.siltbrow.specs.PartsCall.{PartsCall}

-- The second call has the tables and the query of the first; its list is the counted records of the settled bytes, and the zero tail stays behind.
pub record RideFollows (c : RideCall) (p : PartsCall) : Type 0 where
  pub lent : p.lent ≡ parts_lent c.lent.vertices c.lent.walks c.lent.hops c.lent.hop_size (take (8 * settled_count c) c.settled) p.lent.parts
  pub query : p.query ≡ c.query

-- The second call has the tables, the settled buffer, the query and the limit of the first, a boarding time of 0, and scratch enough.
pub record NoBoarding (c : Call) (r : RideCall) : Type 0 where
  pub vertices : r.lent.vertices ≡ c.lent.vertices
  pub walks : r.lent.walks ≡ c.lent.walks
  pub hops : r.lent.hops ≡ c.lent.hops
  pub hop_size : r.lent.hop_size ≡ c.lent.hop_size
  pub settled : r.lent.settled ≡ c.lent.settled
  pub query : r.query ≡ c.query
  pub boarding : r.boarding ≡ 0
  pub limit : r.limit ≡ c.limit
  pub enough : 4 * hop_count (read c) ≤ length r.lent.scratch
