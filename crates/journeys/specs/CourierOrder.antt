-- The courier's order of settling, RULES 27: the order of RULES 8.1 over the courier's network and distances. Assumes nothing.
use Rattle.std.specs.Prelude.{List}
use Rattle.journeys.specs.Tables.{Tables}
use Rattle.journeys.specs.Query.{Query, allowed}
use Rattle.journeys.specs.Order.{Settled, Order}
use Rattle.journeys.specs.CourierJourneys.{CourierDistance}
use Rattle.journeys.specs.CourierRecords.{network}

-- l is the courier's order of settling for these tables and this query: a vertex may follow S if a seed, or a record from S, offers its distance
abbrev pub IsCourierOrder : Tables → Query → List Settled → Type 0
IsCourierOrder N Q l = Order (network N Q) (CourierDistance N Q) (allowed Q) l
