-- The network of either direction is one that a search may go through. Assumes nothing.
use mathlib.Core.Path.{◌≡◌, refl}
use mathlib.Core.Bool.{Bool, true, false}
use mathlib.Core.List.{List}
use Prim.Native.Nat.{ℕ, ◌≤◌, ◌<◌}
use native.Mathlib.Omega.{arith}
use borrow.Author.Tests.{ne_eqb}
use Rattle.journeys.specs.Tables.{Tables}
use Rattle.journeys.specs.Query.{Query, allowed, asked}
use Rattle.journeys.specs.Network.{Network}
use Rattle.journeys.specs.Order.{Settled, Order, IsOrder}
use Rattle.journeys.specs.CourierOrder.{IsCourierOrder}
use Rattle.journeys.specs.Journeys.{Distance}
use Rattle.journeys.specs.CourierJourneys.{CourierDistance}
use Rattle.journeys.specs.Records as records
use Rattle.journeys.specs.CourierRecords as courier
use Rattle.journeys.specs.Valid.{Valid}
use Rattle.journeys.proofs.Ways.{Ways}
use Rattle.journeys.proofs.Tests.{and_left}
use Rattle.journeys.proofs.Valid.{good-walk}
use Rattle.journeys.proofs.Document as ordinary
use Rattle.journeys.proofs.CourierDocument as sent
use Rattle.heldmap.specs.Directions.{network_in, distance_for}
use Rattle.heldmap.proofs.HeldMap.{Bounded}
use Rattle.heldmap.proofs.StepIsNext.{Searched}

-- No vertex beyond the table is a seed, and no record leaves one.
pub bounded-is : (N : Tables) (Q : Query) → Valid N Q → Bounded (records.network N Q)
unfolding records.seed
bounded-is N Q ok =
    let g = good-walk N ok.tables Q.walk ok.query.walk_low in
    (λ u h. rw (ne_eqb (asked N Q).from u (omega (arith, g.from_low)), ne_eqb (asked N Q).to u (omega (arith, g.to_low))) (omega arith), (ordinary.laws N Q ok).from_low)

courier-bounded : (N : Tables) (Q : Query) → Valid N Q → Bounded (courier.network N Q)
unfolding courier.seed
courier-bounded N Q ok =
    let g = good-walk N ok.tables Q.walk ok.query.walk_low in
    (λ u h. rw (ne_eqb (asked N Q).from u (omega (arith, g.from_low)), ne_eqb (asked N Q).to u (omega (arith, g.to_low))) (omega arith), (sent.laws N Q ok).from_low)

-- the journeys of either direction
unfoldable pub ways_in : Bool → Tables → Query → Ways
ways_in true N Q = sent.ways N Q
ways_in false N Q = ordinary.ways N Q

pub searched : (c : Bool) (N : Tables) (Q : Query) → Valid N Q → Searched (network_in c N Q) (ways_in c N Q) (distance_for c N Q)
unfolding ways_in distance_for
searched true N Q ok = record { told = sent.told N Q ok; loopless = sent.loopless N Q ok; bounded = courier-bounded N Q ok }
searched false N Q ok = record { told = ordinary.told N Q ok; loopless = ordinary.loopless N Q ok; bounded = bounded-is N Q ok }

-- The orders of settling are the two of the definitions.
pub ordinary-order : (N : Tables) (Q : Query) (l : List Settled) → Order (network_in false N Q) (distance_for false N Q) (allowed Q) l ≡ IsOrder N Q l
unfolding distance_for
ordinary-order N Q l = refl

pub courier-order : (N : Tables) (Q : Query) (l : List Settled) → Order (network_in true N Q) (distance_for true N Q) (allowed Q) l ≡ IsCourierOrder N Q l
unfolding distance_for
courier-order N Q l = refl
