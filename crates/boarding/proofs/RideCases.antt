-- The cases of time to change: the tables of specs/RideCases under one statement. Assumes nothing.
use mathlib.Core.Path.{◌≡◌, refl, ap, ◌∙◌}
use mathlib.Core.Bool.{Bool, true}
use mathlib.Core.List.{List}
use Rattle.journeys.specs.Counting.{In}
use Rattle.journeys.proofs.Cases.{every, same, same-is, tested, each-passes}
use Rattle.boarding.specs.Rides.{trip_at}
use Rattle.boarding.specs.RideAnswers.{RideAnswer, ride_early, ride_refused, list_room, ride_accepted, ride_over, RideAllowed}
use Rattle.boarding.specs.RideCases.{RideCase, line_vertices, line_for, short, broken, vehicles, rounds, between, mixed, walked, ride_runs, ride_refusals}
use Rattle.boarding.proofs.Links.{pass}
use Rattle.boarding.proofs.Boards.{stays_test, of_hop, road_at, boarded, aboard_in}
use Rattle.boarding.proofs.RideAnswers.{ride_computed, ride-is}

abbrev passes : RideCase → Bool
passes c = same (c.view (ride_computed c.lent c.query c.boarding c.limit)) c.want

unfoldable pub ride_tested : List RideCase → Bool
unfolding tested ride_computed ride_early ride_refused list_room ride_accepted ride_over trip_at pass stays_test of_hop road_at boarded aboard_in line_vertices line_for short broken vehicles rounds between mixed walked
ride_tested cs = every passes cs

runs : ride_tested ride_runs ≡ true
unfolding ride_tested ride_runs
runs = refl

refusals : ride_tested ride_refusals ≡ true
unfolding ride_tested ride_refusals
refusals = refl

-- In each row of a table that passes, whatever answer the definitions allow shows what the row says.
rides-hold : (cs : List RideCase) → ride_tested cs ≡ true → (c : RideCase) → In c cs → (a : RideAnswer) → RideAllowed c.lent c.query c.boarding c.limit a
    → c.view a ≡ c.want
unfolding ride_tested
rides-hold cs t c i a A = ap c.view (ride-is c.lent c.query c.boarding c.limit a A) ∙ same-is _ c.want (each-passes passes cs t c i)

pub ride-runs : (c : RideCase) → In c ride_runs → (a : RideAnswer) → RideAllowed c.lent c.query c.boarding c.limit a → c.view a ≡ c.want
ride-runs = rides-hold ride_runs runs

pub ride-refusals : (c : RideCase) → In c ride_refusals → (a : RideAnswer) → RideAllowed c.lent c.query c.boarding c.limit a → c.view a ≡ c.want
ride-refusals = rides-hold ride_refusals refusals
