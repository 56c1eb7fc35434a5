-- Time to change, as one table: stops that are farther than the ride, trips, rides of no minutes, every limit, refusals and what they leave. Assumes nothing.
use mathlib.Core.List.{List, [], ◌∷◌, ◌++◌, flat_map}
use Rattle.std.specs.Prelude.{ℕ, ◌+◌, ◌*◌, replicate, take}
use Rattle.journeys.specs.Counting.{none}
use Rattle.journeys.specs.Bytes.{word}
use Rattle.journeys.specs.Query.{Query}
use Rattle.journeys.specs.Marked.{vertex_bytes, ask, words}
use Rattle.journeys.specs.Moments.{road}
use Rattle.boarding.specs.RideAnswers.{RideLent, RideAnswer}

-- a run with a boarding time at a limit, and what a row looks at
pub record RideCase : Type 0 where
  pub lent : RideLent
  pub query : Query
  pub boarding : ℕ
  pub limit : ℕ
  pub view : RideAnswer → List ℕ
  pub want : List ℕ

abbrev pub given : RideLent → Query → ℕ → ℕ → (RideAnswer → List ℕ) → List ℕ → RideCase
given lent query boarding limit view want = record { lent = lent; query = query; boarding = boarding; limit = limit; view = view; want = want }

abbrev pub ride_numbers : RideAnswer → List ℕ
ride_numbers a = a.refusal ∷ a.place ∷ a.settled_count ∷ a.part_count ∷ a.held_count ∷ a.finished ∷ []

abbrev pub ride_settled : RideAnswer → List ℕ
ride_settled a = take (2 * a.settled_count) (words a.settled)

-- every byte of both buffers
abbrev pub ride_left : RideAnswer → List ℕ
ride_left a = a.settled ++ a.scratch

abbrev pub refused_ride : ℕ → ℕ → List ℕ
refused_ride number place = number ∷ place ∷ 0 ∷ 0 ∷ 0 ∷ 0 ∷ []

-- a hop with its trip
abbrev pub ride : ℕ → ℕ → ℕ → ℕ → ℕ → List ℕ
ride from to departure arrival trip = from ∷ to ∷ departure ∷ arrival ∷ trip ∷ []

-- hops of 20 bytes, room for so many settled vertices, and a scratch of so many bytes, none of it clean
abbrev pub lend_rides : List ℕ → List ℕ → List ℕ → ℕ → ℕ → RideLent
lend_rides vertices walks hops room scratch =
    record { vertices = vertices; walks = flat_map word walks; hops = flat_map word hops; hop_size = 20; settled = replicate (8 * room) 7; scratch = replicate scratch 7 }

-- 0 rides to 1 and 1 to the place, vertex 2, to which 3 walks
unfoldable pub line_vertices : List ℕ
line_vertices = vertex_bytes 0 0 1 ++ vertex_bytes 0 0 1 ++ vertex_bytes 0 1 0 ++ vertex_bytes 1 2 1

unfoldable pub line_for : ℕ → ℕ → ℕ → ℕ → ℕ → ℕ → ℕ → RideLent
line_for arrival departure last t u room scratch =
    lend_rides line_vertices (road 3 2 1000) (ride 0 1 35900 arrival t ++ ride 1 2 departure last u) room scratch

abbrev pub line : ℕ → ℕ → ℕ → ℕ → ℕ → RideLent
line arrival departure last t u = line_for arrival departure last t u 4 8

abbrev pub rooms : ℕ → ℕ → RideLent
rooms = line_for 35940 35950 35990 7 7

-- the same with hops of 16 bytes
unfoldable pub short : ℕ → ℕ → ℕ → RideLent
short arrival departure last =
    record {
      vertices = line_vertices;
      walks = flat_map word (road 3 2 1000);
      hops = flat_map word (0 ∷ 1 ∷ 35900 ∷ arrival ∷ 1 ∷ 2 ∷ departure ∷ last ∷ []);
      hop_size = 16;
      settled = replicate 32 7;
      scratch = replicate 8 7;
    }

-- with bytes too many in the list buffer, and an arrival of the first hop
unfoldable pub broken : ℕ → ℕ → RideLent
broken more arrival =
    record {
      vertices = line_vertices;
      walks = flat_map word (road 3 2 1000);
      hops = flat_map word (ride 0 1 35900 arrival 7 ++ ride 1 2 35950 35990 7);
      hop_size = 20;
      settled = replicate (32 + more) 7;
      scratch = replicate 7 7;
    }

-- both hops at one second
abbrev pub at_once : ℕ → RideLent
at_once t = lend_rides line_vertices (road 3 2 1000) (ride 0 1 35980 35980 t ++ ride 1 2 35980 35980 t) 4 8

-- of the two hops from 1 the earlier leaves before the hop from 0 arrives
unfoldable pub vehicles : RideLent
vehicles = lend_rides (vertex_bytes 0 0 1 ++ vertex_bytes 0 0 2 ++ vertex_bytes 0 1 0 ++ vertex_bytes 1 3 1) (road 3 2 1000) (ride 0 1 35900 35940 7 ++ ride 1 2 35930 35950 7 ++ ride 1 2 35945 35990 7) 4 12

-- 0 and 1 ride to each other and 1 to the place, all at one second; 4 and 5 ride to each other only
unfoldable pub rounds : RideLent
rounds =
    lend_rides (vertex_bytes 0 0 1 ++ vertex_bytes 0 1 2 ++ vertex_bytes 0 2 0 ++ vertex_bytes 1 3 1 ++ vertex_bytes 1 3 1 ++ vertex_bytes 1 4 1)
    (road 3 2 1000) (ride 1 0 35980 35980 7 ++ ride 0 1 35980 35980 7 ++ ride 1 2 35980 35980 7 ++ ride 5 4 35980 35980 7 ++ ride 4 5 35980 35980 7) 6 20

-- 0 rides to 1 and on to 4; from 1 one walks to the place
unfoldable pub between : RideLent
between = lend_rides (vertex_bytes 0 0 1 ++ vertex_bytes 0 0 2 ++ vertex_bytes 0 1 0 ++ vertex_bytes 1 1 0 ++ vertex_bytes 1 1 0) (road 1 2 500) (ride 0 1 35900 35940 7 ++ ride 1 4 35950 35990 7) 5 8

-- 0 rides to 4, 1 and the place in one vehicle
unfoldable pub mixed : RideLent
mixed =
    lend_rides (vertex_bytes 0 0 1 ++ vertex_bytes 0 0 1 ++ vertex_bytes 0 1 0 ++ vertex_bytes 1 2 1 ++ vertex_bytes 1 2 1) (road 3 2 1000)
    (ride 4 1 35930 35940 7 ++ ride 1 2 35950 35990 7 ++ ride 0 4 35900 35920 7) 5 12

-- one walk, no hop and no scratch
unfoldable pub walked : RideLent
walked = lend_rides (vertex_bytes 0 0 1 ++ vertex_bytes 0 0 0) (road 0 1 1000) [] 2 0

unfoldable pub ride_runs : List RideCase
ride_runs =
    -- who stays on needs no time at vertex 1, from which 60 s of boarding start before the ride arrives there
    given (line 35940 35950 35990 7 7) (ask 0 1000 300) 60 none ride_settled (2 ∷ 0 ∷ 3 ∷ 1000 ∷ 1 ∷ 1100 ∷ 0 ∷ 1600 ∷ [])
    -- boarding is paid once a ride, and for the first ride too; with none it is the ordinary run
    ∷ given (line 35940 35950 35990 7 7) (ask 0 1000 300) 0 none ride_settled (2 ∷ 0 ∷ 1 ∷ 500 ∷ 0 ∷ 1000 ∷ 3 ∷ 1000 ∷ [])
    ∷ given (line 35940 35950 35990 7 7) (ask 0 1000 300) 600 none ride_settled (2 ∷ 0 ∷ 3 ∷ 1000 ∷ [])
    ∷ given (line 35940 35950 35990 7 7) (ask 0 1000 800) 600 none ride_settled (2 ∷ 0 ∷ 3 ∷ 1000 ∷ 1 ∷ 6500 ∷ 0 ∷ 7000 ∷ [])
    ∷ given (line 35940 35950 35990 7 7) (ask 0 1000 300) 60 none ride_numbers (0 ∷ 0 ∷ 4 ∷ 0 ∷ 0 ∷ 1 ∷ [])
    -- a limit of steps
    ∷ given (line 35940 35950 35990 7 7) (ask 0 1000 300) 60 2 ride_numbers (0 ∷ 0 ∷ 2 ∷ 0 ∷ 0 ∷ 0 ∷ [])
    ∷ given (line 35940 35950 35990 7 7) (ask 0 1000 300) 60 2 ride_settled (2 ∷ 0 ∷ 3 ∷ 1000 ∷ [])
    -- D is the distance, and a second less
    ∷ given (line 35940 35950 35990 7 7) (ask 0 1000 160) 60 none ride_settled (2 ∷ 0 ∷ 3 ∷ 1000 ∷ 1 ∷ 1100 ∷ 0 ∷ 1600 ∷ [])
    ∷ given (line 35940 35950 35990 7 7) (ask 0 1000 159) 60 none ride_settled (2 ∷ 0 ∷ 3 ∷ 1000 ∷ 1 ∷ 1100 ∷ [])
    -- unknown trips are no vehicle, and two trips are two: one changes, with 10 s just in time and with 11 s too late
    ∷ given (line 35940 35950 35990 0 0) (ask 0 1000 300) 10 none ride_settled (2 ∷ 0 ∷ 1 ∷ 600 ∷ 3 ∷ 1000 ∷ 0 ∷ 1100 ∷ [])
    ∷ given (line 35940 35950 35990 0 0) (ask 0 1000 300) 11 none ride_settled (2 ∷ 0 ∷ 1 ∷ 610 ∷ 3 ∷ 1000 ∷ [])
    ∷ given (line 35940 35950 35990 7 8) (ask 0 1000 300) 10 none ride_settled (2 ∷ 0 ∷ 1 ∷ 600 ∷ 3 ∷ 1000 ∷ 0 ∷ 1100 ∷ [])
    ∷ given (line 35940 35950 35990 7 8) (ask 0 1000 300) 11 none ride_settled (2 ∷ 0 ∷ 1 ∷ 610 ∷ 3 ∷ 1000 ∷ [])
    -- hops of 16 bytes have no trip
    ∷ given (short 35940 35950 35990) (ask 0 1000 300) 11 none ride_settled (2 ∷ 0 ∷ 1 ∷ 610 ∷ 3 ∷ 1000 ∷ [])
    -- the vehicle goes on in the second of arriving, and a second before
    ∷ given (line 35940 35940 35990 7 7) (ask 0 1000 300) 60 none ride_settled (2 ∷ 0 ∷ 3 ∷ 1000 ∷ 1 ∷ 1200 ∷ 0 ∷ 1600 ∷ [])
    ∷ given (line 35940 35939 35990 7 7) (ask 0 1000 300) 60 none ride_settled (2 ∷ 0 ∷ 3 ∷ 1000 ∷ 1 ∷ 1210 ∷ [])
    -- the ride arrives at T, and a second after
    ∷ given (line 35940 35950 36000 7 7) (ask 0 1000 300) 60 none ride_settled (2 ∷ 0 ∷ 3 ∷ 1000 ∷ 1 ∷ 1100 ∷ 0 ∷ 1600 ∷ [])
    ∷ given (line 35940 35950 36001 7 7) (ask 0 1000 300) 60 none ride_settled (2 ∷ 0 ∷ 3 ∷ 1000 ∷ [])
    -- two vehicles of one trip number: one stays on with the later one
    ∷ given vehicles (ask 0 1000 300) 60 none ride_settled (2 ∷ 0 ∷ 3 ∷ 1000 ∷ 1 ∷ 1150 ∷ 0 ∷ 1600 ∷ [])
    -- rides of no minutes: 1 before 0
    ∷ given (at_once 7) (ask 0 1000 300) 5 none ride_settled (2 ∷ 0 ∷ 1 ∷ 250 ∷ 0 ∷ 250 ∷ 3 ∷ 1000 ∷ [])
    ∷ given (at_once 7) (ask 0 1000 300) 0 none ride_settled (2 ∷ 0 ∷ 1 ∷ 200 ∷ 0 ∷ 200 ∷ 3 ∷ 1000 ∷ [])
    ∷ given (at_once 0) (ask 0 1000 300) 5 none ride_settled (2 ∷ 0 ∷ 1 ∷ 250 ∷ 3 ∷ 1000 ∷ [])
    ∷ given (at_once 0) (ask 0 1000 300) 0 none ride_settled (2 ∷ 0 ∷ 1 ∷ 200 ∷ 0 ∷ 200 ∷ 3 ∷ 1000 ∷ [])
    -- circles at one second do not start themselves
    ∷ given rounds (ask 0 1000 300) 5 none ride_settled (2 ∷ 0 ∷ 1 ∷ 250 ∷ 0 ∷ 250 ∷ 3 ∷ 1000 ∷ [])
    ∷ given rounds (ask 0 1000 300) 0 none ride_settled (2 ∷ 0 ∷ 1 ∷ 200 ∷ 0 ∷ 200 ∷ 3 ∷ 1000 ∷ [])
    -- one may leave before the vehicle's last stop, and the records stand in any order
    ∷ given between (ask 0 500 300) 60 none ride_settled (2 ∷ 0 ∷ 1 ∷ 500 ∷ 0 ∷ 1600 ∷ [])
    ∷ given mixed (ask 0 1000 300) 60 none ride_settled (2 ∷ 0 ∷ 3 ∷ 1000 ∷ 1 ∷ 1100 ∷ 4 ∷ 1300 ∷ 0 ∷ 1600 ∷ [])
    ∷ given mixed (ask 0 1000 300) 0 none ride_settled (2 ∷ 0 ∷ 1 ∷ 500 ∷ 4 ∷ 700 ∷ 0 ∷ 1000 ∷ 3 ∷ 1000 ∷ [])
    ∷ []

unfoldable pub ride_refusals : List RideCase
ride_refusals =
    -- the boarding time, the last of 7, then the scratch
    given (line 35940 35950 35990 7 7) (ask 0 1000 300) 601 none ride_numbers (refused_ride 7 5)
    ∷ given (rooms 4 7) (ask 0 1000 300) 601 none ride_numbers (refused_ride 7 5)
    ∷ given (rooms 4 7) (ask 0 1001 300) 601 none ride_numbers (refused_ride 7 1)
    ∷ given (rooms 4 7) (ask 0 1000 300) 600 none ride_numbers (refused_ride 18 0)
    ∷ given (rooms 4 8) (ask 0 1000 300) 600 none ride_numbers (0 ∷ 0 ∷ 2 ∷ 0 ∷ 0 ∷ 1 ∷ [])
    -- they change nothing
    ∷ given (rooms 1 7) (ask 0 1000 300) 600 none ride_left (7 ∷ 7 ∷ 7 ∷ 7 ∷ 7 ∷ 7 ∷ 7 ∷ 7 ∷ 7 ∷ 7 ∷ 7 ∷ 7 ∷ 7 ∷ 7 ∷ 7 ∷ [])
    ∷ given (rooms 1 8) (ask 0 1000 300) 601 none ride_left (7 ∷ 7 ∷ 7 ∷ 7 ∷ 7 ∷ 7 ∷ 7 ∷ 7 ∷ 7 ∷ 7 ∷ 7 ∷ 7 ∷ 7 ∷ 7 ∷ 7 ∷ 7 ∷ [])
    -- room for the list: by step, and both are zero then
    ∷ given (rooms 3 8) (ask 0 1000 300) 60 none ride_numbers (refused_ride 9 4)
    ∷ given (rooms 1 8) (ask 0 1000 300) 60 none ride_numbers (refused_ride 9 2)
    ∷ given (rooms 1 8) (ask 0 1000 300) 60 none ride_left (0 ∷ 0 ∷ 0 ∷ 0 ∷ 0 ∷ 0 ∷ 0 ∷ 0 ∷ 0 ∷ 0 ∷ 0 ∷ 0 ∷ 0 ∷ 0 ∷ 0 ∷ 0 ∷ [])
    -- accepted: the list, zeros behind it, a scratch of zeros, as long as it may be
    ∷ given (rooms 2 10) (ask 0 1000 300) 600 none ride_left (0 ∷ 0 ∷ 0 ∷ 2 ∷ 0 ∷ 0 ∷ 0 ∷ 0 ∷ 0 ∷ 0 ∷ 0 ∷ 3 ∷ 0 ∷ 0 ∷ 3 ∷ 232 ∷ 0 ∷ 0 ∷ 0 ∷ 0 ∷ 0 ∷ 0 ∷ 0 ∷ 0 ∷ 0 ∷ 0 ∷ [])
    ∷ given (rooms 3 8) (ask 0 1000 300) 600 none ride_left (0 ∷ 0 ∷ 0 ∷ 2 ∷ 0 ∷ 0 ∷ 0 ∷ 0 ∷ 0 ∷ 0 ∷ 0 ∷ 3 ∷ 0 ∷ 0 ∷ 3 ∷ 232 ∷ 0 ∷ 0 ∷ 0 ∷ 0 ∷ 0 ∷ 0 ∷ 0 ∷ 0 ∷ 0 ∷ 0 ∷ 0 ∷ 0 ∷ 0 ∷ 0 ∷ 0 ∷ 0 ∷ [])
    -- no hops need no scratch
    ∷ given walked (ask 0 1000 300) 60 none ride_left (0 ∷ 0 ∷ 0 ∷ 1 ∷ 0 ∷ 0 ∷ 0 ∷ 0 ∷ 0 ∷ 0 ∷ 0 ∷ 0 ∷ 0 ∷ 0 ∷ 3 ∷ 232 ∷ [])
    -- a list buffer of no whole records, then the hops, then the boarding time
    ∷ given (broken 1 35940) (ask 0 1000 300) 601 none ride_numbers (refused_ride 1 4)
    ∷ given (broken 0 35899) (ask 0 1000 300) 601 none ride_numbers (refused_ride 3 0)
    ∷ []
