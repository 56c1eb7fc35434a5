-- Small feeds, written out, and what each of them gives: a table for the definitions. Assumes nothing.
use Rattle.std.specs.Prelude.{List, [], ◌∷◌, ◌++◌, ℕ, ◌*◌, replicate}
use Prim.Native.String.{String}
use Rattle.journeys.specs.Marked.{words}
use Rattle.journeys.specs.Refusals.{Refusal}
use Rattle.feed.specs.Lines.{bytes}
use Rattle.feed.specs.Answers.{Feed, feed_refusal, hop_count, target_after}

-- a feed, and the words of its answer: refusal, place, hop count, then the target
pub record Case : Type 0 where
  pub lent : Feed
  pub want : List ℕ

unfoldable pub shown : Feed → List ℕ
shown F = (feed_refusal F).number ∷ (feed_refusal F).place ∷ hop_count F ∷ words (target_after F)

-- two stops at one vertex, and an id whose second line does not count; two trips of one number
abbrev pub stop_list : String
stop_list = "A,5\nB,3\n\nC,7\r\nB2,3\nA,6\n\"D\"\"x\",0"

abbrev pub trip_list : String
trip_list = "t1,9\nt2,9\n"

-- line 1 as operators write it, with columns that are not asked for
abbrev pub top : String
top = "trip_id,arrival_time,departure_time,stop_id,stop_sequence,note\n"

-- room for so many hops in a target that is not clean
abbrev pub lend : List ℕ → String → String → ℕ → Feed
lend text stops trips room = record { stop_times = text; stops = bytes stops; trips = bytes trips; target = replicate (20 * room) 7 }

abbrev pub gives : String → ℕ → List ℕ → Case
gives text room want = record { lent = lend (bytes top ++ bytes text) stop_list trip_list room; want = want }

-- a text with its own line 1
abbrev pub whole : String → ℕ → List ℕ → Case
whole text room want = record { lent = lend (bytes text) stop_list trip_list room; want = want }

-- with other lists
abbrev pub listed : String → String → List ℕ → Case
listed stops trips want = record { lent = lend (bytes top) stops trips 1; want = want }

-- a refusal, and the zeros of room for one hop
abbrev pub refused : ℕ → ℕ → List ℕ
refused number place = number ∷ place ∷ 0 ∷ 0 ∷ 0 ∷ 0 ∷ 0 ∷ 0 ∷ []

unfoldable pub readings : List Case
readings =
    -- stops of a trip by their sequence wherever they stand, hops by "to" and then by the line of departure
    gives "t1,8:00:00,8:01:00,A,1,\nt1,8:09:00,,C,10,\nt1,,08:05:00,B,2,x\n" 3
    (0 ∷ 0 ∷ 2 ∷ 5 ∷ 3 ∷ 28860 ∷ 29100 ∷ 9 ∷ 3 ∷ 7 ∷ 29100 ∷ 29340 ∷ 9 ∷ 0 ∷ 0 ∷ 0 ∷ 0 ∷ 0 ∷ [])
    -- CRLF, empty lines, quotes, no end of the last line; an untimed stop is passed over; past midnight
    ∷ gives "\"t1\",23:59:59,23:59:59,\"D\"\"x\",1,\"a,\"\"b\"\"\"\r\n\r\nt1,,,B,2,\nt1,24:00:00,47:59:59,\"C\",4294967295," 1
    (0 ∷ 0 ∷ 1 ∷ 0 ∷ 7 ∷ 86399 ∷ 86400 ∷ 9 ∷ [])
    -- trips of one number are not mixed; a hop of no minutes; none between stops at one vertex
    ∷ gives "t1,1:00:00,1:00:00,A,1,\nt2,1:00:00,1:00:00,C,1,\nt1,1:00:00,1:00:00,B,2,\nt2,2:00:00,2:00:00,A,2,\nt1,1:05:00,1:05:00,B2,3,\n" 2
    (0 ∷ 0 ∷ 2 ∷ 5 ∷ 3 ∷ 3600 ∷ 3600 ∷ 9 ∷ 7 ∷ 5 ∷ 3600 ∷ 7200 ∷ 9 ∷ [])
    -- line 1 alone; columns in any order
    ∷ gives "" 0 (0 ∷ 0 ∷ 0 ∷ [])
    ∷ whole "x,stop_sequence,stop_id,x,departure_time,arrival_time,\"trip_id\"\r\n,1,A,,1:00:00,,t2\n,2,B,,,1:00:01,t2" 1
    (0 ∷ 0 ∷ 1 ∷ 5 ∷ 3 ∷ 3600 ∷ 3601 ∷ 9 ∷ [])
    ∷ []

-- each refusal: 1 changes nothing, the others leave zeros
unfoldable pub refusals : List Case
refusals =
    record { lent = record { stop_times = []; stops = bytes "x"; trips = []; target = 1 ∷ 2 ∷ 3 ∷ 4 ∷ [] }; want = 1 ∷ 2 ∷ 0 ∷ 16909060 ∷ [] }
    -- 29: the stop list first
    ∷ listed "A,65535\n\nB,65536" "t" (refused 29 3)
    ∷ listed "A,65535\n" "t,4294967295\nt,4294967296" (refused 29 2)
    ∷ listed "A,1,2" "" (refused 29 1)
    ∷ listed "A,\n" "" (refused 29 1)
    ∷ listed "A,1\r" "" (refused 29 1)
    ∷ listed "A,1\nA,x\n" "" (refused 29 2)
    ∷ listed "A\"B,1" "" (refused 29 1)
    -- 12: lacking or repeated, an empty line 1, and quotes that break before the five are there
    ∷ whole "" 1 (refused 12 1)
    ∷ whole "\ntrip_id,arrival_time,departure_time,stop_id,stop_sequence\n" 1 (refused 12 1)
    ∷ whole "trip_id,arrival_time,departure_time,stop_id,stop_sequence,stop_id\n" 1 (refused 12 1)
    ∷ whole "trip_id,arrival_time,departure_time,stop_id, stop_sequence\n" 1 (refused 12 1)
    ∷ whole "x\"y,trip_id,arrival_time,departure_time,stop_id,stop_sequence\n" 1 (refused 12 1)
    -- 13: quotes in line 1 behind the five, field counts, quotes, times, sequences
    ∷ whole "trip_id,arrival_time,departure_time,stop_id,stop_sequence,x\"y,trip_id\n" 1 (refused 13 1)
    ∷ gives "t1,1:00:00,1:00:00,A,1\n" 1 (refused 13 2)
    ∷ gives "\nt1,1:00:00,1:00:00,A,1,,\n" 1 (refused 13 3)
    ∷ gives "t1,1:00:00,1:00:00,A,1,a\"b\n" 1 (refused 13 2)
    ∷ gives "t1,1:00:00,1:00:00,A,1,\"a\nb\"\n" 1 (refused 13 2)
    ∷ gives "t1,1:00:00,1:00:00,A,1,\"a\"b\n" 1 (refused 13 2)
    ∷ gives "t1,48:00:00,48:00:00,A,1,\n" 1 (refused 13 2)
    ∷ gives "t1,1:00:60,,A,1,\n" 1 (refused 13 2)
    ∷ gives "t1,001:00:00,,A,1,\n" 1 (refused 13 2)
    ∷ gives "t1, ,1:00:00,A,1,\n" 1 (refused 13 2)
    ∷ gives "t1,1:00:00,,A,4294967296,\n" 1 (refused 13 2)
    ∷ gives "t1,1:00:00,,A,,\n" 1 (refused 13 2)
    -- 14, behind every 13
    ∷ gives "t1,1:00:00,,E,1,\nt1,x,,A,1,\n" 1 (refused 13 3)
    ∷ gives "t1,1:00:00,,E,1,\n" 1 (refused 14 2)
    ∷ gives "t1,1:00:00,,A,1,\nt3,1:00:00,,A,1,\n" 1 (refused 14 3)
    -- 15: by value, at the later line
    ∷ gives "t1,1:00:00,,A,2,\nt2,,,A,2,\nt1,1:00:00,,B,02,\n" 1 (refused 15 4)
    -- 16: an untimed end, a departure before the arrival, an arrival before the last timed departure, at the later stop
    ∷ gives "t1,,,A,1,\n" 1 (refused 16 2)
    ∷ gives "t1,1:00:00,,A,1,\nt1,,,B,2,\n" 1 (refused 16 3)
    ∷ gives "t1,1:00:01,1:00:00,A,1,\n" 1 (refused 16 2)
    ∷ gives "t1,0:59:59,,B,3,\nt1,,,C,2,\nt1,1:00:00,,A,1,\n" 1 (refused 16 2)
    -- 17
    ∷ gives "t1,1:00:00,,A,1,\nt1,1:00:00,,B,2,\nt1,1:00:00,,A,3,\n" 1 (refused 17 0)
    ∷ []

unfoldable pub feeds : List Case
feeds = readings ++ refusals
