-- What is carried over sorted stops, and the hops that end at them. Assumes nothing.
use Rattle.std.specs.Prelude.{Bool, false, not, cond, ◌&&◌, ◌||◌, List, [], ◌∷◌, ◌++◌, ℕ, ◌+◌, ◌*◌, ◌/◌, ◌%◌, ◌^◌, min, eqb, ltb}
use Rattle.journeys.specs.Counting.{none}
use Rattle.feed.specs.Stops.{Stop}
use Rattle.carry.specs.declared.Item.{Item}
use Rattle.carry.specs.declared.Carry.{Carry}

abbrev pub item_of : ℕ → Item
item_of x = record { high = x / 2 ^ 64 / 2 ^ 64; middle = x / 2 ^ 64 % 2 ^ 64; low = x % 2 ^ 64 }

-- a record as one number
abbrev pub weight : Item → ℕ
weight x = x.low + 2 ^ 64 * (x.middle + 2 ^ 64 * x.high)

-- the stop of a record
abbrev pub seen : Item → Stop
seen x =
    record {
      line = x.middle % 2 ^ 32;
      trip = x.high;
      trip_number = 0;
      sequence = x.middle / 2 ^ 32;
      vertex = x.low / 2 ^ 40;
      timed = eqb (x.low / 2 ^ 36 % 2) 1;
      arrival = x.low / 2 ^ 18 % 2 ^ 18;
      departure = x.low % 2 ^ 18;
    }

-- before the first stop: trips count from 1, so this is on none, and nothing is told of it
abbrev pub nobody : Item
nobody = record { high = 0; middle = 0; low = 2 ^ 36 }

abbrev pub start : Carry
start = record { prev = nobody; last = nobody; fifteen = none; sixteen = none }

module _ (c : Carry) where
  unfoldable pub fifteen : Stop → ℕ
  fifteen s = min c.fifteen (cond (eqb c.prev.high s.trip && eqb (seen c.prev).sequence s.sequence) s.line none)

  unfoldable pub untimely : Stop → Bool
  untimely s =
      cond s.timed
      (ltb s.departure s.arrival || (eqb c.last.high s.trip && ltb s.arrival (seen c.last).departure))
      (not (eqb c.prev.high s.trip))

  unfoldable pub ended : Stop → Bool
  ended s = cond (seen c.prev).timed false (not (eqb c.prev.high s.trip))

  unfoldable pub sixteen : Stop → ℕ
  sixteen s = min (min c.sixteen (cond (ended s) (seen c.prev).line none)) (cond (untimely s) s.line none)

  unfoldable pub latest : Item → Item
  latest x = cond (seen x).timed x c.last

  abbrev pub follow : Item → Carry
  follow x = record { prev = x; last = latest x; fifteen = fifteen (seen x); sixteen = sixteen (seen x) }

  abbrev pub followed : ℕ → Carry
  followed x = follow (item_of x)

  unfoldable pub joins : Stop → Bool
  joins s = s.timed && (eqb c.last.high s.trip && not (eqb (seen c.last).vertex s.vertex))

  -- 16 of all stops: behind the last one no other follows
  unfoldable pub late_end : ℕ
  late_end = min c.sixteen (cond (seen c.prev).timed none (seen c.prev).line)

-- the record of a hop between two stops
abbrev pub hop_number : Stop → Stop → ℕ
hop_number p s = (p.vertex * 2 ^ 36 + p.departure * 2 ^ 18 + s.arrival) + 2 ^ 64 * ((p.line * 2 ^ 32 + p.trip) + 2 ^ 64 * s.vertex)

unfoldable pub hop_after : Carry → ℕ → List ℕ
hop_after c x = cond (joins c (seen (item_of x))) (hop_number (seen c.last) (seen (item_of x)) ∷ []) []

unfoldable pub all_followed : Carry → List ℕ → Carry
all_followed c [] = c
all_followed c (x ∷ l) = all_followed (followed c x) l

unfoldable pub all_hops : Carry → List ℕ → List ℕ
all_hops c [] = []
all_hops c (x ∷ l) = hop_after c x ++ all_hops (followed c x) l
