-- Refusals 1 to 7, RULES 12.2 to 12.7: which input is refused, by number and place, for the first reason in the fixed order. Assumes nothing.
use Rattle.std.specs.Prelude.{Bool, not, cond, ◌&&◌, ◌||◌, List, [], ◌∷◌, ℕ, zero, suc, ◌+◌, ◌-◌, ◌/◌, ◌%◌, eqb, leb, ltb, length}
use Rattle.journeys.specs.Counting.{none, count}
use Rattle.journeys.specs.Bytes.{midnight}
use Rattle.journeys.specs.Tables.{Tables, Walk, vertex, walk, hop, vertex_count, walk_count, hop_count, tables_of}
use Rattle.journeys.specs.Query.{Query, asked}
use Rattle.journeys.specs.Records.{departing}

-- number and place; both 0 where nothing is refused
pub record Refusal : Type 0 where
  pub number : ℕ
  pub place : ℕ

abbrev pub fine : Refusal
fine = record { number = 0; place = 0 }

unfoldable pub unless : Bool → ℕ → ℕ → Refusal
unless good number place = cond good fine (record { number = number; place = place })

-- the first of two
unfoldable pub or_else : Refusal → Refusal → Refusal
or_else a b = cond (eqb a.number 0) b a

-- the first of a chain; every operation has its own, in the order of its reasons
abbrev pub chain : List Refusal → Refusal
chain [] = fine
chain (a ∷ []) = a
chain (a ∷ b ∷ l) = or_else a (chain (b ∷ l))

-- the first of the n from place i on
unfoldable pub first_from : (ℕ → Refusal) → ℕ → ℕ → Refusal
first_from f zero i = fine
first_from f (suc n) i = or_else (f i) (first_from f n (i + 1))

-- the lowest of n records that is not good is refused with this number
unfoldable pub first_bad : ℕ → (ℕ → Bool) → ℕ → Refusal
first_bad number good n = first_from (λ i. unless (good i) number i) n 0

-- 1: a whole number of records; a table's count within its limits
unfoldable pub whole_of : ℕ → List ℕ → Bool
whole_of size b = eqb (length b % size) 0

unfoldable pub table_of : ℕ → ℕ → ℕ → List ℕ → Bool
table_of size low high b = whole_of size b && leb low (length b / size) && leb (length b / size) high

-- the size of a hop: 16 bytes, or 20 with a trip. Of no other size is a table asked for its count.
unfoldable pub hop_size_ok : ℕ → Bool
hop_size_ok size = eqb size 16 || eqb size 20

unfoldable pub table_lengths : ℕ → List ℕ → List ℕ → List ℕ → Refusal
table_lengths size v w h =
    chain
    (unless (table_of 12 1 65536 v) 1 0
    ∷ unless (table_of 16 0 262144 w) 1 1
    ∷ unless (hop_size_ok size && table_of size 0 262144 h) 1 2
    ∷ [])

-- of the run's two buffers
unfoldable pub buffer_lengths : List ℕ → List ℕ → Refusal
buffer_lengths held settled = chain (unless (whole_of 16 held) 1 3 ∷ unless (whole_of 8 settled) 1 4 ∷ [])

-- two different vertices of n
unfoldable pub ends_ok : ℕ → ℕ → ℕ → Bool
ends_ok n from to = ltb from n && ltb to n && not (eqb from to)

-- 2: the length in decimetres, the wait in seconds; t is the same road as w the other way and names i back. The two may have different waits.
abbrev pub length_ok : ℕ → Bool
length_ok len = leb 1 len && leb len 100000

abbrev pub wait_ok : ℕ → Bool
wait_ok wait = leb wait 120

unfoldable pub pair_ok : ℕ → Walk → Walk → Bool
pair_ok i w t = eqb t.twin i && eqb t.from w.to && eqb t.to w.from && eqb t.len w.len

-- 3: times from -86,400 to 172,800, the departure not after the arrival
abbrev pub times_ok : ℕ → ℕ → Bool
times_ok departure arrival = leb (midnight - 86400) departure && leb departure arrival && leb arrival (midnight + 172800)

-- 4, 5: "to" of a record not below that of the one before
abbrev pub ascends_by : (ℕ → ℕ) → ℕ → Bool
ascends_by to i = eqb i 0 || leb (to (i - 1)) (to i)

module _ (N : Tables) where
  -- only FFFFFFFF is no twin
  abbrev pub twin_ok : ℕ → Walk → Bool
  twin_ok i w = eqb w.twin none || (ltb w.twin (walk_count N) && pair_ok i w (walk N w.twin))

  unfoldable pub walk_ok : ℕ → Bool
  walk_ok i = let w = walk N i in ends_ok (vertex_count N) w.from w.to && length_ok w.len && wait_ok w.wait && twin_ok i w

  unfoldable pub hop_ok : ℕ → Bool
  hop_ok j = let h = hop N j in ends_ok (vertex_count N) h.from h.to && times_ok h.departure h.arrival

  unfoldable pub walk_ascends : ℕ → Bool
  walk_ascends = ascends_by (λ i. (walk N i).to)

  unfoldable pub hop_ascends : ℕ → Bool
  hop_ascends = ascends_by (λ j. (hop N j).to)

  -- 6: the firsts are the numbers of records with a smaller "to"
  unfoldable pub vertex_ok : ℕ → Bool
  vertex_ok v =
      let x = vertex N v in
      eqb x.first_walk (count (λ i. ltb (walk N i).to v) (walk_count N))
      && eqb x.first_hop (count (λ j. ltb (hop N j).to v) (hop_count N))
      && eqb x.departing (departing N v)
      && eqb x.zeros 0

  unfoldable pub contents : Refusal
  contents =
      chain
      (first_bad 2 walk_ok (walk_count N)
      ∷ first_bad 3 hop_ok (hop_count N)
      ∷ first_bad 4 walk_ascends (walk_count N)
      ∷ first_bad 5 hop_ascends (hop_count N)
      ∷ first_bad 6 vertex_ok (vertex_count N)
      ∷ [])

  -- 7
  unfoldable pub query_refusal : Query → Refusal
  query_refusal Q =
      chain
      (unless (ltb Q.walk (walk_count N)) 7 0
      ∷ unless (leb Q.offset (asked N Q).len) 7 1
      ∷ unless (leb midnight Q.arrival && leb Q.arrival (midnight + 172800)) 7 2
      ∷ unless (leb 1 Q.duration && leb Q.duration 86400) 7 3
      ∷ unless (leb 1 Q.speed && leb Q.speed 100) 7 4
      ∷ [])

-- the check alone
unfoldable pub check : ℕ → List ℕ → List ℕ → List ℕ → Refusal
check size v w h = or_else (table_lengths size v w h) (contents (tables_of size v w h))
