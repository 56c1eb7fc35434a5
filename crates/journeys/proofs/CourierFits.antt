-- All figures of the courier fit their 4 bytes: within the limits of RULES 4 and 5.1 every seed, offer and known distance, and what arrives at a vertex. Assumes nothing.
use mathlib.Core.Path.{◌≡◌, refl, ap}
use mathlib.Core.Logic.{◌⊎◌, inl, inr}
use mathlib.Core.Bool.{Bool, true, false, not, ◌&&◌, ◌||◌}
use mathlib.Core.List.{[]}
use Prim.Native.Nat.{ℕ, suc, ◌+◌, ◌-◌, ◌*◌, ◌≤◌, ◌<◌}
use native.Mathlib.Nat.{mul-le-mul}
use native.Mathlib.Omega.{arith}
use lib.Dec.{eqb, leb, ltb}
use borrow.Author.Tests.{lt-ltb, le-ltb}
use Rattle.journeys.specs.Counting.{none, count, one}
use Rattle.journeys.specs.Bytes.{midnight}
use Rattle.journeys.specs.Tables.{Tables, vertex, walk, hop, vertex_count, walk_count, hop_count}
use Rattle.journeys.specs.Query.{Query, after, asked, asked_twin, allowed}
use Rattle.journeys.specs.Network.{distance_in, within, outside, known, remaining}
use Rattle.journeys.specs.Records.{Record, to, record_count, record_at}
use Rattle.journeys.specs.CourierRecords.{offer, arriving, on_ticks, back_ticks, seed, network}
use Rattle.journeys.specs.Valid.{ValidTables, Valid}
use Rattle.journeys.proofs.Tests.{Test, same, other, test, le-or-lt}
use Rattle.journeys.proofs.Counting.{is_one, is_zero, count_most, count-join, count-mono, count_same, count-append, all-count}
use Rattle.journeys.proofs.Known.{not_within}
use Rattle.journeys.proofs.Valid.{good-walk, good-hop, good-firsts, allowed-high, wait-most}
use Rattle.journeys.proofs.Document.{Numbered, of-walk, of-hop, numbered, walk-record, hop-record}
use Rattle.journeys.proofs.CourierDocument.{on-most, back-most}
use Rattle.journeys.proofs.Fits.{Within, gate-within, seeds-within, all_fit, twin-wait}

-- the largest figure: an arrival at 172,800 s after a departure at midnight, at 100 dm/s
abbrev pub largest : ℕ
largest = 17280000

module _ (N : Tables) (Q : Query) (ok : Valid N Q) where
  after-fits : (second : ℕ) → second ≤ midnight + 172800 → after Q second ≤ largest
  after-fits second h =
      let m : (second - Q.arrival) * Q.speed ≤ 172800 * 100 = mul-le-mul (let q : second - Q.arrival ≤ 172800 = omega (arith, ok.query.arrival_low) in q) ok.query.speed_high in
      omega arith

  -- Every offer at a distance within D.
  pub offer-fits : (r d : ℕ) → r < record_count N → d ≤ allowed Q → Within largest (offer Q (record_at N r) d)
  unfolding offer
  offer-fits r d l h = go (numbered N r l)
    where
      go : {x : Record} → Numbered N r x → Within largest (offer Q x d)
      go (of-walk i) = inr (omega (arith, (good-walk N ok.tables r i).len-high, wait-most ok.query (walk N r).wait (good-walk N ok.tables r i).wait-high, allowed-high ok.query))
      go (of-hop j i e) =
          gate-within (leb Q.arrival (hop N j).departure && leb d (after Q (hop N j).departure)) (after Q (hop N j).arrival) (after-fits (hop N j).arrival (good-hop N ok.tables j i).arrival_high)

  -- The ticks of both seeds.
  long : (asked N Q).len ≤ 100000
  long = (good-walk N ok.tables Q.walk ok.query.walk_low).len-high

  pub on_fits : on_ticks N Q ≤ 112000
  on_fits = omega (arith, long, on-most N Q, wait-most ok.query (asked N Q).wait (good-walk N ok.tables Q.walk ok.query.walk_low).wait-high)

  pub back_fits : back_ticks N Q ≤ 112000
  back_fits = omega (arith, long, ok.query.offset_low, back-most N Q, wait-most ok.query (asked_twin N Q).wait (twin-wait N Q ok))

  -- Every seed.
  pub seed-fits : (v : ℕ) → Within largest (seed N Q v)
  unfolding seed
  seed-fits v =
      seeds-within (eqb (asked N Q).to v) (eqb (asked N Q).from v && (not (eqb (asked N Q).twin none) || eqb Q.offset 0)) (omega (arith, on_fits)) (omega (arith, back_fits))

  -- Every known distance, where all that is settled is within D.
  pub known-fits : (far : ℕ → ℕ) → ((u : ℕ) → far u < none → far u ≤ allowed Q) → (v : ℕ) → known (network N Q) far v < none → known (network N Q) far v ≤ largest
  known-fits = all_fit (network N Q) largest seed-fits (λ r d l h. offer-fits r d l h)

-- ---- what arrives at a vertex
-- as many as have a smaller "to" than the next vertex, less those with a smaller one than this
below_next : (f : ℕ → ℕ) (v n : ℕ) → count (λ i. ltb (f i) (suc v)) n ≡ count (λ i. ltb (f i) v) n + count (λ i. eqb (f i) v) n
below_next f v n = count-join (λ i. ltb (f i) (suc v)) (λ i. ltb (f i) v) (λ i. eqb (f i) v) n (λ i l. go (f i) (test (f i) v))
  where
    go : (x : ℕ) {t : Bool} → Test x v t → one (ltb x (suc v)) ≡ one (ltb x v) + one t
    go x (same e) = omega (arith, is_one (lt-ltb x (suc v) (omega arith)), is_zero (le-ltb x v (omega arith)))
    go x (other q) = elsewhere (le-or-lt v x)
      where
        elsewhere : (v ≤ x) ⊎ (x < v) → one (ltb x (suc v)) ≡ one (ltb x v) + 0
        elsewhere (inl h) = omega (arith, is_zero (le-ltb x (suc v) (omega arith)), is_zero (le-ltb x v h))
        elsewhere (inr h) = omega (arith, is_one (lt-ltb x (suc v) (omega arith)), is_one (lt-ltb x v h))

-- Walks and hops that arrive, one table behind the other.
pub arriving-split : (N : Tables) (v : ℕ) → arriving N v ≡ count (λ i. eqb (walk N i).to v) (walk_count N) + count (λ j. eqb (hop N j).to v) (hop_count N)
unfolding arriving
arriving-split N v =
    omega (
      arith,
      count-append (λ r. eqb (to (record_at N r)) v) (walk_count N) (hop_count N),
      count_same (λ r. eqb (to (record_at N r)) v) (λ i. eqb (walk N i).to v) (walk_count N) (λ i l. ap (λ (x : Record). eqb (to x) v) (walk-record N i l)),
      count_same (λ j. eqb (to (record_at N (walk_count N + j))) v) (λ j. eqb (hop N j).to v) (hop_count N) (λ j l. ap (λ (x : Record). eqb (to x) v) (hop-record N j)),
    )

-- Two stretches of the tables, as the firsts give them.
pub arriving-stretch : (N : Tables) (v : ℕ)
    → arriving N v
    ≡ (count (λ i. ltb (walk N i).to (suc v)) (walk_count N) - count (λ i. ltb (walk N i).to v) (walk_count N))
    + (count (λ j. ltb (hop N j).to (suc v)) (hop_count N) - count (λ j. ltb (hop N j).to v) (hop_count N))
arriving-stretch N v = omega (arith, arriving-split N v, below_next (λ i. (walk N i).to) v (walk_count N), below_next (λ j. (hop N j).to) v (hop_count N))

-- So the vertex table tells it: the firsts of the next vertex less those of this one.
pub arriving-firsts : (N : Tables) → ValidTables N → (v : ℕ) → suc v < vertex_count N
    → arriving N v ≡ ((vertex N (suc v)).first_walk - (vertex N v).first_walk) + ((vertex N (suc v)).first_hop - (vertex N v).first_hop)
arriving-firsts N ok v l =
    let a = good-firsts N ok v (omega arith) in
    let b = good-firsts N ok (suc v) l in
    rw (a.0, a.1, b.0, b.1) (arriving-stretch N v)

-- And for the last vertex the whole tables less its firsts.
pub arriving-last : (N : Tables) → ValidTables N → (v : ℕ) → suc v ≡ vertex_count N
    → arriving N v ≡ (walk_count N - (vertex N v).first_walk) + (hop_count N - (vertex N v).first_hop)
arriving-last N ok v e =
    let a = good-firsts N ok v (omega arith) in
    rw (a.0, a.1)
    (omega (
      arith,
      arriving-stretch N v,
      all-count (λ i. ltb (walk N i).to (suc v)) (walk_count N) (λ i l. lt-ltb (walk N i).to (suc v) (omega (arith, (good-walk N ok i l).to_low))),
      all-count (λ j. ltb (hop N j).to (suc v)) (hop_count N) (λ j l. lt-ltb (hop N j).to (suc v) (omega (arith, (good-hop N ok j l).to_low))),
    ))

-- It is counted in 20 bits.
pub arriving-most : (N : Tables) → ValidTables N → (v : ℕ) → arriving N v ≤ 524288
unfolding arriving
arriving-most N ok v = omega (arith, count_most (λ r. eqb (to (record_at N r)) v) (record_count N), ok.walks_few, ok.hops_few)

-- Where nothing is settled all that arrives remains.
pub remaining-start : (N : Tables) (Q : Query) (v : ℕ) → remaining (network N Q) (distance_in []) v ≡ arriving N v
unfolding remaining outside arriving distance_in
remaining-start N Q v =
    count_same (outside (network N Q) (distance_in []) v) (λ r. eqb (to (record_at N r)) v) (record_count N)
    (λ r l. go (eqb (to (record_at N r)) v) (not_within (distance_in []) ((network N Q).to r) (omega arith)))
  where
    go : (t : Bool) {w : Bool} → w ≡ false → t && not w ≡ t
    go true e = ap not e
    go false e = refl

-- And at every moment no more than that.
pub remaining-most : (N : Tables) (Q : Query) (far : ℕ → ℕ) (v : ℕ) → remaining (network N Q) far v ≤ arriving N v
unfolding remaining outside arriving
remaining-most N Q far v =
    count-mono (outside (network N Q) far v) (λ r. eqb (to (record_at N r)) v) (record_count N) (λ r l. go (eqb (to (record_at N r)) v) (within far ((network N Q).to r)))
  where
    go : (t w : Bool) → one (t && not w) ≤ one t
    go true true = omega arith
    go true false = omega arith
    go false w = omega arith
