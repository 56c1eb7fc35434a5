-- Walks and hops with the offers of RULES 8.4 are such a network, and the journeys of RULES 6 are those of the theory. Assumes nothing.
use mathlib.Core.Path.{◌≡◌, refl, sym, ap, subst, ◌∙◌}
use mathlib.Core.Logic.{◌⊎◌, inl, inr, ⊎_elim, ◌↔◌, ◌≢◌}
use mathlib.Core.Bool.{true, false}
use mathlib.Core.List.{List}
use Prim.Native.Nat.{ℕ, ◌+◌, ◌-◌, ◌*◌, ◌≤◌, ◌<◌}
use native.Mathlib.Decide.{ℕ_discrete}
use native.Mathlib.Nat.{mul-le-mul_right, mul-lt-mul_of_pos_right}
use native.Mathlib.Omega.{arith}
use lib.Dec.{ltb}
use lib.ListN.{get_or-eq_default}
use borrow.Author.Tests.{ltb-true, eq-eqb, ne_eqb, lt-ltb}
use Rattle.journeys.specs.Counting.{none}
use Rattle.journeys.specs.Tables.{Tables, Walk, walk, hop, vertex_count, walk_count, hop_count}
use Rattle.journeys.specs.Query.{Query, before, asked, asked_twin, wait_ticks, past_ticks, walk_ticks, from_ticks, to_ticks, allowed}
use Rattle.journeys.specs.Journeys.{Journey, from_end, to_end, at_to, by_walk, by_hop, Distance}
use Rattle.journeys.specs.Order.{Settled, Order}
use Rattle.journeys.specs.Records.{Record, walked, ridden, from, to, offer, record_count, record_at, seed, network}
use Rattle.journeys.proofs.Tests.{split, cond-true, cond-false, le-or-lt}
use Rattle.journeys.proofs.Ways.{Ways, Arrives, ends, leads, Dist, Laws, Strict, Loopless, arrives-up}
use Rattle.journeys.proofs.Gates.{seeds-are, rides-are}
use Rattle.journeys.proofs.Told.{Told, told-order, order-told}
use Rattle.journeys.proofs.Valid.{good-walk, good-hop, paired, allowed-high}
use Rattle.journeys.specs.Valid.{Valid}

-- ---- the meaning of the offers
abbrev pub End : Tables → Query → ℕ → ℕ → Type 0
End N Q v b =
    (((asked N Q).from ≡ v) × (from_ticks N Q ≤ b))
    ⊎ (((asked N Q).to ≡ v) × (((asked N Q).twin ≢ none) ⊎ (Q.offset ≡ (asked N Q).len)) × (to_ticks N Q ≤ b))

abbrev pub Lead : Query → Record → ℕ → ℕ → Type 0
Lead Q (walked w) d b = d + walk_ticks Q w ≤ b
Lead Q (ridden h) d b = (h.arrival ≤ Q.arrival) × (d ≤ before Q h.arrival) × (before Q h.departure ≤ b)

abbrev pub ways : Tables → Query → Ways
ways N Q = record { Ends = End N Q; Leads = λ r. Lead Q (record_at N r) }

-- ---- a record by its number
pub data Numbered (N : Tables) (r : ℕ) : Record → Type 0 where
  of-walk : r < walk_count N → Numbered N r (walked (walk N r))
  of-hop : (j : ℕ) → j < hop_count N → r ≡ walk_count N + j → Numbered N r (ridden (hop N j))

pub walk-record : (N : Tables) (i : ℕ) → i < walk_count N → record_at N i ≡ walked (walk N i)
unfolding record_at
walk-record N i l = cond-true (walked (walk N i)) _ (lt-ltb i (walk_count N) l)

pub hop-record : (N : Tables) (j : ℕ) → record_at N (walk_count N + j) ≡ ridden (hop N j)
unfolding record_at
hop-record N j =
    let e : (walk_count N + j) - walk_count N ≡ j = omega arith in
    ⊎_elim (λ (t : ltb (walk_count N + j) (walk_count N) ≡ true). absurd (let z : ⊥ = omega (arith, ltb-true (walk_count N + j) (walk_count N) t) in z))
    (λ (t : ltb (walk_count N + j) (walk_count N) ≡ false). cond-false (walked (walk N (walk_count N + j))) _ t ∙ ap (λ (k : ℕ). ridden (hop N k)) e)
    (split _)

pub numbered : (N : Tables) (r : ℕ) → r < record_count N → Numbered N r (record_at N r)
numbered N r l =
    ⊎_elim
    (λ (h : walk_count N ≤ r).
    let e : walk_count N + (r - walk_count N) ≡ r = omega arith in
    let q : record_at N r ≡ ridden (hop N (r - walk_count N)) = ap (record_at N) (sym e) ∙ hop-record N (r - walk_count N) in
    subst (Numbered N r) (sym q) (of-hop (r - walk_count N) (omega arith) (sym e)))
    (λ (h : r < walk_count N). subst (Numbered N r) (sym (walk-record N r h)) (of-walk h))
    (le-or-lt (walk_count N) r)

-- ---- offers
before-mono : (Q : Query) (x y : ℕ) → x ≤ y → before Q y ≤ before Q x
before-mono Q x y h = mul-le-mul_right Q.speed (let q : Q.arrival - y ≤ Q.arrival - x = omega arith in q)

before-less : (Q : Query) (x y : ℕ) → 1 ≤ Q.speed → x < y → y ≤ Q.arrival → before Q y < before Q x
before-less Q x y s h l = mul-lt-mul_of_pos_right (let q : Q.arrival - y < Q.arrival - x = omega arith in q) s

lead_up : (Q : Query) (x : Record) (d b b' : ℕ) → b ≤ b' → Lead Q x d b → Lead Q x d b'
lead_up Q (walked w) d b b' h o = omega arith
lead_up Q (ridden w) d b b' h o = (o.0, o.1, omega (arith, o.2))

lead-down : (Q : Query) (x : Record) (d d' b : ℕ) → d' ≤ d → Lead Q x d b → Lead Q x d' b
lead-down Q (walked w) d d' b h o = omega arith
lead-down Q (ridden w) d d' b h o = (o.0, omega (arith, o.1), o.2)

offer-are : (Q : Query) (x : Record) (d b : ℕ) → b < none → Lead Q x d b ↔ (offer Q x d ≤ b)
unfolding offer
offer-are Q (walked w) d b l = (λ o. o, λ o. o)
offer-are Q (ridden h) d b l = rides-are h.arrival Q.arrival d (before Q h.arrival) (before Q h.departure) b l

seed-are : (N : Tables) (Q : Query) (v b : ℕ) → b < none → End N Q v b ↔ (seed N Q v ≤ b)
unfolding seed
seed-are N Q v b l = seeds-are (asked N Q).from (asked N Q).to (asked N Q).twin Q.offset (asked N Q).len (from_ticks N Q) (to_ticks N Q) v b l

-- every ride takes time; good tables may have rides that take none
abbrev pub Timely : Tables → Type 0
Timely N = (j : ℕ) → j < hop_count N → (hop N j).departure < (hop N j).arrival

module _ (N : Tables) (Q : Query) (ok : Valid N Q) where
  pub record-low : (r : ℕ) {x : Record} → Numbered N r x → (from x < vertex_count N) × (to x < vertex_count N)
  record-low r (of-walk l) = ((good-walk N ok.tables r l).from_low, (good-walk N ok.tables r l).to_low)
  record-low r (of-hop j l e) = ((good-hop N ok.tables j l).from_low, (good-hop N ok.tables j l).to_low)

  record-le : (r d b : ℕ) {x : Record} → Numbered N r x → Lead Q x d b → d ≤ b
  record-le r d b (of-walk l) o = omega arith
  record-le r d b (of-hop j l e) o = omega (arith, o.1, o.2, before-mono Q (hop N j).departure (hop N j).arrival (good-hop N ok.tables j l).rides)

  record-strict : Timely N → (r d b : ℕ) {x : Record} → Numbered N r x → Lead Q x d b → d < b
  record-strict timely r d b (of-walk l) o = omega (arith, (good-walk N ok.tables r l).len-low)
  record-strict timely r d b (of-hop j l e) o =
      omega (arith, o.1, o.2, before-less Q (hop N j).departure (hop N j).arrival ok.query.speed_low (timely j l) o.0)

  pub record_apart : (r : ℕ) {x : Record} → Numbered N r x → from x ≢ to x
  record_apart r (of-walk l) = (good-walk N ok.tables r l).apart
  record_apart r (of-hop j l e) = (good-hop N ok.tables j l).apart

  end_low : (v b : ℕ) → End N Q v b → v < vertex_count N
  end_low v b (inl x) = rw x.0 at (good-walk N ok.tables Q.walk ok.query.walk_low).from_low
  end_low v b (inr x) = rw x.0 at (good-walk N ok.tables Q.walk ok.query.walk_low).to_low

  end-up : (v b b' : ℕ) → b ≤ b' → End N Q v b → End N Q v b'
  end-up v b b' h (inl x) = inl (x.0, omega arith)
  end-up v b b' h (inr x) = inr (x.0, x.1, omega (arith, x.2))

  pub laws : Laws (network N Q) (ways N Q)
  laws =
      record {
        from_low = λ r l. (record-low r (numbered N r l)).0;
        ends_low = end_low;
        ends-up = end-up;
        leads-up = λ r d b b' h o. lead_up Q (record_at N r) d b b' h o;
        leads-down = λ r d d' b h o. lead-down Q (record_at N r) d d' b h o;
        leads-le = λ r d b l o. record-le r d b (numbered N r l) o;
        seed-is = λ v b vn l. seed-are N Q v b l;
        offer-is = λ r d b rl l. offer-are Q (record_at N r) d b l;
      }

  pub strict : Timely N → Strict (network N Q) (ways N Q)
  strict timely r d b l o = record-strict timely r d b (numbered N r l) o

  pub loopless : Loopless (network N Q)
  loopless r l e = record_apart r (numbered N r l) e

  -- ---- the journeys are those of the theory
  -- where there is no twin there is no wait of one
  pub no-twin : (asked N Q).twin ≡ none → asked_twin N Q ≡ record { from = 0; to = 0; len = 0; wait = 0; twin = 0 }
  no-twin e = get_or-eq_default N.walks (record { from = 0; to = 0; len = 0; wait = 0; twin = 0 }) (omega (arith, e, ok.tables.walks_few))

  -- "to" of e, where the place is: none of the twin's wait is spent, for the place is its "from"
  pub to-zero : Q.offset ≡ (asked N Q).len → to_ticks N Q ≡ 0
  to-zero e = go (ℕ_discrete (asked N Q).twin none)
    where
      back : ℕ
      back = (asked N Q).len - Q.offset

      go : Dec ((asked N Q).twin ≡ none) → to_ticks N Q ≡ 0
      go (no n) =
          let p = paired N ok.tables Q.walk ok.query.walk_low n in
          omega (arith, cond-false (wait_ticks Q (asked_twin N Q)) 0 (ne_eqb back (asked_twin N Q).len (omega (arith, e, (good-walk N ok.tables (asked N Q).twin p.0).len-low))))
      go (yes n) = omega (arith, ap (λ (w : Walk). past_ticks Q w back) (no-twin n), cond-true (0 * Q.speed) 0 (eq-eqb back 0 (omega (arith, e))))

  pub journey-arrives : {v d : ℕ} → Journey N Q v d → Arrives (network N Q) (ways N Q) v d
  journey-arrives from_end = ends {b = from_ticks N Q} (inl (refl, omega arith))
  journey-arrives (to_end n) = ends {b = to_ticks N Q} (inr (refl, inl n, omega arith))
  journey-arrives (at_to e) = ends {b = 0} (inr (refl, inr e, omega (arith, to-zero e)))
  journey-arrives (by_walk i l {d = d} j) =
      let q = walk-record N i l in
      leads {b = d + walk_ticks Q (walk N i)} i d (omega arith) (ap from q) (rw q (omega arith)) (rw q (journey-arrives j))
  journey-arrives (by_hop i l a j) =
      let q = hop-record N i in
      leads {b = before Q (hop N i).departure} (walk_count N + i) (before Q (hop N i).arrival) (omega arith) (ap from q) (rw q (a, omega arith, omega arith)) (rw q (journey-arrives j))
  journey-arrives (Journey.wait {d' = d'} h j) = arrives-up (network N Q) (ways N Q) laws d' h (journey-arrives j)

  ride : (v d b r : ℕ) {x : Record} → Numbered N r x → from x ≡ v → Lead Q x d b → Journey N Q (to x) d → Journey N Q v b
  ride v d b r (of-walk l) f o j = Journey.wait o (rw f at (by_walk r l j))
  ride v d b r (of-hop i l e) f o j = Journey.wait o.2 (rw f at (by_hop i l o.0 (Journey.wait o.1 j)))

  end-journey : (v b : ℕ) → End N Q v b → Journey N Q v b
  end-journey v b (inl x) = let j : Journey N Q (asked N Q).from (from_ticks N Q) = from_end in Journey.wait x.1 (rw x.0 at j)
  end-journey v b (inr x) = go x.1
    where
      go : ((asked N Q).twin ≢ none) ⊎ (Q.offset ≡ (asked N Q).len) → Journey N Q v b
      go (inl n) = let j : Journey N Q (asked N Q).to (to_ticks N Q) = to_end n in Journey.wait x.2 (rw x.0 at j)
      go (inr e) =
          let j : Journey N Q (asked N Q).to 0 = at_to e in
          let z : 0 ≤ b = omega arith in
          Journey.wait z (rw x.0 at j)

  pub arrives-journey : {v b : ℕ} → Arrives (network N Q) (ways N Q) v b → Journey N Q v b
  arrives-journey {v} {b} (ends s) = end-journey v b s
  arrives-journey {v} {b} (leads r d l f o j) = ride v d b r (numbered N r l) f o (arrives-journey j)

  pub distance-dist : {v d : ℕ} → Distance N Q v d → Dist (network N Q) (ways N Q) v d
  distance-dist x = (journey-arrives x.starts, λ b j. x.latest b (arrives-journey j))

  pub dist-distance : {v d : ℕ} → Dist (network N Q) (ways N Q) v d → Distance N Q v d
  dist-distance x = record { starts = arrives-journey x.0; latest = λ b j. x.1 b (journey-arrives j) }

  pub allowed-low : allowed Q < none
  allowed-low = omega (arith, allowed-high ok.query)

  -- The distance of the journeys is the theory's.
  pub told : Told (network N Q) (ways N Q) (Distance N Q)
  told = record { laws = laws; is-dist = λ v d. distance-dist; dist-is = λ v d. dist-distance; few = allowed-low }

  pub order-dist : {D : ℕ} {l : List Settled} → Order (network N Q) (Distance N Q) D l → Order (network N Q) (Dist (network N Q) (ways N Q)) D l
  order-dist = told-order (network N Q) (ways N Q) (Distance N Q) told

  pub dist-order : {D : ℕ} {l : List Settled} → Order (network N Q) (Dist (network N Q) (ways N Q)) D l → Order (network N Q) (Distance N Q) D l
  dist-order = order-told (network N Q) (ways N Q) (Distance N Q) told
