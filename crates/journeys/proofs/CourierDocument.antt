-- Walks and hops with the courier's offers are a network of the theory, and his journeys are those of the theory: what is "from" there is "to" here.
-- Assumes nothing.
use mathlib.Core.Path.{◌≡◌, refl, sym, ap}
use mathlib.Core.Logic.{◌⊎◌, inl, inr, ◌↔◌, ◌≢◌}
use mathlib.Core.Bool.{Bool, cond}
use Prim.Native.Nat.{ℕ, ◌+◌, ◌-◌, ◌≤◌, ◌<◌}
use native.Mathlib.Nat.{mul-le-mul_right, mul-lt-mul_of_pos_right}
use native.Mathlib.Omega.{arith}
use Rattle.journeys.specs.Counting.{none}
use Rattle.journeys.specs.Tables.{Tables, walk, hop, vertex_count, walk_count}
use Rattle.journeys.specs.Query.{Query, after, asked, asked_twin, wait_ticks, walk_ticks}
use Rattle.journeys.specs.CourierJourneys.{Reached, along, along_twin, at_to, at_from, by_walk, by_hop, CourierDistance}
use Rattle.journeys.specs.Records.{Record, walked, ridden, from, to, record_at}
use Rattle.journeys.specs.CourierRecords.{offer, on_ticks, back_ticks, seed, network}
use Rattle.journeys.specs.Valid.{Valid}
use Rattle.journeys.proofs.Tests.{Test, same, other, test}
use Rattle.journeys.proofs.Gates.{seeds-are, rides-are}
use Rattle.journeys.proofs.Ways.{Ways, Arrives, ends, leads, Dist, Laws, Strict, Loopless, arrives-up}
use Rattle.journeys.proofs.Told.{Told}
use Rattle.journeys.proofs.Valid.{good-walk, good-hop, allowed-high}
use Rattle.journeys.proofs.Document.{Numbered, of-walk, of-hop, walk-record, hop-record, numbered, record-low, record_apart, Timely}

-- ---- the meaning of the offers
abbrev pub Start : Tables → Query → ℕ → ℕ → Type 0
Start N Q v b =
    (((asked N Q).to ≡ v) × (on_ticks N Q ≤ b)) ⊎ (((asked N Q).from ≡ v) × (((asked N Q).twin ≢ none) ⊎ (Q.offset ≡ 0)) × (back_ticks N Q ≤ b))

abbrev pub Lead : Query → Record → ℕ → ℕ → Type 0
Lead Q (walked w) d b = d + walk_ticks Q w ≤ b
Lead Q (ridden h) d b = (Q.arrival ≤ h.departure) × (d ≤ after Q h.departure) × (after Q h.arrival ≤ b)

abbrev pub ways : Tables → Query → Ways
ways N Q = record { Ends = Start N Q; Leads = λ r. Lead Q (record_at N r) }

-- A seed is what the start says.
pub seed-are : (N : Tables) (Q : Query) (v b : ℕ) → b < none → Start N Q v b ↔ (seed N Q v ≤ b)
unfolding seed
seed-are N Q v b l = seeds-are (asked N Q).to (asked N Q).from (asked N Q).twin Q.offset 0 (on_ticks N Q) (back_ticks N Q) v b l

-- An offer is what the record says.
pub offer-are : (Q : Query) (x : Record) (d b : ℕ) → b < none → Lead Q x d b ↔ (offer Q x d ≤ b)
unfolding offer
offer-are Q (walked w) d b l = (λ o. o, λ o. o)
offer-are Q (ridden h) d b l = rides-are Q.arrival h.departure d (after Q h.departure) (after Q h.arrival) b l

after-mono : (Q : Query) (x y : ℕ) → x ≤ y → after Q x ≤ after Q y
after-mono Q x y h = mul-le-mul_right Q.speed (let q : x - Q.arrival ≤ y - Q.arrival = omega arith in q)

after_less : (Q : Query) (x y : ℕ) → 1 ≤ Q.speed → x < y → Q.arrival ≤ x → after Q x < after Q y
after_less Q x y s h l = mul-lt-mul_of_pos_right (let q : x - Q.arrival < y - Q.arrival = omega arith in q) s

lead_up : (Q : Query) (x : Record) (d b b' : ℕ) → b ≤ b' → Lead Q x d b → Lead Q x d b'
lead_up Q (walked w) d b b' h o = omega arith
lead_up Q (ridden w) d b b' h o = (o.0, o.1, omega (arith, o.2))

lead-down : (Q : Query) (x : Record) (d d' b : ℕ) → d' ≤ d → Lead Q x d b → Lead Q x d' b
lead-down Q (walked w) d d' b h o = omega arith
lead-down Q (ridden w) d d' b h o = (o.0, omega (arith, o.1), o.2)

-- ---- the ticks of the two seeds
module _ (N : Tables) (Q : Query) where
  on-cases : {t : Bool} → Test Q.offset (asked N Q).len t → (y : ℕ) → (cond t 0 y ≤ y) × ((Q.offset ≡ (asked N Q).len) → cond t 0 y ≡ 0)
  on-cases (same e) y = (omega arith, λ z. refl)
  on-cases (other q) y = (omega arith, λ z. absurd (q z))

  back-cases : {t : Bool} → Test Q.offset 0 t → (y : ℕ) → (cond t 0 y ≤ y) × ((Q.offset ≡ 0) → cond t 0 y ≡ 0)
  back-cases (same e) y = (omega arith, λ z. refl)
  back-cases (other q) y = (omega arith, λ z. absurd (q z))

  -- No wait is longer than asked for; and who is at an end already is there at once.
  pub on-most : on_ticks N Q ≤ ((asked N Q).len - Q.offset) + wait_ticks Q (asked N Q)
  on-most = (on-cases (test Q.offset (asked N Q).len) (((asked N Q).len - Q.offset) + wait_ticks Q (asked N Q))).0

  pub on-zero : Q.offset ≡ (asked N Q).len → on_ticks N Q ≡ 0
  on-zero = (on-cases (test Q.offset (asked N Q).len) (((asked N Q).len - Q.offset) + wait_ticks Q (asked N Q))).1

  pub back-most : back_ticks N Q ≤ Q.offset + wait_ticks Q (asked_twin N Q)
  back-most = (back-cases (test Q.offset 0) (Q.offset + wait_ticks Q (asked_twin N Q))).0

  pub back-zero : Q.offset ≡ 0 → back_ticks N Q ≡ 0
  back-zero = (back-cases (test Q.offset 0) (Q.offset + wait_ticks Q (asked_twin N Q))).1

  -- The courier is at "to" of e after so many ticks, and along the twin at "from".
  on-reached : Reached N Q (asked N Q).to (on_ticks N Q)
  on-reached = go (test Q.offset (asked N Q).len)
    where
      go : {t : Bool} → Test Q.offset (asked N Q).len t → Reached N Q (asked N Q).to (cond t 0 (((asked N Q).len - Q.offset) + wait_ticks Q (asked N Q)))
      go (same e) = at_to e
      go (other q) = along

  back-reached : ((asked N Q).twin ≢ none) ⊎ (Q.offset ≡ 0) → Reached N Q (asked N Q).from (back_ticks N Q)
  back-reached w = go w (test Q.offset 0)
    where
      go : ((asked N Q).twin ≢ none) ⊎ (Q.offset ≡ 0) → {t : Bool} → Test Q.offset 0 t → Reached N Q (asked N Q).from (cond t 0 (Q.offset + wait_ticks Q (asked_twin N Q)))
      go w (same e) = at_from e
      go (inl n) (other q) = along_twin n
      go (inr e) (other q) = absurd (q e)

module _ (N : Tables) (Q : Query) (ok : Valid N Q) where
  record-le : (r d b : ℕ) {x : Record} → Numbered N r x → Lead Q x d b → d ≤ b
  record-le r d b (of-walk l) o = omega arith
  record-le r d b (of-hop j l e) o = omega (arith, o.1, o.2, after-mono Q (hop N j).departure (hop N j).arrival (good-hop N ok.tables j l).rides)

  record-strict : Timely N → (r d b : ℕ) {x : Record} → Numbered N r x → Lead Q x d b → d < b
  record-strict timely r d b (of-walk l) o = omega (arith, (good-walk N ok.tables r l).len-low)
  record-strict timely r d b (of-hop j l e) o =
      omega (arith, o.1, o.2, after_less Q (hop N j).departure (hop N j).arrival ok.query.speed_low (timely j l) o.0)

  start-low : (v b : ℕ) → Start N Q v b → v < vertex_count N
  start-low v b (inl x) = rw x.0 at (good-walk N ok.tables Q.walk ok.query.walk_low).to_low
  start-low v b (inr x) = rw x.0 at (good-walk N ok.tables Q.walk ok.query.walk_low).from_low

  start_up : (v b b' : ℕ) → b ≤ b' → Start N Q v b → Start N Q v b'
  start_up v b b' h (inl x) = inl (x.0, omega arith)
  start_up v b b' h (inr x) = inr (x.0, x.1, omega (arith, x.2))

  pub laws : Laws (network N Q) (ways N Q)
  laws =
      record {
        from_low = λ r l. (record-low N Q ok r (numbered N r l)).1;
        ends_low = start-low;
        ends-up = start_up;
        leads-up = λ r d b b' h o. lead_up Q (record_at N r) d b b' h o;
        leads-down = λ r d d' b h o. lead-down Q (record_at N r) d d' b h o;
        leads-le = λ r d b l o. record-le r d b (numbered N r l) o;
        seed-is = λ v b vn l. seed-are N Q v b l;
        offer-is = λ r d b rl l. offer-are Q (record_at N r) d b l;
      }

  pub strict : Timely N → Strict (network N Q) (ways N Q)
  strict timely r d b l o = record-strict timely r d b (numbered N r l) o

  pub loopless : Loopless (network N Q)
  loopless r l e = record_apart N Q ok r (numbered N r l) (sym e)

  -- ---- his journeys are those of the theory
  pub reached-arrives : {v d : ℕ} → Reached N Q v d → Arrives (network N Q) (ways N Q) v d
  reached-arrives along = ends {b = ((asked N Q).len - Q.offset) + wait_ticks Q (asked N Q)} (inl (refl, on-most N Q))
  reached-arrives (along_twin n) = ends {b = Q.offset + wait_ticks Q (asked_twin N Q)} (inr (refl, inl n, back-most N Q))
  reached-arrives (at_to e) = ends {b = 0} (inl (refl, omega (arith, on-zero N Q e)))
  reached-arrives (at_from e) = ends {b = 0} (inr (refl, inr e, omega (arith, back-zero N Q e)))
  reached-arrives (by_walk i l {d = d} j) =
      let q = walk-record N i l in
      leads {b = d + walk_ticks Q (walk N i)} i d (omega arith) (ap to q) (rw q (omega arith)) (rw q (reached-arrives j))
  reached-arrives (by_hop i l a j) =
      let q = hop-record N i in
      leads {b = after Q (hop N i).arrival} (walk_count N + i) (after Q (hop N i).departure) (omega arith) (ap to q) (rw q (a, omega arith, omega arith)) (rw q (reached-arrives j))
  reached-arrives (Reached.wait {d' = d'} h j) = arrives-up (network N Q) (ways N Q) laws d' h (reached-arrives j)

  ride : (v d b r : ℕ) {x : Record} → Numbered N r x → to x ≡ v → Lead Q x d b → Reached N Q (from x) d → Reached N Q v b
  ride v d b r (of-walk l) f o j = Reached.wait o (rw f at (by_walk r l j))
  ride v d b r (of-hop i l e) f o j = Reached.wait o.2 (rw f at (by_hop i l o.0 (Reached.wait o.1 j)))

  start-reached : (v b : ℕ) → Start N Q v b → Reached N Q v b
  start-reached v b (inl x) = Reached.wait x.1 (rw x.0 at (on-reached N Q))
  start-reached v b (inr x) = Reached.wait x.2 (rw x.0 at (back-reached N Q x.1))

  pub arrives-reached : {v b : ℕ} → Arrives (network N Q) (ways N Q) v b → Reached N Q v b
  arrives-reached {v} {b} (ends s) = start-reached v b s
  arrives-reached {v} {b} (leads r d l f o j) = ride v d b r (numbered N r l) f o (arrives-reached j)

  pub distance-dist : {v d : ℕ} → CourierDistance N Q v d → Dist (network N Q) (ways N Q) v d
  distance-dist x = (reached-arrives x.arrives, λ b j. x.earliest b (arrives-reached j))

  pub dist-distance : {v d : ℕ} → Dist (network N Q) (ways N Q) v d → CourierDistance N Q v d
  dist-distance x = record { arrives = arrives-reached x.0; earliest = λ b j. x.1 b (reached-arrives j) }

  -- The courier's distance is the theory's.
  pub told : Told (network N Q) (ways N Q) (CourierDistance N Q)
  told = record { laws = laws; is-dist = λ v d. distance-dist; dist-is = λ v d. dist-distance; few = omega (arith, allowed-high ok.query) }
