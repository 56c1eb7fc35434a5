-- Where no walk has a wait, the courier's distances are the ordinary ones of the tables turned round. Assumes nothing.
use mathlib.Core.Path.{◌≡◌, refl, sym, ap, ap₂, subst, ◌∙◌}
use mathlib.Core.Logic.{◌≢◌, ◌↔◌}
use mathlib.Core.Bool.{Bool, true, false, cond}
use Prim.Native.Nat.{ℕ, ◌+◌, ◌-◌, ◌*◌, ◌≤◌, ◌<◌}
use native.Mathlib.Omega.{arith}
use lib.Dec.{eqb}
use Rattle.journeys.specs.Counting.{none}
use Rattle.journeys.specs.Tables.{Tables, Walk, Hop, walk, hop, walk_count, hop_count}
use Rattle.journeys.specs.Query.{Query, before, after, asked, asked_twin, wait_ticks, past_ticks, walk_ticks, from_ticks, to_ticks}
use Rattle.journeys.specs.Journeys.{Journey, Distance}
use Rattle.journeys.specs.CourierJourneys.{Reached, CourierDistance}
use Rattle.journeys.specs.CourierMirror.{turned_walk, turned_hop, turned, turned_query}
use Rattle.journeys.specs.Valid.{Valid}
use Rattle.journeys.proofs.Counting.{length-joined, get_d-joined}
use Rattle.journeys.proofs.Valid.{good-hop, paired}

module _ (N : Tables) (Q : Query) (ok : Valid N Q) (still : (i : ℕ) → i < walk_count N → (walk N i).wait ≡ 0) where
  abbrev N' : Tables
  N' = turned N Q

  abbrev Q' : Query
  Q' = turned_query N Q

  -- ---- the records of the turned tables
  walks_same : walk_count N' ≡ walk_count N
  unfolding turned
  walks_same = length-joined (λ i. turned_walk (walk N i)) (walk_count N)

  hops-same : hop_count N' ≡ hop_count N
  unfolding turned
  hops-same = length-joined (λ j. turned_hop Q.arrival (hop N j)) (hop_count N)

  walk-turned : (i : ℕ) → i < walk_count N → walk N' i ≡ turned_walk (walk N i)
  unfolding turned
  walk-turned i l = get_d-joined (λ i. turned_walk (walk N i)) (walk_count N) i _ l

  hop-turned : (j : ℕ) → j < hop_count N → hop N' j ≡ turned_hop Q.arrival (hop N j)
  unfolding turned
  hop-turned j l = get_d-joined (λ j. turned_hop Q.arrival (hop N j)) (hop_count N) j _ l

  asked-turned : asked N' Q' ≡ turned_walk (asked N Q)
  unfolding turned_query
  asked-turned = walk-turned Q.walk ok.query.walk_low

  -- ---- no wait costs nothing
  no-wait : (w : Walk) → w.wait ≡ 0 → wait_ticks Q w ≡ 0
  no-wait w e = ap (λ (x : ℕ). x * Q.speed) e ∙ omega arith

  twin-still : (asked N Q).twin ≢ none → (asked_twin N Q).wait ≡ 0
  twin-still n = still (asked N Q).twin (paired N ok.tables Q.walk ok.query.walk_low n).0

  none-past : (w : Walk) (o : ℕ) → w.wait ≡ 0 → past_ticks Q w o ≡ 0
  none-past w o e = go (eqb o w.len)
    where
      go : (t : Bool) → cond t (wait_ticks Q w) 0 ≡ 0
      go true = no-wait w e
      go false = refl

  walk-ticks : (i : ℕ) → i < walk_count N → walk_ticks Q' (walk N' i) ≡ walk_ticks Q (walk N i)
  unfolding turned_query
  walk-ticks i l = ap (walk_ticks Q) (walk-turned i l)

  from-ticks : from_ticks N' Q' ≡ ((asked N Q).len - Q.offset) + wait_ticks Q (asked N Q)
  unfolding turned_query
  from-ticks =
      let e = still Q.walk ok.query.walk_low in
      ap (λ (w : Walk). ((asked N Q).len - Q.offset) + past_ticks Q w ((asked N Q).len - Q.offset)) asked-turned
      ∙ omega (arith, none-past (turned_walk (asked N Q)) ((asked N Q).len - Q.offset) e, no-wait (asked N Q) e)

  twin-turned : (asked N' Q').twin ≡ (asked N Q).twin
  twin-turned = ap (λ (w : Walk). w.twin) asked-turned

  to-ticks : (asked N Q).twin ≢ none → to_ticks N' Q' ≡ Q.offset + wait_ticks Q (asked_twin N Q)
  unfolding turned_query
  to-ticks n =
      let t = (paired N ok.tables Q.walk ok.query.walk_low n).0 in
      let e = twin-still n in
      let w : asked_twin N' Q' ≡ turned_walk (asked_twin N Q) = ap (walk N') twin-turned ∙ walk-turned (asked N Q).twin t in
      let o : (asked N' Q').len - Q'.offset ≡ Q.offset = ap (λ (x : Walk). x.len - ((asked N Q).len - Q.offset)) asked-turned ∙ omega (arith, ok.query.offset_low) in
      ap₂ (λ (k : ℕ) (x : Walk). k + past_ticks Q x k) o w
      ∙ omega (arith, none-past (turned_walk (asked_twin N Q)) Q.offset e, no-wait (asked_twin N Q) e)

  -- ---- hops, as long before T as behind it
  in_reach : (j : ℕ) → j < hop_count N → ((hop N j).departure ≤ Q.arrival + Q.arrival) × ((hop N j).arrival ≤ Q.arrival + Q.arrival)
  in_reach j l =
      let g = good-hop N ok.tables j l in
      (omega (arith, g.rides, g.arrival_high, ok.query.arrival_low), omega (arith, g.arrival_high, ok.query.arrival_low))

  leaves-turned : (j : ℕ) → j < hop_count N → before Q' (hop N' j).arrival ≡ after Q (hop N j).departure
  unfolding turned_query
  leaves-turned j l =
      ap (λ (h : Hop). (Q.arrival - h.arrival) * Q.speed) (hop-turned j l) ∙ ap (λ (x : ℕ). x * Q.speed) (omega (arith, (in_reach j l).0))

  arrives-turned : (j : ℕ) → j < hop_count N → before Q' (hop N' j).departure ≡ after Q (hop N j).arrival
  unfolding turned_query
  arrives-turned j l =
      ap (λ (h : Hop). (Q.arrival - h.departure) * Q.speed) (hop-turned j l) ∙ ap (λ (x : ℕ). x * Q.speed) (omega (arith, (in_reach j l).1))

  in_time : (j : ℕ) → j < hop_count N → (Q.arrival ≤ (hop N j).departure) ↔ ((hop N' j).arrival ≤ Q'.arrival)
  unfolding turned_query
  in_time j l = (
    λ a. rw (hop-turned j l) (omega (arith, (in_reach j l).0)),
    λ a. let z : (Q.arrival + Q.arrival) - (hop N j).departure ≤ Q.arrival = rw (hop-turned j l) at a in omega (arith, (in_reach j l).0),
  )

  -- ---- the journeys
  there : {v v' d d' : ℕ} → v ≡ v' → d ≡ d' → Journey N' Q' v d → Journey N' Q' v' d'
  there {v} {v'} {d} {d'} p q j = subst (λ (u : ℕ). Journey N' Q' u d') p (subst (λ (x : ℕ). Journey N' Q' v x) q j)

  here : {v v' d d' : ℕ} → v ≡ v' → d ≡ d' → Reached N Q v d → Reached N Q v' d'
  here {v} {v'} {d} {d'} p q j = subst (λ (u : ℕ). Reached N Q u d') p (subst (λ (x : ℕ). Reached N Q v x) q j)

  -- Where the courier can be d ticks after T, who leaves d ticks before T is in time the other way.
  pub reached-turned : {v d : ℕ} → Reached N Q v d → Journey N' Q' v d
  unfolding turned_query
  reached-turned Reached.along = there (ap (λ (w : Walk). w.from) asked-turned) from-ticks Journey.from_end
  reached-turned (Reached.along_twin n) = there (ap (λ (w : Walk). w.to) asked-turned) (to-ticks n) (Journey.to_end (λ z. n (sym twin-turned ∙ z)))
  reached-turned (Reached.at_to e) =
      there (ap (λ (w : Walk). w.from) asked-turned) (from-ticks ∙ omega (arith, e, no-wait (asked N Q) (still Q.walk ok.query.walk_low))) Journey.from_end
  reached-turned (Reached.at_from e) =
      there (ap (λ (w : Walk). w.to) asked-turned) refl (Journey.at_to (let q : (asked N Q).len - Q.offset ≡ (asked N Q).len = omega arith in q ∙ sym (ap (λ (w : Walk). w.len) asked-turned)))
  reached-turned (Reached.by_walk i l {d = d} j) =
      there (ap (λ (w : Walk). w.from) (walk-turned i l)) (ap (λ (x : ℕ). d + x) (walk-ticks i l))
      (Journey.by_walk i (rw walks_same l) (there (sym (ap (λ (w : Walk). w.to) (walk-turned i l))) refl (reached-turned j)))
  reached-turned (Reached.by_hop i l a j) =
      there (ap (λ (h : Hop). h.from) (hop-turned i l)) (arrives-turned i l)
      (Journey.by_hop i (rw hops-same l) ((in_time i l).0 a) (there (sym (ap (λ (h : Hop). h.to) (hop-turned i l))) (sym (leaves-turned i l)) (reached-turned j)))
  reached-turned (Reached.wait h j) = Journey.wait h (reached-turned j)

  -- And the other way.
  pub turned-reached : {v d : ℕ} → Journey N' Q' v d → Reached N Q v d
  unfolding turned_query
  turned-reached Journey.from_end = here (sym (ap (λ (w : Walk). w.from) asked-turned)) (sym from-ticks) Reached.along
  turned-reached (Journey.to_end n) =
      let m : (asked N Q).twin ≢ none = λ z. n (twin-turned ∙ z) in
      here (sym (ap (λ (w : Walk). w.to) asked-turned)) (sym (to-ticks m)) (Reached.along_twin m)
  turned-reached (Journey.at_to e) =
      let q : (asked N Q).len - Q.offset ≡ (asked N Q).len = e ∙ ap (λ (w : Walk). w.len) asked-turned in
      here (sym (ap (λ (w : Walk). w.to) asked-turned)) refl (Reached.at_from (omega (arith, q, ok.query.offset_low)))
  turned-reached (Journey.by_walk i l {d = d} j) =
      let k : i < walk_count N = rw walks_same at l in
      here (sym (ap (λ (w : Walk). w.from) (walk-turned i k))) (ap (λ (x : ℕ). d + x) (sym (walk-ticks i k)))
      (Reached.by_walk i k (here (ap (λ (w : Walk). w.to) (walk-turned i k)) refl (turned-reached j)))
  turned-reached (Journey.by_hop i l a j) =
      let k : i < hop_count N = rw hops-same at l in
      here (sym (ap (λ (h : Hop). h.from) (hop-turned i k))) (sym (arrives-turned i k))
      (Reached.by_hop i k ((in_time i k).1 a) (here (ap (λ (h : Hop). h.to) (hop-turned i k)) (leaves-turned i k) (turned-reached j)))
  turned-reached (Journey.wait h j) = Reached.wait h (turned-reached j)

  -- The courier's distances are the ordinary ones of the tables turned round.
  pub mirror : (v d : ℕ) → CourierDistance N Q v d ↔ Distance (turned N Q) (turned_query N Q) v d
  mirror v d = (
    λ x. record { starts = reached-turned x.arrives; latest = λ d' j. x.earliest d' (turned-reached j) },
    λ x. record { arrives = turned-reached x.starts; earliest = λ d' j. x.latest d' (reached-turned j) },
  )
