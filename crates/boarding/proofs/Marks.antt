-- What a search may know of the rides while S is settled: hops are marked from which a ride alights at a settled vertex in time. The least that these offer is the next of the
-- order, though a stop may be settled before all rides through it are known. Assumes nothing.
use mathlib.Core.Path.{◌≡◌, refl, sym, ap, subst, fun_ext, ◌∙◌}
use mathlib.Core.Logic.{◌⊎◌, inl, inr, ⊎_elim, ◌↔◌, ◌≢◌}
use mathlib.Core.Bool.{Bool, true, false, cond, ◌&&◌}
use mathlib.Core.List.{List, [], ◌∷◌, ◌++◌}
use Prim.Native.Nat.{ℕ, suc, ◌+◌, ◌-◌, ◌≤◌, ◌<◌, min}
use native.Mathlib.Omega.{arith}
use lib.Dec.{eqb}
use lib.ListN.{length, take}
use Rattle.journeys.specs.Counting.{none, least, In}
use Rattle.journeys.specs.Tables.{Tables, hop, vertex_count, walk_count, hop_count}
use Rattle.journeys.specs.Query.{Query, allowed, before}
use Rattle.journeys.specs.Settled.{Settled, settled}
use Rattle.journeys.specs.Network.{Network, distance_in, within, into, offered, known}
use Rattle.journeys.specs.Records.{Record, from, to, record_at, record_count, seed}
use Rattle.journeys.specs.Valid.{Valid}
use Rattle.journeys.proofs.Tests.{le-or-lt}
use Rattle.journeys.proofs.Counting.{least-empty, least_skip, in_left}
use Rattle.journeys.proofs.Ways.{Ways, Arrives, Dist, Laws}
use Rattle.journeys.proofs.Place.{key, key-up, key-same}
use Rattle.journeys.proofs.Known.{Bound, Next, By, known-most, known-seed, known-record, known_by, beyond, next_low}
use Rattle.journeys.proofs.Firsts.{distance-in, distance-snoc}
use Rattle.journeys.proofs.Step.{through, known_step}
use Rattle.journeys.proofs.Greedy.{State, found}
use Rattle.journeys.proofs.Told as theory
use Rattle.journeys.proofs.Document as document
use Rattle.journeys.proofs.Document.{Numbered, of-walk, of-hop, numbered}
use Rattle.boarding.specs.Rides.{Mode, Stays, Ride, alone, onward}
use Rattle.boarding.specs.RideJourneys.{standing, RideJourney, RideDistance, Aboard}
use Rattle.boarding.specs.RideOrder.{IsRideOrder}
use Rattle.boarding.proofs.Links.{Passes, pass-is}
use Rattle.boarding.proofs.Boards.{boarded, aboard_in, aboard-is, is-aboard, before-mono, ride-spans}
use Rattle.boarding.proofs.Rides.{link_by, ride_link, network_by, journey-arrives}
use Rattle.boarding.proofs.RideOrder.{True, stop-journey, ride_network, ride_ways, ride-told, ride-order}

-- a ride that begins with hop j alights in time at a vertex of S
pub record Marked (N : Tables) (Q : Query) (M : Mode) (S : List Settled) (j : ℕ) : Type 0 where
  pub last : ℕ
  pub figure : ℕ
  pub ride : Ride N M j last
  pub in_time : (hop N last).arrival ≤ Q.arrival
  pub there : In (settled (hop N last).to figure) S
  pub soon : figure ≤ before Q (hop N last).arrival

module _ (N : Tables) (Q : Query) (M : Mode) where
  -- Who is marked is on board in time.
  pub marked-aboard : (S : List Settled) → True N Q M S → (j : ℕ) → Marked N Q M S j → Aboard N Q M j
  marked-aboard S t j m =
      record { last = m.last; ride = m.ride; in_time = m.in_time; on = RideJourney.wait m.soon (t (settled (hop N m.last).to m.figure) m.there).starts }

  -- A set of hops that has those from which one alights at a vertex of S in time, and with a hop those from which one stays for it, has all that are marked: what a search does.
  pub marks-all : (S : List Settled) (mark : ℕ → Bool)
      → ((j x : ℕ) → j < hop_count N → In (settled (hop N j).to x) S → (hop N j).arrival ≤ Q.arrival → x ≤ before Q (hop N j).arrival → mark j ≡ true)
      → ((i j : ℕ) → i < hop_count N → Stays N M i j → mark j ≡ true → mark i ≡ true)
      → (j : ℕ) → Marked N Q M S j → mark j ≡ true
  marks-all S mark base closed j m = go m.ride m.in_time m.there m.soon
    where
      go : {i k : ℕ} → Ride N M i k → (hop N k).arrival ≤ Q.arrival → In (settled (hop N k).to m.figure) S → m.figure ≤ before Q (hop N k).arrival → mark i ≡ true
      go (alone i l) a x h = base i m.figure l x a h
      go (onward i {j = n} l s r) a x h = closed i n l s (go r a x h)

  -- The three ways in which a hop comes to be marked: one alights there, one stays for a marked hop, and it was marked before the last vertex was settled.
  pub mark-alights : (S : List Settled) (j x : ℕ) → j < hop_count N → In (settled (hop N j).to x) S → (hop N j).arrival ≤ Q.arrival → x ≤ before Q (hop N j).arrival → Marked N Q M S j
  mark-alights S j x l i a h = record { last = j; figure = x; ride = alone j l; in_time = a; there = i; soon = h }

  pub mark-stays : (S : List Settled) (i j : ℕ) → i < hop_count N → Stays N M i j → Marked N Q M S j → Marked N Q M S i
  mark-stays S i j l s m = record { last = m.last; figure = m.figure; ride = onward i l s m.ride; in_time = m.in_time; there = m.there; soon = m.soon }

  pub mark-more : (S : List Settled) (x : Settled) (j : ℕ) → Marked N Q M S j → Marked N Q M (S ++ x ∷ []) j
  mark-more S x j m =
      record { last = m.last; figure = m.figure; ride = m.ride; in_time = m.in_time; there = in_left S (x ∷ []) (settled (hop N m.last).to m.figure) m.there; soon = m.soon }

  -- Where nothing is settled no hop is marked,
  pub none-marked : (j : ℕ) → ¬ Marked N Q M [] j
  none-marked j m = m.there

  -- and only the seeds are known.
  pub known-first : (mark : ℕ → Bool) (v : ℕ) → known (network_by N Q M mark) (distance_in []) v ≡ min (seed N Q v) none
  unfolding known offered into within distance_in
  known-first mark v = ap (min (seed N Q v)) (least_skip (offered (network_by N Q M mark) (distance_in []) v) 0 (record_count N) (omega arith) (λ r a b. omega (arith, nothing (eqb (from (record_at N r)) v) ((network_by N Q M mark).offer r none))) ∙ least-empty _)
    where
      nothing : (t : Bool) (x : ℕ) → cond (t && false) x none ≡ none
      nothing true x = refl
      nothing false x = refl

  -- An earlier hop of the same known trip to the same vertex is marked, too: of one vertex and one trip the marked hops are those up to an arrival.
  pub marked-earlier : (S : List Settled) (i j : ℕ) → i < hop_count N → (hop N i).to ≡ (hop N j).to → M.trip i ≡ M.trip j → (hop N i).arrival ≤ (hop N j).arrival
      → Marked N Q M S j → Marked N Q M S i
  marked-earlier S i j l e t h m = go m.ride m.in_time m.there m.soon e t h
    where
      go : {j k : ℕ} → Ride N M j k → (hop N k).arrival ≤ Q.arrival → In (settled (hop N k).to m.figure) S → m.figure ≤ before Q (hop N k).arrival
          → (hop N i).to ≡ (hop N j).to → M.trip i ≡ M.trip j → (hop N i).arrival ≤ (hop N j).arrival → Marked N Q M S i
      go (alone j _) a x s e t h =
          record {
            last = i;
            figure = m.figure;
            ride = alone i l;
            in_time = omega arith;
            there = rw e x;
            soon = omega (arith, before-mono Q (hop N i).arrival (hop N j).arrival h);
          }
      go (onward j {j = n} {k = k} _ s r) a x u e t h =
          let s' : Stays N M i n =
          record { known = λ q. s.known (sym t ∙ q); one_trip = t ∙ s.one_trip; there = e ∙ s.there; in_time = omega (arith, s.in_time) } in
          record { last = k; figure = m.figure; ride = onward i l s' r; in_time = a; there = x; soon = u }

-- after k steps of the order
module _ (N : Tables) (Q : Query) (M : Mode) (ok : Valid N Q) {l : List Settled} (O : IsRideOrder N Q M l) (k : ℕ) where
  abbrev S : List Settled
  S = take k l

  abbrev far : ℕ → ℕ
  far = distance_in (take k l)

  abbrev aboard : ℕ → Bool
  aboard = aboard_in N Q (boarded N Q M)

  -- the network of all rides in time
  abbrev G : Network
  G = ride_network N Q M ok

  abbrev W : Ways
  W = ride_ways N Q M ok

  laws : Laws G W
  laws = (ride-told N Q M ok).laws

  state : State G W S
  state = theory.order-state G W (RideDistance N Q M) (ride-told N Q M ok) ((ride-order N Q M ok).0 O) k

  truth : True N Q M S
  truth x i =
      (ride-told N Q M ok).dist-is x.vertex x.distance
      (subst (λ (d : ℕ). Dist G W x.vertex d) (state.member x i) (state.right x.vertex (omega (arith, state.member x i, state.small x i))))

  -- A settled vertex to which a marked hop leads is within the boarding time of its arrival.
  pub marked-near : (j : ℕ) → Marked N Q M S j → far (hop N j).to < none → far (hop N j).to ≤ standing Q M (hop N j).arrival
  marked-near j m h =
      (truth (settled (hop N j).to (far (hop N j).to)) (distance-in S (hop N j).to h)).latest (standing Q M (hop N j).arrival) (stop-journey N Q M j (marked-aboard N Q M S truth j m))

  -- where the marks are those of S
  module _ (mark : ℕ → Bool)
      (sound : (j : ℕ) → j < hop_count N → mark j ≡ true → Marked N Q M (take k l) j)
      (full : (j : ℕ) → j < hop_count N → Marked N Q M (take k l) j → mark j ≡ true) where
    abbrev H : Network
    H = network_by N Q M mark

    -- ---- marked hops offer no less than all rides do
    marked-passes : (r d b : ℕ) {x : Record} → Numbered N r x → Passes Q (link_by Q M mark (r - walk_count N) x) d b → Passes Q (link_by Q M aboard (r - walk_count N) x) d b
    marked-passes r d b (of-walk _) o = o
    marked-passes r d b (of-hop j h e) o =
        let q : r - walk_count N ≡ j = omega arith in
        let m = sound j h (ap mark (sym q) ∙ o.0) in
        (ap aboard q ∙ is-aboard N Q M ok j h (marked-aboard N Q M S truth j m), o.1, o.2)

    known-lower : (v : ℕ) → known G far v ≤ known H far v
    known-lower v = ⊎_elim (λ (q : none ≤ known H far v). omega (arith, known-most G far v)) (λ (q : known H far v < none). go q (known_by H far v (known H far v) q (omega arith))) (le-or-lt none (known H far v))
      where
        go : known H far v < none → By H far v (known H far v) → known G far v ≤ known H far v
        go q (inl s) = omega (arith, known-seed G far v)
        go q (inr (r, i, o)) =
            let d = far (to (record_at N r)) in
            let p = (pass-is Q (ride_link N Q M mark r) d (known H far v) q).1 o in
            let p' = (pass-is Q (ride_link N Q M aboard r) d (known H far v) q).0 (marked-passes r d (known H far v) (numbered N r i.0) p) in
            omega (arith, known-record G far v r i)

    -- ---- a hop on board in time that offers no more than all that is known is marked: its ride ends at a vertex that is nearer, so in S, or no time passes and one may alight at once
    near-marked : (b j : ℕ) → j < hop_count N → b ≤ none → Bound G far b → Aboard N Q M j → far (hop N j).to < none → far (hop N j).to ≤ standing Q M (hop N j).arrival
        → standing Q M (hop N j).departure ≤ b → Marked N Q M S j
    near-marked b j h bn low a s near o =
        ⊎_elim
        (λ (q : none ≤ far z).
        let far-off = beyond G W laws state.right b bn low x q in
        record { last = j; figure = far (hop N j).to; ride = alone j h; in_time = omega (arith, spans.1, a.in_time); there = distance-in S (hop N j).to s; soon = omega (arith, up, across) })
        (λ (q : far z < none).
        record { last = a.last; figure = far z; ride = a.ride; in_time = a.in_time; there = distance-in S z q; soon = (state.right z q).1 (before Q (hop N a.last).arrival) x })
        (le-or-lt none (far z))
      where
        z : ℕ
        z = (hop N a.last).to

        x : Arrives G W z (before Q (hop N a.last).arrival)
        x = journey-arrives N Q M ok aboard (aboard-is N Q M ok) (is-aboard N Q M ok) a.on

        spans : ((hop N j).departure ≤ (hop N j).arrival) × ((hop N j).arrival ≤ (hop N a.last).arrival)
        spans = ride-spans ok.tables a.ride

        up : before Q (hop N j).arrival ≤ before Q (hop N j).departure
        up = before-mono Q (hop N j).departure (hop N j).arrival spans.0

        across : before Q (hop N a.last).arrival ≤ before Q (hop N j).arrival
        across = before-mono Q (hop N j).arrival (hop N a.last).arrival spans.1

    near-passes : (b r : ℕ) {y : Record} → Numbered N r y → b ≤ none → Bound G far b → far (to y) < none → Passes Q (link_by Q M aboard (r - walk_count N) y) (far (to y)) b
        → Passes Q (link_by Q M mark (r - walk_count N) y) (far (to y)) b
    near-passes b r (of-walk _) bn low s o = o
    near-passes b r (of-hop j h e) bn low s o =
        let q : r - walk_count N ≡ j = omega arith in
        let a = aboard-is N Q M ok j h (ap aboard (sym q) ∙ o.0) in
        (ap mark q ∙ full j h (near-marked b j h bn low a s o.1 o.2), o.1, o.2)

    -- What is known by all rides of the least known vertex outside S is known by the marked ones.
    known_same : (v : ℕ) → known G far v < none → Bound G far (known G far v) → known H far v ≡ known G far v
    known_same v q low = let u = go (known_by G far v (known G far v) q (omega arith)) in omega (arith, known-lower v, u)
      where
        go : By G far v (known G far v) → known H far v ≤ known G far v
        go (inl s) = omega (arith, known-seed H far v)
        go (inr (r, i, o)) =
            let d = far (to (record_at N r)) in
            let p = (pass-is Q (ride_link N Q M aboard r) d (known G far v) q).1 o in
            let p' = (pass-is Q (ride_link N Q M mark r) d (known G far v) q).0 (near-passes (known G far v) r (numbered N r i.0) (known-most G far v) low i.2 p) in
            omega (arith, known-record H far v r i)

    D-low : allowed Q < none
    D-low = document.allowed-low N Q ok

    -- The least known of the vertices outside S by the marked hops, if within D, is the next in the order, with its distance.
    pub next-settled : k ≤ length l → (v : ℕ) → Next H far v → known H far v ≤ allowed Q → (k < length l) × (take (suc k) l ≡ take k l ++ settled v (known H far v) ∷ [])
    next-settled kl v X h = go (found G W laws (allowed Q) D-low far)
      where
        go : ((w : ℕ) × Next G far w × (known G far w ≤ allowed Q)) ⊎ Bound G far (suc (allowed Q)) → (k < length l) × (take (suc k) l ≡ take k l ++ settled v (known H far v) ∷ [])
        go (inr low) = absurd (let c : ⊥ = omega (arith, low v X.low X.out, known-lower v) in c)
        go (inl (w, Y, g)) =
            let s = known_same w Y.some (next_low G W laws state.right w Y) in
            let one : key (vertex_count N) (known H far v) v ≤ key (vertex_count N) (known G far w) w = rw s at (X.least w Y.low Y.out) in
            let two = Y.least v X.low X.out in
            let three = key-up (vertex_count N) v (known G far v) (known H far v) (known-lower v) in
            let e : v ≡ w = key-same (vertex_count N) (known H far v) (known G far w) X.low Y.low (omega arith) in
            let n = theory.next-settled G W (RideDistance N Q M) (ride-told N Q M ok) ((ride-order N Q M ok).0 O) k kl w Y g in
            let e' : w ≡ v = sym e in
            let d : known G far w ≡ known H far v = sym s ∙ ap (known H far) e' in
            let f : settled w (known G far w) ≡ settled v (known H far v) = λ t. record { vertex = e' t; distance = d t } in
            (n.0, n.1 ∙ ap (λ (x : Settled). take k l ++ x ∷ []) f)

    -- If no vertex outside S is known by them within D, S is everything within D, and the other way round.
    pub all_settled : Bound H far (suc (allowed Q)) ↔ (length l ≤ k)
    all_settled = (λ b. whole.0 (there b (found G W laws (allowed Q) D-low far)), λ h u un uo. omega (arith, whole.1 h u un uo, known-lower u))
      where
        whole : Bound G far (suc (allowed Q)) ↔ (length l ≤ k)
        whole = theory.all_settled G W (RideDistance N Q M) (ride-told N Q M ok) ((ride-order N Q M ok).0 O) k

        there : Bound H far (suc (allowed Q)) → ((w : ℕ) × Next G far w × (known G far w ≤ allowed Q)) ⊎ Bound G far (suc (allowed Q)) → Bound G far (suc (allowed Q))
        there b (inr low) = low
        there b (inl (w, Y, g)) = absurd (let c : ⊥ = omega (arith, b w Y.low Y.out, known_same w Y.some (next_low G W laws state.right w Y)) in c)

    -- When that vertex is settled and no hop is marked yet for it, the records to it add their offers; `OneMark` says what each hop adds that is marked then.
    pub known-after : k ≤ length l → (v : ℕ) → Next H far v → known H far v ≤ allowed Q
        → (u : ℕ) → known H (distance_in (take (suc k) l)) u ≡ min (known H far u) (least (through H v (known H far v) u) (record_count N))
    known-after kl v X h u =
        ap (λ (f : ℕ → ℕ). known H f u) (ap distance_in (next-settled kl v X h).1 ∙ fun_ext (λ w. distance-snoc S v (known H far v) w fresh)) ∙ known_step H far v (known H far v) X.out X.some u
      where
        fresh : (y : Settled) → In y S → y.vertex ≢ v
        fresh y i e = omega (arith, state.small y i, rw e at (state.member y i), X.out)
