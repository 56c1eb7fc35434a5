-- Being on board is a vertex: a network of the vertices and, behind them, of the hops, with links to walk, to board, to stay and to alight. Its journeys are those with
-- rides. From it: whether one on board is in time can be decided. Assumes nothing.
use mathlib.Core.Path.{◌≡◌, refl, sym, ap, subst, ◌∙◌}
use mathlib.Core.Logic.{◌⊎◌, inl, inr, ⊎_elim, ◌↔◌, ◌≢◌}
use mathlib.Core.Bool.{Bool, true, false, not, cond, ◌&&◌}
use mathlib.Core.List.{List, []}
use Prim.Native.Nat.{ℕ, suc, ◌+◌, ◌-◌, ◌*◌, ◌/◌, ◌%◌, ◌≤◌, ◌<◌}
use native.Mathlib.Nat.{mul-le-mul, mul-le-mul_right, div-lt_iff_lt-mul}
use native.Mathlib.Omega.{arith}
use lib.Arith.{digits_div, digits_mod}
use lib.Dec.{eqb, leb, ltb}
use borrow.Author.Tests.{eqb-true, eqb-false, leb-true, eq-eqb, ne_eqb, le-leb, lt-ltb, le-ltb, not-true}
use Rattle.journeys.specs.Counting.{none}
use Rattle.journeys.specs.Tables.{Tables, walk, hop, vertex_count, walk_count, hop_count}
use Rattle.journeys.specs.Query.{Query, before, asked, walk_ticks, from_ticks, to_ticks}
use Rattle.journeys.specs.Settled.{Settled}
use Rattle.journeys.specs.Network.{Network, distance_in}
use Rattle.journeys.specs.Records.{seed}
use Rattle.journeys.specs.Valid.{Valid, ValidTables}
use Rattle.journeys.proofs.Tests.{split, and_both, and-true, cond-true, cond-false, le-or-lt}
use Rattle.journeys.proofs.Ways.{Ways, Arrives, ends, leads, Laws, arrives-up}
use Rattle.journeys.proofs.Gates.{seeds-are}
use Rattle.journeys.proofs.Known.{ended}
use Rattle.journeys.proofs.Greedy.{Ran, run, run_ran, all_known, empty}
use Rattle.journeys.proofs.Valid.{good-walk, good-hop}
use Rattle.journeys.proofs.Document as document
use Rattle.boarding.specs.Rides.{Mode, Stays, Ride, alone, onward}
use Rattle.boarding.specs.RideJourneys.{standing, RideJourney, from_end, to_end, at_to, by_walk, by_ride, Aboard}
use Rattle.boarding.proofs.Links.{Link, foot, gate, pass, Passes, Forward, pass_up, pass-down, pass_le, pass-is}

-- ---- staying, as a test
unfoldable pub stays_test : Tables → Mode → ℕ → ℕ → Bool
stays_test N M i j =
    not (eqb (M.trip i) 0) && (eqb (M.trip i) (M.trip j) && (eqb (hop N i).to (hop N j).from && leb (hop N i).arrival (hop N j).departure))

pub stays-is : (N : Tables) (M : Mode) (i j : ℕ) → stays_test N M i j ≡ true → Stays N M i j
unfolding stays_test
stays-is N M i j e =
    let x = and_both (not (eqb (M.trip i) 0)) _ e in
    let y = and_both (eqb (M.trip i) (M.trip j)) _ x.1 in
    let z = and_both (eqb (hop N i).to (hop N j).from) _ y.1 in
    record {
      known = eqb-false (M.trip i) 0 (not-true _ x.0);
      one_trip = eqb-true (M.trip i) (M.trip j) y.0;
      there = eqb-true (hop N i).to (hop N j).from z.0;
      in_time = leb-true (hop N i).arrival (hop N j).departure z.1;
    }

pub is-stays : (N : Tables) (M : Mode) (i j : ℕ) → Stays N M i j → stays_test N M i j ≡ true
unfolding stays_test
is-stays N M i j s =
    and-true (ap not (ne_eqb (M.trip i) 0 s.known))
    (and-true (eq-eqb (M.trip i) (M.trip j) s.one_trip) (and-true (eq-eqb (hop N i).to (hop N j).from s.there) (le-leb (hop N i).arrival (hop N j).departure s.in_time)))

-- the first hop of a ride is one
pub first-low : {N : Tables} {M : Mode} {j k : ℕ} → Ride N M j k → j < hop_count N
first-low (alone j l) = l
first-low (onward j l s r) = l

-- A ride ends no earlier than its first hop arrives, and that hop leaves no later.
pub ride-spans : {N : Tables} {M : Mode} → ValidTables N → {i k : ℕ} → Ride N M i k → ((hop N i).departure ≤ (hop N i).arrival) × ((hop N i).arrival ≤ (hop N k).arrival)
ride-spans {N} ok (alone j l) = ((good-hop N ok j l).rides, omega arith)
ride-spans {N} ok (onward i l s r) = let h = ride-spans ok r in ((good-hop N ok i l).rides, omega (arith, s.in_time, h.0, h.1))

-- ---- the links by their numbers: walks, then for each hop one to stay for every hop, one to board it and one to alight
pub data Road : Type 0 where
  walks : ℕ → Road
  boards : ℕ → Road
  alights : ℕ → Road
  stays : ℕ → ℕ → Road

abbrev wide : Tables → ℕ
wide N = hop_count N + 2

abbrev roads : Tables → ℕ
roads N = walk_count N + hop_count N * wide N

unfoldable pub of_hop : Tables → ℕ → ℕ → Road
of_hop N j c = cond (ltb c (hop_count N)) (stays j c) (cond (eqb c (hop_count N)) (boards j) (alights j))

unfoldable pub road_at : Tables → ℕ → Road
road_at N r = cond (ltb r (walk_count N)) (walks r) (of_hop N ((r - walk_count N) / wide N) ((r - walk_count N) % wide N))

-- a road that there is
pub data Real (N : Tables) : Road → Type 0 where
  a-walk : (i : ℕ) → i < walk_count N → Real N (walks i)
  a-board : (j : ℕ) → j < hop_count N → Real N (boards j)
  an-alight : (j : ℕ) → j < hop_count N → Real N (alights j)
  a-stay : (j k : ℕ) → j < hop_count N → k < hop_count N → Real N (stays j k)

module _ (N : Tables) where
  hop-real : (j c : ℕ) → j < hop_count N → Real N (of_hop N j c)
  unfolding of_hop
  hop-real j c l =
      ⊎_elim (λ (h : hop_count N ≤ c).
      subst (Real N) (sym (cond-false (stays j c) _ (le-ltb c (hop_count N) h))) (last (split (eqb c (hop_count N)))))
      (λ (h : c < hop_count N). subst (Real N) (sym (cond-true (stays j c) _ (lt-ltb c (hop_count N) h))) (a-stay j c l h))
      (le-or-lt (hop_count N) c)
    where
      last : (eqb c (hop_count N) ≡ true) ⊎ (eqb c (hop_count N) ≡ false) → Real N (cond (eqb c (hop_count N)) (boards j) (alights j))
      last (inl t) = subst (Real N) (sym (cond-true (boards j) (alights j) t)) (a-board j l)
      last (inr t) = subst (Real N) (sym (cond-false (boards j) (alights j) t)) (an-alight j l)

  pub road-real : (r : ℕ) → r < roads N → Real N (road_at N r)
  unfolding road_at
  road-real r l =
      ⊎_elim (λ (h : walk_count N ≤ r).
      let q : r - walk_count N < hop_count N * wide N = omega arith in
      let j : (r - walk_count N) / wide N < hop_count N = (div-lt_iff_lt-mul (let z : 0 < wide N = omega arith in z)).1 q in
      subst (Real N) (sym (cond-false (walks r) _ (le-ltb r (walk_count N) h))) (hop-real ((r - walk_count N) / wide N) ((r - walk_count N) % wide N) j))
      (λ (h : r < walk_count N). subst (Real N) (sym (cond-true (walks r) _ (lt-ltb r (walk_count N) h))) (a-walk r h))
      (le-or-lt (walk_count N) r)

  abbrev Numbered : Road → Type 0
  Numbered x = (r : ℕ) × (r < roads N) × (road_at N r ≡ x)

  hop-number : (j c : ℕ) → j < hop_count N → c < wide N → Numbered (of_hop N j c)
  unfolding road_at
  hop-number j c l h =
      let r = walk_count N + (j * wide N + c) in
      let up : suc j * wide N ≤ hop_count N * wide N = mul-le-mul_right (wide N) l in
      let q : r - walk_count N ≡ j * wide N + c = omega arith in
      let low : walk_count N ≤ r = omega arith in (
        r,
        omega arith,
        cond-false (walks r) _ (le-ltb r (walk_count N) low)
            ∙ ap (λ (x : ℕ). of_hop N (x / wide N) (x % wide N)) q
            ∙ ap (λ (x : ℕ). of_hop N x ((j * wide N + c) % wide N)) (digits_div j h)
            ∙ ap (λ (x : ℕ). of_hop N j x) (digits_mod j h),
      )

  pub number : {x : Road} → Real N x → Numbered x
  unfolding road_at of_hop
  number (a-walk i l) = (i, omega arith, cond-true (walks i) _ (lt-ltb i (walk_count N) l))
  number (a-stay j k l h) =
      let x = hop-number j k l (omega arith) in (x.0, x.1, x.2 ∙ cond-true (stays j k) _ (lt-ltb k (hop_count N) h))
  number (a-board j l) =
      let n = hop_count N in
      let x = hop-number j n l (omega arith) in
      let q : n ≤ n = omega arith in
      (x.0, x.1, x.2 ∙ cond-false (stays j n) _ (le-ltb n n q) ∙ cond-true (boards j) (alights j) (eq-eqb n n refl))
  number (an-alight j l) =
      let n = hop_count N in
      let c = hop_count N + 1 in
      let x = hop-number j c l (omega arith) in
      let q : n ≤ c = omega arith in
      let ne : c ≢ n = omega arith in
      (x.0, x.1, x.2 ∙ cond-false (stays j c) _ (le-ltb c n q) ∙ cond-false (boards j) (alights j) (ne_eqb c n ne))

-- ---- the network: hop j is the vertex behind the vertices, with the ticks before T at which it leaves
abbrev pub seat : Tables → ℕ → ℕ
seat N j = vertex_count N + j

abbrev pub from : Tables → Road → ℕ
from N (walks i) = (walk N i).from
from N (boards j) = (hop N j).from
from N (alights j) = seat N j
from N (stays j k) = seat N j

abbrev pub to : Tables → Road → ℕ
to N (walks i) = (walk N i).to
to N (boards j) = seat N j
to N (alights j) = (hop N j).to
to N (stays j k) = seat N k

abbrev pub link_of : Tables → Query → Mode → Road → Link
link_of N Q M (walks i) = foot (walk N i)
link_of N Q M (boards j) = gate true (before Q (hop N j).departure) (standing Q M (hop N j).departure)
link_of N Q M (alights j) = gate (leb (hop N j).arrival Q.arrival) (before Q (hop N j).arrival) (before Q (hop N j).departure)
link_of N Q M (stays j k) = gate (stays_test N M j k) (before Q (hop N j).arrival) (before Q (hop N j).departure)

-- above any second of a good hop in ticks before T
abbrev pub longest : ℕ
longest = 25920000

abbrev pub board_network : Tables → Query → Mode → Network
board_network N Q M =
    record {
      vertices = vertex_count N + hop_count N;
      records = walk_count N + hop_count N * (hop_count N + 2);
      allowed = longest;
      from = λ r. from N (road_at N r);
      to = λ r. to N (road_at N r);
      seed = seed N Q;
      offer = λ r. pass Q (link_of N Q M (road_at N r));
    }

abbrev pub board_ways : Tables → Query → Mode → Ways
board_ways N Q M = record { Ends = document.End N Q; Leads = λ r. Passes Q (link_of N Q M (road_at N r)) }

pub seed-are : (N : Tables) (Q : Query) (v b : ℕ) → b < none → document.End N Q v b ↔ (seed N Q v ≤ b)
unfolding seed
seed-are N Q v b l = seeds-are (asked N Q).from (asked N Q).to (asked N Q).twin Q.offset (asked N Q).len (from_ticks N Q) (to_ticks N Q) v b l

pub before-mono : (Q : Query) (x y : ℕ) → x ≤ y → before Q y ≤ before Q x
before-mono Q x y h = mul-le-mul_right Q.speed (let q : Q.arrival - y ≤ Q.arrival - x = omega arith in q)

-- what a search of the network finds, and by it whether one on board of hop j is in time
unfoldable pub boarded : Tables → Query → Mode → List Settled
boarded N Q M = run (board_network N Q M) longest (vertex_count N + hop_count N) []

unfoldable pub aboard_in : Tables → Query → List Settled → ℕ → Bool
aboard_in N Q S j = leb (distance_in S (seat N j)) (before Q (hop N j).departure)

-- ---- who may start at an end of the query has a journey with rides, too
pub end-rides : (N : Tables) (Q : Query) (M : Mode) (v b : ℕ) → document.End N Q v b → RideJourney N Q M v b
end-rides N Q M v b (inl x) = let j : RideJourney N Q M (asked N Q).from (from_ticks N Q) = from_end in RideJourney.wait x.1 (rw x.0 at j)
end-rides N Q M v b (inr x) = go x.1
  where
    go : ((asked N Q).twin ≢ none) ⊎ (Q.offset ≡ (asked N Q).len) → RideJourney N Q M v b
    go (inl n) = let j : RideJourney N Q M (asked N Q).to (to_ticks N Q) = to_end n in RideJourney.wait x.2 (rw x.0 at j)
    go (inr e) =
        let j : RideJourney N Q M (asked N Q).to 0 = at_to e in
        let z : 0 ≤ b = omega arith in
        RideJourney.wait z (rw x.0 at j)

module _ (N : Tables) (Q : Query) (M : Mode) (ok : Valid N Q) where
  abbrev G : Network
  G = board_network N Q M

  abbrev W : Ways
  W = board_ways N Q M

  from_low : {x : Road} → Real N x → from N x < vertex_count N + hop_count N
  from_low (a-walk i l) = omega (arith, (good-walk N ok.tables i l).from_low)
  from_low (a-board j l) = omega (arith, (good-hop N ok.tables j l).from_low)
  from_low (an-alight j l) = omega arith
  from_low (a-stay j k l h) = omega arith

  forward : {x : Road} → Real N x → Forward (link_of N Q M x)
  forward (a-walk i l) = tt
  forward (a-board j l) = omega arith
  forward (an-alight j l) = before-mono Q (hop N j).departure (hop N j).arrival (good-hop N ok.tables j l).rides
  forward (a-stay j k l h) = before-mono Q (hop N j).departure (hop N j).arrival (good-hop N ok.tables j l).rides

  pub board-laws : Laws G W
  board-laws =
      record {
        from_low = λ r l. from_low (road-real N r l);
        ends_low = λ v b e. omega (arith, (document.laws N Q ok).ends_low v b e);
        ends-up = λ v b b' h e. (document.laws N Q ok).ends-up v b b' h e;
        leads-up = λ r d b b' h o. pass_up Q (link_of N Q M (road_at N r)) d b b' h o;
        leads-down = λ r d d' b h o. pass-down Q (link_of N Q M (road_at N r)) d d' b h o;
        leads-le = λ r d b l o. pass_le Q (link_of N Q M (road_at N r)) d b (forward (road-real N r l)) o;
        seed-is = λ v b vn l. seed-are N Q v b l;
        offer-is = λ r d b rl l. pass-is Q (link_of N Q M (road_at N r)) d b l;
      }

  -- ---- what a journey of the network is: from a vertex a journey with rides, from a hop being on board in time
  pub record Meant (u b : ℕ) : Type 0 where
    pub stood : u < vertex_count N → RideJourney N Q M u b
    pub seated : (j : ℕ) → u ≡ seat N j → Aboard N Q M j

  standing-at : {u b : ℕ} → u < vertex_count N → RideJourney N Q M u b → Meant u b
  standing-at l j = record { stood = λ _. j; seated = λ k e. absurd (let z : ⊥ = omega arith in z) }

  seated-on : {u b : ℕ} (j : ℕ) → u ≡ seat N j → Aboard N Q M j → Meant u b
  seated-on {u} {b} j e a =
      record { stood = λ h. absurd (let z : ⊥ = omega arith in z); seated = λ k f. subst (Aboard N Q M) (let z : j ≡ k = omega arith in z) a }

  by-road : (u d b : ℕ) {x : Road} → Real N x → from N x ≡ u → Passes Q (link_of N Q M x) d b → Meant (to N x) d → Meant u b
  by-road u d b (a-walk i l) f o m =
      let g = good-walk N ok.tables i l in
      standing-at (rw f at g.from_low) (RideJourney.wait o (rw f at (by_walk i l (m.stood g.to_low))))
  by-road u d b (a-board j l) f o m =
      let g = good-hop N ok.tables j l in
      let a = m.seated j refl in
      standing-at (rw f at g.from_low) (RideJourney.wait o.2 (rw f at (by_ride a.ride a.in_time a.on)))
  by-road u d b (an-alight j l) f o m =
      let g = good-hop N ok.tables j l in
      seated-on j (sym f) (record { last = j; ride = alone j l; in_time = leb-true _ _ o.0; on = RideJourney.wait o.1 (m.stood g.to_low) })
  by-road u d b (a-stay j k l h) f o m =
      let a = m.seated k refl in
      seated-on j (sym f) (record { last = a.last; ride = onward j l (stays-is N M j k o.0) a.ride; in_time = a.in_time; on = a.on })

  pub arrives-meant : {u b : ℕ} → Arrives G W u b → Meant u b
  arrives-meant {u} {b} (ends s) = standing-at ((document.laws N Q ok).ends_low u b s) (end-rides N Q M u b s)
  arrives-meant {u} {b} (leads r d l f o j) = by-road u d b (road-real N r l) f o (arrives-meant j)

  -- ---- and back
  by-real : (d b : ℕ) {x : Road} → Real N x → Passes Q (link_of N Q M x) d b → Arrives G W (to N x) d → Arrives G W (from N x) b
  by-real d b {x} l o j =
      let n = number N l in
      let e = n.2 in
      leads {b = b} n.0 d n.1 (ap (from N) e) (rw e o) (rw e j)

  pub ride-arrives : {i k : ℕ} → Ride N M i k → (hop N k).arrival ≤ Q.arrival → Arrives G W (hop N k).to (before Q (hop N k).arrival)
      → Arrives G W (seat N i) (before Q (hop N i).departure)
  ride-arrives (alone j l) a x =
      by-real (before Q (hop N j).arrival) (before Q (hop N j).departure) (an-alight j l) (le-leb (hop N j).arrival Q.arrival a, omega arith, omega arith) x
  ride-arrives (onward i {j = j} l s r) a x =
      by-real (before Q (hop N j).departure) (before Q (hop N i).departure) (a-stay i j l (first-low r))
      (is-stays N M i j s, before-mono Q (hop N i).arrival (hop N j).departure s.in_time, omega arith) (ride-arrives r a x)

  pub journey-arrives : {v d : ℕ} → RideJourney N Q M v d → Arrives G W v d
  journey-arrives from_end = ends {b = from_ticks N Q} (inl (refl, omega arith))
  journey-arrives (to_end n) = ends {b = to_ticks N Q} (inr (refl, inl n, omega arith))
  journey-arrives (at_to e) = ends {b = 0} (inr (refl, inr e, omega (arith, document.to-zero N Q ok e)))
  journey-arrives (by_walk i l {d = d} j) = by-real d (d + walk_ticks Q (walk N i)) (a-walk i l) (omega arith) (journey-arrives j)
  journey-arrives (by_ride {i = i} r a j) =
      by-real (before Q (hop N i).departure) (standing Q M (hop N i).departure) (a-board i (first-low r)) (refl, omega arith, omega arith) (ride-arrives r a (journey-arrives j))
  journey-arrives (RideJourney.wait {d' = d'} h j) = arrives-up G W board-laws d' h (journey-arrives j)

  -- ---- being on board in time, decided
  pub before-most : (j : ℕ) → j < hop_count N → before Q (hop N j).departure ≤ longest
  before-most j l =
      let g = good-hop N ok.tables j l in
      let s : Q.arrival - (hop N j).departure ≤ 259200 = omega (arith, g.departure-low, ok.query.arrival_high) in
      let m : (Q.arrival - (hop N j).departure) * Q.speed ≤ 259200 * 100 = mul-le-mul s ok.query.speed_high in
      omega arith

  few : longest < none
  few = omega arith

  searched : Ran G W board-laws longest few (λ _. Unit {0}) (vertex_count N + hop_count N) (boarded N Q M)
  unfolding boarded
  searched = run_ran G W board-laws longest few (λ _. Unit {0}) (λ S s p v X h. tt) (vertex_count N + hop_count N) (vertex_count N + hop_count N) [] (empty G W) tt (omega arith)

  pub aboard-is : (j : ℕ) → j < hop_count N → aboard_in N Q (boarded N Q M) j ≡ true → Aboard N Q M j
  unfolding aboard_in
  aboard-is j l e =
      let h = leb-true (distance_in (boarded N Q M) (seat N j)) (before Q (hop N j).departure) e in
      (arrives-meant (searched.state.right (seat N j) (omega (arith, before-most j l))).0).seated j refl

  pub is-aboard : (j : ℕ) → j < hop_count N → Aboard N Q M j → aboard_in N Q (boarded N Q M) j ≡ true
  unfolding aboard_in
  is-aboard j l a =
      let x = ride-arrives a.ride a.in_time (journey-arrives a.on) in
      le-leb (distance_in (boarded N Q M) (seat N j)) (before Q (hop N j).departure)
      (ended G W board-laws searched.state.right longest few (all_known G W board-laws longest few (boarded N Q M) searched) x (before-most j l))
