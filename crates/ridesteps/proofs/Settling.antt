-- The foremost vertex is settled: the set has it and no other more, and what the records to it offer is what the theory of the search asks for. Assumes nothing.
use mathlib.Core.Path.{◌≡◌, refl, sym, ap, subst, ◌∙◌}
use mathlib.Core.Logic.{◌⊎◌, inl, inr, ◌≢◌}
use mathlib.Core.Bool.{Bool, true, false, cond, ◌&&◌}
use mathlib.Core.List.{List, [], ◌∷◌, ◌++◌}
use Prim.Native.Nat.{ℕ, suc, ◌-◌, ◌≤◌, ◌<◌, min}
use native.Mathlib.Omega.{arith}
use lib.Dec.{eqb, leb, ltb}
use lib.ListN.{length, take}
use borrow.Author.Tests.{eqb-true, le-leb}
use Rattle.journeys.specs.Counting.{none, least, In}
use Rattle.journeys.specs.Tables.{Tables, hop, vertex_count, walk_count, hop_count}
use Rattle.journeys.specs.Query.{Query, allowed}
use Rattle.journeys.specs.Settled.{Settled, settled}
use Rattle.journeys.specs.Network.{distance_in, within}
use Rattle.journeys.specs.Records.{Record, from, to, record_at, record_count}
use Rattle.journeys.specs.Valid.{Valid}
use Rattle.journeys.proofs.Tests.{Test, same, other, test, TestLe, fits, over, test_le, never, split, and_both}
use Rattle.journeys.proofs.Counting.{least-is, least-min}
use Rattle.journeys.proofs.Known.{is_within, not_within, within-is, within-not}
use Rattle.journeys.proofs.Firsts.{distance-snoc}
use Rattle.journeys.proofs.Step.{toward, through, through-none}
use Rattle.journeys.proofs.Told as theory
use Rattle.journeys.proofs.Document as document
use Rattle.journeys.proofs.Document.{Numbered, of-walk, of-hop, numbered}
use Rattle.boarding.specs.Rides.{Mode}
use Rattle.boarding.specs.RideJourneys.{standing, RideDistance}
use Rattle.boarding.specs.RideOrder.{IsRideOrder}
use Rattle.boarding.proofs.Links.{pass}
use Rattle.boarding.proofs.Rides.{link_by, network_by}
use Rattle.boarding.proofs.RideOrder.{ride_network, ride_ways, ride-told, ride-order}
use Rattle.boarding.proofs.Marks.{Marked, mark-more, marked-near}
use Rattle.boarding.proofs.Kept.{improved}
use Rattle.boarding.proofs.Searching.{Underway, Searching, settles, passes}
use Rattle.bitset.specs.Joined.{joined}
use Rattle.offering.specs.Offers.{brings, marked, passed}

-- the figures when v has left the map
abbrev pub without : (ℕ → ℕ) → ℕ → ℕ → ℕ
without f v u = cond (eqb u v) none (f u)

-- v is the foremost of the map, and within D
module _ (N : Tables) (Q : Query) (M : Mode) (ok : Valid N Q) {l : List Settled} (O : IsRideOrder N Q M l) {k : ℕ} {mark : ℕ → Bool} {f : ℕ → ℕ} (s : Searching N Q M ok O k mark f)
    (v : ℕ) (h : f v ≤ allowed Q) (first : (u : ℕ) → f u ≤ allowed Q → (f v < f u) ⊎ ((f v ≡ f u) × (v ≤ u)))
    (set : ℕ → Bool) (members : (u : ℕ) → set u ≡ within (distance_in (take k l)) u) where
  small : allowed Q < none
  small = document.allowed-low N Q ok

  next : (k < length l) × (take (suc k) l ≡ take k l ++ settled v (f v) ∷ [])
  next = settles N Q M ok O s v h first

  -- it was not settled before
  fresh : (y : Settled) → In y (take k l) → y.vertex ≢ v
  fresh y i e =
      let st = theory.order-state (ride_network N Q M ok) (ride_ways N Q M ok) (RideDistance N Q M) (ride-told N Q M ok) ((ride-order N Q M ok).0 O) k in
      omega (arith, st.small y i, rw e at (st.member y i), s.underway.keeps.out v h)

  far-next : (u : ℕ) → distance_in (take (suc k) l) u ≡ cond (eqb u v) (f v) (distance_in (take k l) u)
  far-next u = ap (λ (S : List Settled). distance_in S u) next.1 ∙ distance-snoc (take k l) v (f v) u fresh

  -- The set with v is the set of the next step.
  pub members-next : (u : ℕ) → joined set v u ≡ within (distance_in (take (suc k) l)) u
  unfolding within
  members-next u = go (test u v) (far-next u)
    where
      go : {t : Bool} → Test u v t → distance_in (take (suc k) l) u ≡ cond t (f v) (distance_in (take k l) u) → cond t true (set u) ≡ within (distance_in (take (suc k) l)) u
      go (same e) q = sym (is_within (distance_in (take (suc k) l)) u (omega (arith, q, small)))
      go (other n) q = members u ∙ ap (λ (x : ℕ). ltb x none) (sym q)

  far_at : distance_in (take (suc k) l) v ≡ f v
  far_at = go (test v v) (far-next v)
    where
      go : {t : Bool} → Test v v t → distance_in (take (suc k) l) v ≡ cond t (f v) (distance_in (take k l) v) → distance_in (take (suc k) l) v ≡ f v
      go (same e) q = q
      go (other n) q = absurd (n refl)

  -- ---- a marked hop to v is not left before v is reached
  near : (j : ℕ) → j < hop_count N → mark j ≡ true → (hop N j).to ≡ v → f v ≤ standing Q M (hop N j).arrival
  near j jl e q =
      let m : Marked N Q M (take (suc k) l) j = subst (λ (S : List Settled). Marked N Q M S j) (sym next.1) (mark-more N Q M (take k l) (settled v (f v)) j (s.underway.sound j jl e)) in
      let there : distance_in (take (suc k) l) (hop N j).to ≡ f v = ap (distance_in (take (suc k) l)) q ∙ far_at in
      omega (arith, there, small, marked-near N Q M ok O (suc k) j m (omega (arith, there, small)))

  brings-same : (r : ℕ) {x : Record} → Numbered N r x → to x ≡ v → brings Q M mark (f v) (r - walk_count N) x ≡ pass Q (link_by Q M mark (r - walk_count N) x) (f v)
  unfolding brings pass
  brings-same r (of-walk _) e = refl
  brings-same r (of-hop j jl q) e = go (mark (r - walk_count N)) refl
    where
      z : r - walk_count N ≡ j
      z = omega arith

      go : (b : Bool) → mark (r - walk_count N) ≡ b → cond b (standing Q M (hop N j).departure) none ≡ cond (b && leb (f v) (standing Q M (hop N j).arrival)) (standing Q M (hop N j).departure) none
      go false y = refl
      go true y =
          ap (λ (b : Bool). cond b (standing Q M (hop N j).departure) none)
          (sym (le-leb (f v) (standing Q M (hop N j).arrival) (near j jl (ap mark (sym z) ∙ y) e)))

  through_same : (u r : ℕ) → r < record_count N → through (marked N Q M mark) v (f v) u r ≡ through (network_by N Q M mark) v (f v) u r
  unfolding through toward
  through_same u r rl = go (eqb (from (record_at N r)) u) (test (to (record_at N r)) v)
    where
      go : (b : Bool) {t : Bool} → Test (to (record_at N r)) v t
          → cond (b && t) (brings Q M mark (f v) (r - walk_count N) (record_at N r)) none ≡ cond (b && t) (pass Q (link_by Q M mark (r - walk_count N) (record_at N r)) (f v)) none
      go false t = refl
      go true (same e) = brings-same r (numbered N r rl) e
      go true (other n) = refl

  least-same : (u : ℕ) → least (through (marked N Q M mark) v (f v) u) (record_count N) ≡ least (through (network_by N Q M mark) v (f v) u) (record_count N)
  least-same u =
      omega
      (arith, least-min (through (marked N Q M mark) v (f v) u) (through (network_by N Q M mark) v (f v) u) (through (network_by N Q M mark) v (f v) u) (record_count N) (λ r rl. omega (arith, through_same u r rl)))

  -- ---- who takes an offer is a vertex
  offered-low : (u : ℕ) → least (through (marked N Q M mark) v (f v) u) (record_count N) ≤ allowed Q → u < vertex_count N
  unfolding toward
  offered-low u o = go (least-is (through (marked N Q M mark) v (f v) u) (record_count N) (allowed Q) small o)
    where
      go : (r : ℕ) × (r < record_count N) × (through (marked N Q M mark) v (f v) u r ≤ allowed Q) → u < vertex_count N
      go (r, rl, y) = by (split (toward (marked N Q M mark) v u r))
        where
          by : (toward (marked N Q M mark) v u r ≡ true) ⊎ (toward (marked N Q M mark) v u r ≡ false) → u < vertex_count N
          by (inl t) =
              let e = eqb-true (from (record_at N r)) u (and_both (eqb (from (record_at N r)) u) (eqb (to (record_at N r)) v) t).0 in
              omega (arith, e, (document.record-low N Q ok r (numbered N r rl)).0)
          by (inr t) = absurd (let c : ⊥ = omega (arith, through-none (marked N Q M mark) v (f v) u r t, small) in c)

  abbrev after : ℕ → ℕ
  after = passed N Q M (joined set v) mark v (f v) (record_count N) (without f v)

  inside : (u : ℕ) → after u ≤ allowed Q → (u < vertex_count N) × (none ≤ distance_in (take (suc k) l) u)
  inside u a = go (test u v) (set u) refl (members-next u) a
    where
      go : {t : Bool} → Test u v t → (b : Bool) → set u ≡ b → cond t true b ≡ within (distance_in (take (suc k) l)) u
          → cond (cond t true b) (cond t none (f u)) (improved (allowed Q) (least (through (marked N Q M mark) v (f v) u) (record_count N)) (cond t none (f u))) ≤ allowed Q
          → (u < vertex_count N) × (none ≤ distance_in (take (suc k) l) u)
      go (same e) b q m z = absurd (let c : ⊥ = omega (arith, small) in c)
      go (other n) true q m z = absurd (let c : ⊥ = omega (arith, s.underway.keeps.out u z, within-is (distance_in (take k l)) u (sym (members u) ∙ q)) in c)
      go (other n) false q m z = (low (test_le (least (through (marked N Q M mark) v (f v) u) (record_count N)) (allowed Q)) z, within-not (distance_in (take (suc k) l)) u (sym m))
        where
          low : {t : Bool} → TestLe (least (through (marked N Q M mark) v (f v) u) (record_count N)) (allowed Q) t → cond t (min (f u) (least (through (marked N Q M mark) v (f v) u) (record_count N))) (f u) ≤ allowed Q → u < vertex_count N
          low (fits p) z = offered-low u p
          low (over p) z = s.underway.keeps.low u z

  is : (u : ℕ) → u < vertex_count N → none ≤ distance_in (take (suc k) l) u
      → after u ≡ improved (allowed Q) (least (through (network_by N Q M mark) v (f v) u) (record_count N)) (f u)
  is u ul uo = go (test u v) (set u) (members-next u ∙ not_within (distance_in (take (suc k) l)) u uo)
    where
      go : {t : Bool} → Test u v t → (b : Bool) → cond t true b ≡ false
          → cond (cond t true b) (cond t none (f u)) (improved (allowed Q) (least (through (marked N Q M mark) v (f v) u) (record_count N)) (cond t none (f u)))
          ≡ improved (allowed Q) (least (through (network_by N Q M mark) v (f v) u) (record_count N)) (f u)
      go (same e) b m = never refl m
      go (other n) true m = never refl m
      go (other n) false m = ap (λ (o : ℕ). improved (allowed Q) o (f u)) (least-same u)

  -- What the records to v offer, by `offering::pass`, is what the search asks for.
  pub settled-underway : Underway N Q M ok O (suc k) mark after
  settled-underway = passes N Q M ok O s v h first after inside is
