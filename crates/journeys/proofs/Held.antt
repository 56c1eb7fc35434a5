-- The working table: who is held, that a dropped or forgotten vertex stays so, and what one step does to each entry, record by record. Assumes nothing.
use mathlib.Core.Path.{◌≡◌, refl, sym, ap, ◌∙◌}
use mathlib.Core.Logic.{◌⊎◌, inl, inr, ⊎_elim, ◌≢◌}
use mathlib.Core.Bool.{Bool, true, false, not, cond, ◌&&◌, ◌||◌}
use mathlib.Core.List.{List, [], ◌∷◌}
use Prim.Native.Nat.{ℕ, suc, ◌+◌, ◌-◌, ◌≤◌, ◌<◌, min}
use native.Mathlib.Omega.{arith}
use lib.Dec.{eqb, ltb}
use borrow.Author.Tests.{ltb-true, ltb-false, lt-ltb, le-ltb, eqb-true, eq-eqb, ne_eqb}
use Rattle.journeys.specs.Counting.{none, least, count, joined, one}
use Rattle.journeys.specs.Order.{Settled}
use Rattle.journeys.specs.Network.{Network, Held, distance_in, within, into, outside, known, remaining, met, spent, held, row, entry, held_list, Dropped, Forgotten}
use Rattle.journeys.proofs.Tests.{split, never, and_both, and_left, and_right, and-true, or_cases, or_left, or_right, or-none, cond-true, cond-false, same_test, le-or-lt}
use Rattle.journeys.proofs.Counting.{is_one, least-empty, least_skip, count-mono, count-grows, count-skip, count-join, count_none, some-count, joined_same}
use Rattle.journeys.proofs.Ways.{Ways, Arrives, leads, Laws, Loopless}
use Rattle.journeys.proofs.Place.{key, key-less}
use Rattle.journeys.proofs.Known.{upd, is_within, not_within, within-is, within_same, within-other, is-into, known-most, known-seed, known-record, known_by, By, Next, next-dist}
use Rattle.journeys.proofs.Step.{toward, through, through-none, known_step, remaining-step, into-step}
use Rattle.journeys.proofs.Greedy.{State}
use Rattle.journeys.proofs.Settling.{settled-known}

module _ (G : Network) where
  -- how many records leave v
  unfoldable pub departs : ℕ → ℕ
  departs v = count (λ r. eqb (G.from r) v) G.records

  depart-one : (far : ℕ → ℕ) (v r : ℕ) → one (eqb (G.from r) v) ≡ one (outside G far v r) + one (into G far v r)
  unfolding outside into
  depart-one far v r = go (eqb (G.from r) v) (within far (G.to r))
    where
      go : (f w : Bool) → one f ≡ one (f && not w) + one (f && w)
      go true true = omega arith
      go true false = omega arith
      go false w = omega arith

  -- The departing records are those that remain and those that lead into S.
  pub departs-is : (far : ℕ → ℕ) (v : ℕ) → departs v ≡ remaining G far v + count (into G far v) G.records
  unfolding departs remaining
  departs-is far v = count-join (λ r. eqb (G.from r) v) (outside G far v) (into G far v) G.records (λ r l. depart-one far v r)

  -- What is known is met, so the next vertex is among the held ones.
  pub known-met : (far : ℕ → ℕ) (v : ℕ) → known G far v < none → met G far v ≡ true
  unfolding met
  known-met far v h = go (known_by G far v (known G far v) h (omega arith))
    where
      go : By G far v (known G far v) → (ltb (G.seed v) none || ltb 0 (count (into G far v) G.records)) ≡ true
      go (inl s) = or_left (ltb 0 (count (into G far v) G.records)) (lt-ltb (G.seed v) none (omega arith))
      go (inr x) =
          or_right (ltb (G.seed v) none)
          (lt-ltb 0 (count (into G far v) G.records) (some-count (into G far v) G.records x.0 x.1.0 (is-into G far v x.0 x.1.1 x.1.2)))

  pub unmet : (far : ℕ → ℕ) (v : ℕ) → met G far v ≡ false → (known G far v ≡ none) × (count (into G far v) G.records ≡ 0)
  unfolding met
  unmet far v e =
      let p = or-none (ltb (G.seed v) none) (ltb 0 (count (into G far v) G.records)) e in (
        ⊎_elim (λ (q : none ≤ known G far v). omega (arith, known-most G far v)) (λ (q : known G far v < none). never (known-met far v q) e) (le-or-lt none (known G far v)),
        omega (arith, ltb-false 0 (count (into G far v) G.records) p.1),
      )

  -- Who is known within D is not spent outside S, so it is held.
  pub near-held : (far : ℕ → ℕ) (u : ℕ) → none ≤ far u → known G far u < none → known G far u ≤ G.allowed → held G far u ≡ true
  unfolding held
  near-held far u out some near =
      and-true (known-met far u some)
      (ap not (and_right (eqb (remaining G far u) 0) (rw (not_within far u out) (le-ltb G.allowed (known G far u) near))))

  -- The least over the held unsettled entries, where it is within D, is the least over all vertices outside S: who is not held is known above D.
  pub held_next : (far : ℕ → ℕ) (v : ℕ) → v < G.vertices → none ≤ far v → known G far v < none → known G far v ≤ G.allowed
      → ((u : ℕ) → u < G.vertices → none ≤ far u → held G far u ≡ true → key G.vertices (known G far v) v ≤ key G.vertices (known G far u) u) → Next G far v
  held_next far v vn out some near least =
      record {
        low = vn;
        out = out;
        some = some;
        least = λ u a b.
            ⊎_elim (λ (q : known G far u ≤ known G far v). least u a b (near-held far u b (omega arith) (omega arith)))
            (λ (q : known G far v < known G far u). omega (arith, key-less G.vertices {v = v} u vn q))
            (le-or-lt (known G far u) (known G far v));
      }

  abbrev pub More : (ℕ → ℕ) → (ℕ → ℕ) → Type 0
  More far far' = (u : ℕ) → far u < none → far' u < none

  outside-less : (far far' : ℕ → ℕ) → More far far' → (v r : ℕ) → one (outside G far' v r) ≤ one (outside G far v r)
  unfolding outside
  outside-less far far' h v r = go (eqb (G.from r) v) (split (within far (G.to r)))
    where
      go : (f : Bool) → (within far (G.to r) ≡ true) ⊎ (within far (G.to r) ≡ false) → one (f && not (within far' (G.to r))) ≤ one (f && not (within far (G.to r)))
      go false w = omega arith
      go true (inl e) = rw (is_within far' (G.to r) (h (G.to r) (within-is far (G.to r) e))) (omega arith)
      go true (inr e) = rw e (at_most (not (within far' (G.to r))))
        where
          at_most : (b : Bool) → one b ≤ 1
          at_most true = omega arith
          at_most false = omega arith

  -- Once dropped, always dropped.
  pub dropped-stays : (far far' : ℕ → ℕ) → More far far' → (v : ℕ) → Dropped G far v → Dropped G far' v
  unfolding remaining
  dropped-stays far far' h v g =
      (h v g.0, omega (arith, g.1, count-mono (outside G far' v) (outside G far v) G.records (λ r l. outside-less far far' h v r)))

  -- An entry is spent exactly if it is dropped or forgotten.
  pub spent-is : (far : ℕ → ℕ) (v : ℕ) → spent G.allowed (within far v) (known G far v) (remaining G far v) ≡ true → Dropped G far v ⊎ Forgotten G far v
  spent-is far v e =
      let p = and_both (eqb (remaining G far v) 0) (within far v || ltb G.allowed (known G far v)) e in
      let z : remaining G far v ≡ 0 = eqb-true (remaining G far v) 0 p.0 in
      ⊎_elim (λ (t : far v < none). inl (t, z))
      (λ (t : none ≤ far v). inr (t, z, ltb-true G.allowed (known G far v) (or-second (not_within far v t) p.1)))
      (lt-or-le (far v) none)
    where
      or-second : {a b : Bool} → a ≡ false → (a || b) ≡ true → b ≡ true
      or-second {a} {b} f h = ⊎_elim (λ (t : a ≡ true). never t f) (λ (t : b ≡ true). t) (or_cases a b h)

      lt-or-le : (a b : ℕ) → (a < b) ⊎ (b ≤ a)
      lt-or-le a b = ⊎_elim (λ (h : b ≤ a). inr h) (λ (h : a < b). inl h) (le-or-lt b a)

  pub dropped-spent : (far : ℕ → ℕ) (v : ℕ) → Dropped G far v → spent G.allowed (within far v) (known G far v) (remaining G far v) ≡ true
  dropped-spent far v g = and-true (eq-eqb (remaining G far v) 0 g.1) (or_left (ltb G.allowed (known G far v)) (is_within far v g.0))

  pub forgotten-spent : (far : ℕ → ℕ) (v : ℕ) → Forgotten G far v → spent G.allowed (within far v) (known G far v) (remaining G far v) ≡ true
  forgotten-spent far v g = and-true (eq-eqb (remaining G far v) 0 g.1) (or_right (within far v) (lt-ltb G.allowed (known G far v) g.2))

  spent-absent : (far : ℕ → ℕ) (v : ℕ) → spent G.allowed (within far v) (known G far v) (remaining G far v) ≡ true → entry G far v ≡ []
  unfolding entry held
  spent-absent far v e = cond-false (row G far v ∷ []) [] (and_right (met G far v) (ap not e))

  pub dropped-absent : (far : ℕ → ℕ) (v : ℕ) → Dropped G far v → entry G far v ≡ []
  dropped-absent far v g = spent-absent far v (dropped-spent far v g)

  pub forgotten-absent : (far : ℕ → ℕ) (v : ℕ) → Forgotten G far v → entry G far v ≡ []
  forgotten-absent far v g = spent-absent far v (forgotten-spent far v g)

  -- Nobody above D all of whose records lead into S comes within D as S grows: there is no record left to offer anything.
  pub hopeless-stays : (far far' : ℕ → ℕ) → ((u : ℕ) → far u < none → far' u ≡ far u) → G.allowed < none → (v : ℕ) → remaining G far v ≡ 0 → G.allowed < known G far v
      → G.allowed < known G far' v
  unfolding remaining outside
  hopeless-stays far far' same small v z above =
      ⊎_elim (λ (h : known G far' v ≤ G.allowed). absurd (by (known_by G far' v G.allowed small h))) (λ (h : G.allowed < known G far' v). h) (le-or-lt (known G far' v) G.allowed)
    where
      by : By G far' v G.allowed → ⊥
      by (inl s) = omega (arith, known-seed G far v)
      by (inr x) = ⊎_elim inside beyond (split (within far (G.to r)))
        where
          r : ℕ
          r = x.0

          inside : within far (G.to r) ≡ true → ⊥
          inside t =
              let w = within-is far (G.to r) t in
              omega (arith, known-record G far v r (x.1.0, x.1.1, w), ap (G.offer r) (same (G.to r) w), x.2)

          beyond : within far (G.to r) ≡ false → ⊥
          beyond t = never (and-true (eq-eqb (G.from r) v x.1.1) (ap not t)) (count_none (outside G far v) G.records z r x.1.0)

  -- Once forgotten, always forgotten, as long as it is not settled.
  pub forgotten-stays : (far far' : ℕ → ℕ) → ((u : ℕ) → far u < none → far' u ≡ far u) → G.allowed < none → (v : ℕ) → none ≤ far' v → Forgotten G far v → Forgotten G far' v
  unfolding remaining
  forgotten-stays far far' same small v out g = (
    out,
    omega (arith, g.1, count-mono (outside G far' v) (outside G far v) G.records (λ r l. outside-less far far' (λ u h. omega (arith, same u h)) v r)),
    hopeless-stays far far' same small v g.1 g.2,
  )

  -- ---- an entry, by its parts
  unfoldable pub slot : ℕ → ℕ → Bool → ℕ → List Held
  slot u d state left = cond (spent G.allowed state d left) [] (record { vertex = u; distance = d; state = cond state 1 0; remaining = left } ∷ [])

  pub entry-slot : (far : ℕ → ℕ) (u : ℕ) → entry G far u ≡ cond (met G far u) (slot u (known G far u) (within far u) (remaining G far u)) []
  unfolding entry held row slot
  entry-slot far u = go (met G far u) (spent G.allowed (within far u) (known G far u) (remaining G far u)) (row G far u)
    where
      go : (m g : Bool) (x : Held) → cond (m && not g) (x ∷ []) [] ≡ cond m (cond g [] (x ∷ [])) []
      go true true x = refl
      go true false x = refl
      go false g x = refl

  pub slot-some : (u d : ℕ) (state : Bool) (left : ℕ) → 0 < left → slot u d state left ≡ record { vertex = u; distance = d; state = cond state 1 0; remaining = left } ∷ []
  unfolding slot
  slot-some u d state left h = cond-false [] _ (and_left (state || ltb G.allowed d) (ne_eqb left 0 (omega arith)))

  -- what a record of u to the vertex just settled does to u's entry: it makes an offer b, and one less remains; `dep` records leave u
  unfoldable pub touch : ℕ → ℕ → ℕ → List Held → List Held
  touch u b dep [] = slot u (min none b) false (dep - 1)
  touch u b dep (x ∷ xs) = cond (eqb x.state 1) (slot u x.distance true (x.remaining - 1)) (slot u (min x.distance b) false (x.remaining - 1))

  module _ (far : ℕ → ℕ) (v d : ℕ) where
    -- u's entry when v is settled at d and the first k records have been gone through
    unfoldable pub partway : ℕ → ℕ → List Held
    partway k u =
        cond (met G far u || ltb 0 (count (toward G v u) k))
        (slot u (min (known G far u) (least (through G v d u) k)) (within (upd far v d) u) (remaining G far u - count (toward G v u) k)) []

    -- Records that do not lead from u to v leave u's entry as it is.
    pub partway-skip : (u i j : ℕ) → i ≤ j → ((r : ℕ) → i ≤ r → r < j → toward G v u r ≡ false) → partway j u ≡ partway i u
    unfolding partway
    partway-skip u i j l q =
        rw (count-skip (toward G v u) i j l q, least_skip (through G v d u) i j l (λ r a b. omega (arith, through-none G v d u r (q r a b))))

ltb-sum : (x y : ℕ) → (ltb 0 x || ltb 0 y) ≡ ltb 0 (x + y)
ltb-sum x y =
    same_test (ltb 0 x || ltb 0 y) (ltb 0 (x + y))
    (λ e. lt-ltb 0 (x + y) (⊎_elim (λ (p : ltb 0 x ≡ true). omega (arith, ltb-true 0 x p)) (λ (p : ltb 0 y ≡ true). omega (arith, ltb-true 0 y p)) (or_cases (ltb 0 x) (ltb 0 y) e)))
    (λ e.
    ⊎_elim (λ (h : x ≤ 0). or_right (ltb 0 x) (lt-ltb 0 y (omega (arith, ltb-true 0 (x + y) e)))) (λ (h : 0 < x). or_left (ltb 0 y) (lt-ltb 0 x h)) (le-or-lt x 0))

module _ (G : Network) (far : ℕ → ℕ) (v d : ℕ) (out : none ≤ far v) (some : d < none) where
  met-step : (u : ℕ) → met G (upd far v d) u ≡ (met G far u || ltb 0 (count (toward G v u) G.records))
  unfolding met
  met-step u = rw (into-step G far v d out some u) (go (ltb (G.seed u) none))
    where
      go : (a : Bool) → (a || ltb 0 (count (into G far u) G.records + count (toward G v u) G.records))
          ≡ (a || ltb 0 (count (into G far u) G.records) || ltb 0 (count (toward G v u) G.records))
      go true = refl
      go false = sym (ltb-sum (count (into G far u) G.records) (count (toward G v u) G.records))

  -- When all records have been gone through, each entry is that of S with v.
  pub partway-all : (u : ℕ) → partway G far v d G.records u ≡ entry G (upd far v d) u
  unfolding partway
  partway-all u =
      let left : remaining G far u - count (toward G v u) G.records ≡ remaining G (upd far v d) u = omega (arith, remaining-step G far v d out some u) in
      rw (left, ← known_step G far v d out some u, ← met-step u) (sym (entry-slot G (upd far v d) u))

  -- When none has, only v's entry has changed: it is settled, and dropped if nothing of it remains.
  pub partway-none : (u : ℕ) → u ≢ v → partway G far v d 0 u ≡ entry G far u
  unfolding partway least count
  partway-none u n =
      let k : min (known G far u) none ≡ known G far u = omega (arith, known-most G far u) in
      let l : remaining G far u - 0 ≡ remaining G far u = omega arith in
      rw (k, l, within-other far v d u n) (go (met G far u) ∙ sym (entry-slot G far u))
    where
      go : (m : Bool) → cond (m || ltb 0 0) (slot G u (known G far u) (within far u) (remaining G far u)) []
          ≡ cond m (slot G u (known G far u) (within far u) (remaining G far u)) []
      go true = refl
      go false = refl

  pub partway-settled : known G far v < none → partway G far v d 0 v ≡ slot G v (known G far v) true (remaining G far v)
  unfolding partway least count
  partway-settled h =
      let k : min (known G far v) none ≡ known G far v = omega (arith, known-most G far v) in
      let l : remaining G far v - 0 ≡ remaining G far v = omega arith in
      rw (k, l, within_same far v d v some refl, known-met G far v h)

  -- A record that leads from u to v has not been counted before it is gone through.
  pub toward-left : (u r : ℕ) → r < G.records → toward G v u r ≡ true → count (toward G v u) r < remaining G far u
  unfolding count
  toward-left u r l e = omega (arith, is_one e, count-grows (toward G v u) (suc r) G.records l, remaining-step G far v d out some u)

module _ (G : Network) (W : Ways) (L : Laws G W) (loopless : Loopless G) {S : List Settled} (s : State G W S) (v : ℕ) (X : Next G (distance_in S) v) where
  abbrev far : ℕ → ℕ
  far = distance_in S

  abbrev d : ℕ
  d = known G far v

  -- Offers do not improve a settled vertex: it has its distance.
  settled-stays : (u r : ℕ) → u < G.vertices → far u < none → r < G.records → G.from r ≡ u → G.to r ≡ v → known G far u ≤ G.offer r d
  settled-stays u r un h l f t =
      ⊎_elim (λ (q : none ≤ G.offer r d). omega (arith, known-most G far u))
      (λ (q : G.offer r d < none).
      let o = (L.offer-is r d (G.offer r d) l q).1 (omega arith) in
      let j : Arrives G W u (G.offer r d) = leads r d l f o (rw t (next-dist G W L s.right v X).0) in
      omega (arith, settled-known G W L s u un h, (s.right u h).1 (G.offer r d) j))
      (le-or-lt none (G.offer r d))

  -- Who has an entry in S, or a distance there, is met.
  settled-met : (u : ℕ) → far u < none → met G far u ≡ true
  settled-met u h = known-met G far u (omega (arith, s.kept u h))

  module _ (r : ℕ) (l : r < G.records) (t : G.to r ≡ v) where
    abbrev u : ℕ
    u = G.from r

    leads-to : toward G v u r ≡ true
    unfolding toward
    leads-to = and-true (eq-eqb u u refl) (eq-eqb (G.to r) v t)

    offers : through G v d u r ≡ G.offer r d
    unfolding through
    offers = cond-true (G.offer r d) none leads-to

    not-v : u ≢ v
    not-v e = loopless r l (e ∙ sym t)

    -- in the table already
    touch-held : (state : Bool) → within far u ≡ state
        → slot G u (min (known G far u) (min (least (through G v d u) r) (G.offer r d))) state (remaining G far u - (count (toward G v u) r + 1))
        ≡ touch G u (G.offer r d) (departs G u) (slot G u (min (known G far u) (least (through G v d u) r)) state (remaining G far u - count (toward G v u) r))
    unfolding touch
    touch-held true e =
        let lt = toward-left G far v d X.out X.some u r l leads-to in
        let low = settled-stays u r (L.from_low r l) (within-is far u e) l refl t in
        let a : min (known G far u) (min (least (through G v d u) r) (G.offer r d)) ≡ min (known G far u) (least (through G v d u) r) = omega arith in
        let b : remaining G far u - (count (toward G v u) r + 1) ≡ (remaining G far u - count (toward G v u) r) - 1 = omega arith in
        rw (slot-some G u (min (known G far u) (least (through G v d u) r)) true (remaining G far u - count (toward G v u) r) (omega arith), a, b)
    touch-held false e =
        let lt = toward-left G far v d X.out X.some u r l leads-to in
        let a : min (known G far u) (min (least (through G v d u) r) (G.offer r d)) ≡ min (min (known G far u) (least (through G v d u) r)) (G.offer r d) = omega arith in
        let b : remaining G far u - (count (toward G v u) r + 1) ≡ (remaining G far u - count (toward G v u) r) - 1 = omega arith in
        rw (slot-some G u (min (known G far u) (least (through G v d u) r)) false (remaining G far u - count (toward G v u) r) (omega arith), a, b)

    -- new to the table: no record of it has been gone through, and none led into S
    touch-new : met G far u ≡ false → count (toward G v u) r ≡ 0
        → slot G u (min (known G far u) (min (least (through G v d u) r) (G.offer r d))) (within far u) (remaining G far u - (count (toward G v u) r + 1))
        ≡ slot G u (min none (G.offer r d)) false (departs G u - 1)
    touch-new m c =
        let n = unmet G far u m in
        let out : within far u ≡ false = ⊎_elim (λ (e : within far u ≡ true). never (settled-met u (within-is far u e)) m) (λ (e : within far u ≡ false). e) (split (within far u)) in
        let q : least (through G v d u) r ≡ least (through G v d u) 0 =
        least_skip (through G v d u) 0 r (omega arith) (λ i a b. omega (arith, through-none G v d u i (count_none (toward G v u) r c i b))) in
        let a : min (known G far u) (min (least (through G v d u) r) (G.offer r d)) ≡ min none (G.offer r d) = omega (arith, n.0, q, least_zero) in
        let b : remaining G far u - (count (toward G v u) r + 1) ≡ departs G u - 1 = omega (arith, departs-is G far u, n.1) in
        rw (out, a, b)
      where
        least_zero : least (through G v d u) 0 ≡ none
        least_zero = least-empty (through G v d u)

    -- A record of u that leads to v touches u's entry.
    pub partway-touch : partway G far v d (suc r) u ≡ touch G u (G.offer r d) (departs G u) (partway G far v d r u)
    unfolding partway least count touch
    partway-touch =
        let w = within-other far v d u not-v in
        rw (offers, is_one leads-to, w, more) (go (met G far u) refl (split (ltb 0 (count (toward G v u) r))))
      where
        more : ltb 0 (count (toward G v u) r + 1) ≡ true
        more = lt-ltb 0 (count (toward G v u) r + 1) (omega arith)

        go : (m : Bool) → met G far u ≡ m → (ltb 0 (count (toward G v u) r) ≡ true) ⊎ (ltb 0 (count (toward G v u) r) ≡ false)
            → cond (m || true) (slot G u (min (known G far u) (min (least (through G v d u) r) (G.offer r d))) (within far u) (remaining G far u - (count (toward G v u) r + 1))) []
            ≡ touch G u (G.offer r d) (departs G u)
            (cond (m || ltb 0 (count (toward G v u) r)) (slot G u (min (known G far u) (least (through G v d u) r)) (within far u) (remaining G far u - count (toward G v u) r)) [])
        go true e c = touch-held (within far u) refl
        go false e (inl c) = rw c (touch-held (within far u) refl)
        go false e (inr c) = rw c (touch-new e (omega (arith, ltb-false 0 (count (toward G v u) r) c)))

  -- The whole table after the step: each entry as the records to v leave it.
  pub held-step : held_list G (upd far v d) ≡ joined (partway G far v d G.records) G.vertices
  unfolding held_list
  held-step = joined_same (entry G (upd far v d)) (partway G far v d G.records) G.vertices (λ u h. sym (partway-all G far v d X.out X.some u))
