-- What is known when S is settled, and why it is the distance of the next vertex: the core of the search. Assumes nothing.
use mathlib.Core.Path.{◌≡◌, refl, sym, ap}
use mathlib.Core.Logic.{◌⊎◌, inl, inr, ⊎_elim, ◌≢◌}
use mathlib.Core.Bool.{Bool, true, false, cond}
use Prim.Native.Nat.{ℕ, suc, ◌≤◌, ◌<◌}
use native.Mathlib.Omega.{arith}
use lib.Dec.{eqb, ltb}
use borrow.Author.Tests.{ltb-true, ltb-false, lt-ltb, le-ltb, eqb-true, eq-eqb}
use Rattle.journeys.specs.Counting.{none, least}
use Rattle.journeys.specs.Network.{Network, within, into, offered, known}
use Rattle.journeys.proofs.Tests.{split, and_both, and-true, cond-true, cond-false, Test, same, other, test, le-or-lt}
use Rattle.journeys.proofs.Counting.{least-le, least-is, least-none}
use Rattle.journeys.proofs.Ways.{Ways, Arrives, ends, leads, Dist, Laws, Strict, arrives-low}
use Rattle.journeys.proofs.Place.{key, key-less, key-le, key-up, key-same}

-- being in S, as a fact
pub is_within : (far : ℕ → ℕ) (v : ℕ) → far v < none → within far v ≡ true
unfolding within
is_within far v h = lt-ltb (far v) none h

pub not_within : (far : ℕ → ℕ) (v : ℕ) → none ≤ far v → within far v ≡ false
unfolding within
not_within far v h = le-ltb (far v) none h

pub within-is : (far : ℕ → ℕ) (v : ℕ) → within far v ≡ true → far v < none
unfolding within
within-is far v e = ltb-true (far v) none e

pub within-not : (far : ℕ → ℕ) (v : ℕ) → within far v ≡ false → none ≤ far v
unfolding within
within-not far v e = ltb-false (far v) none e

-- one vertex more is settled
abbrev pub upd : (ℕ → ℕ) → ℕ → ℕ → ℕ → ℕ
upd far v b u = cond (eqb u v) b (far u)

pub upd_same : (far : ℕ → ℕ) (v b u : ℕ) → u ≡ v → upd far v b u ≡ b
upd_same far v b u e = cond-true b (far u) (eq-eqb u v e)

pub upd_other : (far : ℕ → ℕ) (v b u : ℕ) → u ≢ v → upd far v b u ≡ far u
upd_other far v b u n = go (test u v)
  where
    go : {t : Bool} → Test u v t → cond t b (far u) ≡ far u
    go (same e) = absurd (n e)
    go (other q) = refl

pub within_same : (far : ℕ → ℕ) (v b u : ℕ) → b < none → u ≡ v → within (upd far v b) u ≡ true
within_same far v b u h e = is_within (upd far v b) u (rw (upd_same far v b u e) h)

pub within-other : (far : ℕ → ℕ) (v b u : ℕ) → u ≢ v → within (upd far v b) u ≡ within far u
unfolding within
within-other far v b u n = ap (λ (x : ℕ). ltb x none) (upd_other far v b u n)

module _ (G : Network) where
  -- a record of v into S, and what it says of v
  abbrev pub Into : (ℕ → ℕ) → ℕ → ℕ → Type 0
  Into far v r = (r < G.records) × (G.from r ≡ v) × (far (G.to r) < none)

  pub into-is : (far : ℕ → ℕ) (v r : ℕ) → into G far v r ≡ true → (G.from r ≡ v) × (far (G.to r) < none)
  unfolding into
  into-is far v r e = let p = and_both (eqb (G.from r) v) (within far (G.to r)) e in (eqb-true (G.from r) v p.0, within-is far (G.to r) p.1)

  pub is-into : (far : ℕ → ℕ) (v r : ℕ) → G.from r ≡ v → far (G.to r) < none → into G far v r ≡ true
  unfolding into
  is-into far v r f h = and-true (eq-eqb (G.from r) v f) (is_within far (G.to r) h)

  pub known-most : (far : ℕ → ℕ) (v : ℕ) → known G far v ≤ none
  unfolding known
  known-most far v = omega (arith, least-none (offered G far v) G.records)

  pub known-seed : (far : ℕ → ℕ) (v : ℕ) → known G far v ≤ G.seed v
  unfolding known
  known-seed far v = omega arith

  pub known-record : (far : ℕ → ℕ) (v r : ℕ) → Into far v r → known G far v ≤ G.offer r (far (G.to r))
  unfolding known offered
  known-record far v r i =
      let e = cond-true (G.offer r (far (G.to r))) none (is-into far v r i.1 i.2) in
      omega (arith, e, least-le (offered G far v) G.records r i.0)

  abbrev pub By : (ℕ → ℕ) → ℕ → ℕ → Type 0
  By far v b = (G.seed v ≤ b) ⊎ ((r : ℕ) × Into far v r × (G.offer r (far (G.to r)) ≤ b))

  -- whatever is known comes from a seed or from a record into S
  pub known_by : (far : ℕ → ℕ) (v b : ℕ) → b < none → known G far v ≤ b → By far v b
  unfolding known offered
  known_by far v b l h =
      ⊎_elim (λ (q : G.seed v ≤ b). inl q)
      (λ (q : b < G.seed v).
      let x = least-is (offered G far v) G.records b l (omega arith) in
      ⊎_elim (λ (t : into G far v x.0 ≡ true).
      let p = into-is far v x.0 t in
      inr (x.0, (x.1, p.0, p.1), omega (arith, x.2, cond-true (G.offer x.0 (far (G.to x.0))) none t)))
      (λ (t : into G far v x.0 ≡ false). absurd (let z : ⊥ = omega (arith, x.2, cond-false (G.offer x.0 (far (G.to x.0))) none t) in z))
      (split (into G far v x.0)))
      (le-or-lt (G.seed v) b)

  -- b is at most what is known of any vertex outside S
  abbrev pub Bound : (ℕ → ℕ) → ℕ → Type 0
  Bound far b = (u : ℕ) → u < G.vertices → none ≤ far u → b ≤ known G far u

  -- v is the vertex outside S whose known distance comes first in the order (distance, number)
  pub record Next (far : ℕ → ℕ) (v : ℕ) : Type 0 where
    pub low : v < G.vertices
    pub out : none ≤ far v
    pub some : known G far v < none
    pub least : (u : ℕ) → u < G.vertices → none ≤ far u → key G.vertices (known G far v) v ≤ key G.vertices (known G far u) u

module _ (G : Network) (W : Ways) where
  -- `far` holds distances only
  abbrev pub Right : (ℕ → ℕ) → Type 0
  Right far = (v : ℕ) → far v < none → Dist G W v (far v)

module _ (G : Network) (W : Ways) (L : Laws G W) where
  -- What is known is a journey: nobody is promised a start that is too late.
  pub known-sound : (far : ℕ → ℕ) → ((w : ℕ) → far w < none → Arrives G W w (far w)) → (v b : ℕ) → v < G.vertices → b < none → known G far v ≤ b → Arrives G W v b
  known-sound far C v b vn l h = go (known_by G far v b l h)
    where
      go : By G far v b → Arrives G W v b
      go (inl s) = ends ((L.seed-is v b vn l).1 s)
      go (inr x) =
          let i = x.1 in
          leads x.0 (far (G.to x.0)) i.0 i.1 ((L.offer-is x.0 (far (G.to x.0)) b i.0 l).1 x.2) (C (G.to x.0) i.2)

  pub seed-known : (far : ℕ → ℕ) {u x : ℕ} → W.Ends u x → x < none → known G far u ≤ x
  seed-known far {u} {x} s h = omega (arith, known-seed G far u, (L.seed-is u x (L.ends_low u x s) h).0 s)

  pub record-known : (far : ℕ → ℕ) {u x : ℕ} (r d : ℕ) → r < G.records → G.from r ≡ u → W.Leads r d x → far (G.to r) ≤ d → x < none → known G far u ≤ x
  record-known far {u} {x} r d rm f o h l =
      let q : d ≤ x = L.leads-le r d x rm o in
      omega (arith, known-record G far u r (rm, f, omega arith), (L.offer-is r (far (G.to r)) x rm l).0 (L.leads-down r d (far (G.to r)) x h o))

  -- Figures that agree with what they make known are no larger than any journey within D: the end of the search, and a bought list.
  pub judge : (far : ℕ → ℕ) (D : ℕ) → D < none → ((v : ℕ) → v < G.vertices → (far v ≤ known G far v) ⊎ (D < known G far v))
      → {u x : ℕ} → Arrives G W u x → x ≤ D → far u ≤ x
  judge far D Di ok {u} {x} (ends s) h =
      ⊎_elim (λ (q : far u ≤ known G far u). omega (arith, seed-known far s (let l : x < none = omega arith in l)))
      (λ (q : D < known G far u). absurd (let z : ⊥ = omega (arith, seed-known far s (let l : x < none = omega arith in l)) in z))
      (ok u (L.ends_low u x s))
  judge far D Di ok {u} {x} (leads r d rm f o j) h =
      let i : far (G.to r) ≤ d = judge far D Di ok j (omega (arith, L.leads-le r d x rm o)) in
      let k : known G far u ≤ x = record-known far r d rm f o i (omega arith) in
      ⊎_elim (λ (q : far u ≤ known G far u). omega arith)
      (λ (q : D < known G far u). absurd (let z : ⊥ = omega arith in z))
      (ok u (arrives-low G W L (leads r d rm f o j)))

  -- No journey from outside S is shorter than all that is known.
  pub beyond : {far : ℕ → ℕ} → Right G W far → (b : ℕ) → b ≤ none → Bound G far b → {u x : ℕ} → Arrives G W u x → none ≤ far u → b ≤ x
  beyond {far} C b bi low {u} {x} (ends s) h =
      ⊎_elim (λ (q : b ≤ x). q) (λ (q : x < b). omega (arith, low u (L.ends_low u x s) h, seed-known far s (let l : x < none = omega arith in l))) (le-or-lt b x)
  beyond {far} C b bi low {u} {x} (leads r d rm f o j) h =
      ⊎_elim (λ (q : b ≤ x). q)
      (λ (q : x < b).
      ⊎_elim (λ (k : none ≤ far (G.to r)). omega (arith, beyond C b bi low j k, L.leads-le r d x rm o))
      (λ (k : far (G.to r) < none).
      omega (arith, low u (arrives-low G W L (leads r d rm f o j)) h, record-known far r d rm f o ((C (G.to r) k).1 d j) (let l : x < none = omega arith in l)))
      (le-or-lt none (far (G.to r))))
      (le-or-lt b x)

  -- Where nothing outside S is known within D, all within D is in S.
  pub ended : {far : ℕ → ℕ} → Right G W far → (D : ℕ) → D < none → Bound G far (suc D) → {u x : ℕ} → Arrives G W u x → x ≤ D → far u ≤ x
  ended {far} C D Di low {u} {x} j h =
      ⊎_elim (λ (q : none ≤ far u). absurd (let z : ⊥ = omega (arith, beyond C (suc D) Di low j q) in z)) (λ (q : far u < none). (C u q).1 x j) (le-or-lt none (far u))

  -- The step: what is known of the next vertex is its distance.
  module _ {far : ℕ → ℕ} (C : Right G W far) (v : ℕ) (X : Next G far v) where
    pub next_low : Bound G far (known G far v)
    next_low u un h = key-le G.vertices {v = u} v un (X.least u un h)

    pub next-dist : Dist G W v (known G far v)
    next-dist = (
      known-sound far (λ w h. (C w h).0) v (known G far v) X.low X.some (omega arith),
      λ x j. beyond C (known G far v) (known-most G far v) next_low j X.out,
    )

    pub next-right : Right G W (upd far v (known G far v))
    next-right u = go (test u v)
      where
        go : {t : Bool} → Test u v t → cond t (known G far v) (far u) < none → Dist G W u (cond t (known G far v) (far u))
        go (same e) h = rw e next-dist
        go (other q) h = C u h

    -- Where each record takes time, v is also the next in the order of the distances.
    first-known : Strict G W → {u x : ℕ} → Arrives G W u x → x ≤ known G far v → known G far u ≤ x
    first-known st {u} {x} (ends s) h = seed-known far s (omega (arith, X.some))
    first-known st {u} {x} (leads r d rm f o j) h =
        ⊎_elim (λ (k : none ≤ far (G.to r)). absurd (let z : ⊥ = omega (arith, st r d x rm o, beyond C (known G far v) (known-most G far v) next_low j k) in z))
        (λ (k : far (G.to r) < none). record-known far r d rm f o ((C (G.to r) k).1 d j) (omega (arith, X.some)))
        (le-or-lt none (far (G.to r)))

    pub next-first : Strict G W → (u x : ℕ) → Arrives G W u x → none ≤ far u → u ≢ v → key G.vertices (known G far v) v < key G.vertices x u
    next-first st u x j h q =
        let un : u < G.vertices = arrives-low G W L j in
        ⊎_elim (λ (r : x ≤ known G far v).
        let ne : key G.vertices (known G far v) v ≢ key G.vertices x u = λ e. q (sym (key-same G.vertices (known G far v) x X.low un e)) in
        omega (arith, X.least u un h, key-up G.vertices u (known G far u) x (first-known st j r)))
        (λ (r : known G far v < x). key-less G.vertices u X.low r)
        (le-or-lt x (known G far v))
