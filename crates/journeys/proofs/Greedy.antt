-- The order exists: a search that takes the least known vertex at each step makes it. It is a witness of the theory, no part of any definition.
-- From it: the distance within D is decidable, and the next vertex of the order is the least known one. Assumes nothing.
use mathlib.Core.Path.{◌≡◌, refl, sym, ap, subst, fun_ext, ◌∙◌}
use mathlib.Core.Logic.{◌⊎◌, inl, inr, ⊎_elim, ◌≢◌}
use mathlib.Core.Bool.{Bool, true, false, cond}
use mathlib.Core.List.{List, [], ◌∷◌, ◌++◌}
use Prim.Native.Nat.{ℕ, zero, suc, ◌+◌, ◌≤◌, ◌<◌}
use native.Mathlib.Decide.{dec_le}
use native.Mathlib.Omega.{arith}
use lib.Dec.{leb}
use lib.ListN.{length, length-append}
use Rattle.journeys.specs.Counting.{none, count, In, one}
use Rattle.journeys.specs.Order.{Settled, settled}
use Rattle.journeys.specs.Network.{Network, distance_in, within, known}
use Rattle.journeys.proofs.Tests.{Test, same, other, test, TestLe, fits, over, test_le, le-or-lt, last-or-below}
use Rattle.journeys.proofs.Counting.{in-snoc, below_suc, is_one, is_zero, count_same, count-all, none-count}
use Rattle.journeys.proofs.Ways.{Ways, Arrives, Dist, Laws, dist-one, arrives-up}
use Rattle.journeys.proofs.Place.{key, top, key-top, top_key}
use Rattle.journeys.proofs.Known.{upd, upd_same, upd_other, not_within, within-is, within_same, within-other, Right, Bound, Next, ended, next-right}
use Rattle.journeys.proofs.Step.{known_step}
use Rattle.journeys.proofs.Firsts.{distance-in, distance-snoc}

-- the least of f 0 .. f (k - 1) below t, and where it is
unfoldable pub scan : (ℕ → ℕ) → ℕ → ℕ → ℕ × ℕ
scan f t zero = (t, zero)
scan f t (suc k) = let r = scan f t k in elim (leb r.0 (f k)) [ true ↦ r | false ↦ (f k, k) ]

pub record Scanned (f : ℕ → ℕ) (t k : ℕ) (r : ℕ × ℕ) : Type 0 where
  pub most : r.0 ≤ t
  pub least : (u : ℕ) → u < k → r.0 ≤ f u
  pub at : (r.0 ≡ t) ⊎ ((r.1 < k) × (f r.1 ≡ r.0))

pub scanned : (f : ℕ → ℕ) (t k : ℕ) → Scanned f t k (scan f t k)
unfolding scan
scanned f t zero = record { most = omega arith; least = λ u h. absurd (omega arith); at = inl refl }
scanned f t (suc k) = go (scan f t k) (scanned f t k) (test_le (scan f t k).0 (f k))
  where
    go : (r : ℕ × ℕ) → Scanned f t k r → {b : Bool} → TestLe r.0 (f k) b → Scanned f t (suc k) (elim b as (λ _. ℕ × ℕ) [ true ↦ r | false ↦ (f k, k) ])
    go r R (fits q) = record { most = R.most; least = below_suc {P = λ u. r.0 ≤ f u} k R.least q; at = keep R.at }
      where
        keep : (r.0 ≡ t) ⊎ ((r.1 < k) × (f r.1 ≡ r.0)) → (r.0 ≡ t) ⊎ ((r.1 < suc k) × (f r.1 ≡ r.0))
        keep (inl e) = inl e
        keep (inr x) = inr (omega arith, x.1)
    go r R (over q) =
        record { most = omega (arith, R.most); least = below_suc {P = λ u. f k ≤ f u} k (λ u h. omega (arith, R.least u h)) (omega arith); at = inr (omega arith, refl) }

-- one more vertex settled, one more counted
pub count-upd : (far : ℕ → ℕ) (v b n : ℕ) → none ≤ far v → b < none → v < n → count (within (upd far v b)) n ≡ count (within far) n + 1
unfolding count
count-upd far v b zero o s l = absurd (omega arith)
count-upd far v b (suc n) o s l =
    ⊎_elim
    (λ (e : v ≡ n).
    let below = count_same (within (upd far v b)) (within far) n (λ i k. within-other far v b i (omega arith)) in
    omega (arith, below, is_one (within_same far v b n s (sym e)), is_zero (not_within far n (rw e at o))))
    (λ (k : v < n). omega (arith, ap one (within-other far v b n (let ne : n ≢ v = omega arith in ne)), count-upd far v b n o s k))
    (last-or-below l)

module _ (G : Network) where
  -- what is known of a vertex outside S
  unfoldable pub candidate : (ℕ → ℕ) → ℕ → ℕ
  candidate far u = cond (leb none (far u)) (known G far u) none

  unfoldable pub next : ℕ → (ℕ → ℕ) → ℕ × ℕ
  next D far = scan (λ u. key G.vertices (candidate far u) u) (top G.vertices D) G.vertices

  unfoldable pub run : ℕ → ℕ → List Settled → List Settled
  run D zero S = S
  run D (suc k) S =
      let r = next D (distance_in S) in
      elim (leb (top G.vertices D) r.0) [ true ↦ S | false ↦ run D k (S ++ settled r.1 (known G (distance_in S) r.1) ∷ []) ]

  -- what holds of S between two steps, whichever order the steps are made in
  pub record State (W : Ways) (S : List Settled) : Type 0 where
    pub right : Right G W (distance_in S)
    pub member : (x : Settled) → In x S → distance_in S x.vertex ≡ x.distance
    pub small : (x : Settled) → In x S → x.distance < none
    pub counted : count (within (distance_in S)) G.vertices ≡ length S
    pub kept : (v : ℕ) → distance_in S v < none → known G (distance_in S) v ≤ distance_in S v

  -- all within D is in S
  abbrev pub Whole : Ways → ℕ → List Settled → Type 0
  Whole W D S = (u d : ℕ) → Dist G W u d → d ≤ D → In (settled u d) S

module _ (G : Network) (W : Ways) where
  pub empty : State G W []
  unfolding distance_in
  empty =
      record {
        right = λ v h. absurd (omega arith);
        member = λ x i. absurd i;
        small = λ x i. absurd i;
        counted = none-count (within (distance_in [])) G.vertices (λ v h. not_within (distance_in []) v (omega arith));
        kept = λ v h. absurd (omega arith);
      }

  pub state-in : {S : List Settled} → State G W S → (u d : ℕ) → Dist G W u d → distance_in S u < none → In (settled u d) S
  state-in {S} s u d X h = rw (dist-one G W u (distance_in S u) d (s.right u h) X) at (distance-in S u h)

module _ (G : Network) (W : Ways) (L : Laws G W) where
  module _ {S : List Settled} (s : State G W S) (v : ℕ) (X : Next G (distance_in S) v) where
    fresh : (y : Settled) → In y S → y.vertex ≢ v
    fresh y i e = omega (arith, s.small y i, rw e at (s.member y i), X.out)

    pub snoc : (u : ℕ) → distance_in (S ++ settled v (known G (distance_in S) v) ∷ []) u ≡ upd (distance_in S) v (known G (distance_in S) v) u
    snoc u = distance-snoc S v (known G (distance_in S) v) u fresh

    pub next-state : State G W (S ++ settled v (known G (distance_in S) v) ∷ [])
    next-state =
        record {
          right = subst (Right G W) (sym (fun_ext snoc)) (next-right G W L s.right v X);
          member = λ x i. member x (in-snoc S (settled v b) x i);
          small = λ x i. small x (in-snoc S (settled v b) x i);
          counted =
              subst (λ (far : ℕ → ℕ). count (within far) G.vertices ≡ length (S ++ settled v b ∷ [])) (sym (fun_ext snoc))
              (count-upd (distance_in S) v b G.vertices X.out X.some X.low ∙ simp length-append (omega (arith, s.counted)));
          kept = λ u. subst (λ (far : ℕ → ℕ). far u < none → known G far u ≤ far u) (sym (fun_ext snoc)) (kept u (test u v));
        }
      where
        b : ℕ
        b = known G (distance_in S) v

        member : (x : Settled) → In x S ⊎ (x ≡ settled v b) → distance_in (S ++ settled v b ∷ []) x.vertex ≡ x.distance
        member x (inl i) = snoc x.vertex ∙ upd_other (distance_in S) v b x.vertex (fresh x i) ∙ s.member x i
        member x (inr e) = rw e (snoc v ∙ upd_same (distance_in S) v b v refl)

        small : (x : Settled) → In x S ⊎ (x ≡ settled v b) → x.distance < none
        small x (inl i) = s.small x i
        small x (inr e) = rw e X.some

        kept : (u : ℕ) {t : Bool} → Test u v t → cond t b (distance_in S u) < none → known G (upd (distance_in S) v b) u ≤ cond t b (distance_in S u)
        kept u (same e) h = rw e (omega (arith, known_step G (distance_in S) v b X.out X.some v))
        kept u (other q) h = omega (arith, known_step G (distance_in S) v b X.out X.some u, s.kept u h)

  module _ (D : ℕ) (Di : D < none) where
    candidate-out : (far : ℕ → ℕ) (u : ℕ) → none ≤ far u → candidate G far u ≡ known G far u
    unfolding candidate
    candidate-out far u h = go (test_le none (far u))
      where
        go : {t : Bool} → TestLe none (far u) t → cond t (known G far u) none ≡ known G far u
        go (fits q) = refl
        go (over q) = absurd (omega arith)

    candidate-low : (far : ℕ → ℕ) (u : ℕ) → candidate G far u ≤ D → none ≤ far u
    unfolding candidate
    candidate-low far u = go (test_le none (far u))
      where
        go : {t : Bool} → TestLe none (far u) t → cond t (known G far u) none ≤ D → none ≤ far u
        go (fits q) h = q
        go (over q) h = absurd (omega arith)

    is-next : (far : ℕ → ℕ) (r : ℕ × ℕ) → Scanned (λ u. key G.vertices (candidate G far u) u) (top G.vertices D) G.vertices r → r.0 < top G.vertices D
        → Next G far r.1 × (known G far r.1 ≤ D)
    is-next far r R h = go R.at
      where
        go : (r.0 ≡ top G.vertices D) ⊎ ((r.1 < G.vertices) × (key G.vertices (candidate G far r.1) r.1 ≡ r.0)) → Next G far r.1 × (known G far r.1 ≤ D)
        go (inl e) = absurd (omega arith)
        go (inr x) =
            let w : candidate G far r.1 ≤ D = top_key G.vertices r.1 (candidate G far r.1) D (omega arith) in
            let o : none ≤ far r.1 = candidate-low far r.1 w in
            let q : candidate G far r.1 ≡ known G far r.1 = candidate-out far r.1 o in (
              record {
                low = x.0;
                out = o;
                some = omega arith;
                least = λ u un uo. rw (← q) (rw (← candidate-out far u uo) (omega (arith, R.least u un)));
              },
              omega arith,
            )

    none_left : (far : ℕ → ℕ) (r : ℕ × ℕ) → Scanned (λ u. key G.vertices (candidate G far u) u) (top G.vertices D) G.vertices r → top G.vertices D ≤ r.0
        → Bound G far (suc D)
    none_left far r R h u un uo =
        ⊎_elim (λ (q : known G far u ≤ D). absurd (let z : ⊥ = omega (arith, key-top G.vertices u (known G far u) D un q, rw (candidate-out far u uo) at (R.least u un)) in z))
        (λ (q : D < known G far u). q)
        (le-or-lt (known G far u) D)

    -- The next vertex within D, or that there is none.
    pub found : (far : ℕ → ℕ) → ((v : ℕ) × Next G far v × (known G far v ≤ D)) ⊎ Bound G far (suc D)
    found far = go (scan f (top G.vertices D) G.vertices) (scanned f (top G.vertices D) G.vertices)
      where
        f : ℕ → ℕ
        f u = key G.vertices (candidate G far u) u

        go : (r : ℕ × ℕ) → Scanned f (top G.vertices D) G.vertices r → ((v : ℕ) × Next G far v × (known G far v ≤ D)) ⊎ Bound G far (suc D)
        go r R =
            ⊎_elim (λ (q : top G.vertices D ≤ r.0). inr (none_left far r R q))
            (λ (q : r.0 < top G.vertices D). let x = is-next far r R q in inl (r.1, x.0, x.1))
            (le-or-lt (top G.vertices D) r.0)

    -- Whatever each step keeps holds of the run, which makes its k steps or ends where nothing within D is known.
    pub record Ran (P : List Settled → Type 0) (t : ℕ) (S : List Settled) : Type 0 where
      pub state : State G W S
      pub keeps : P S
      pub most : length S ≤ t
      pub all : (length S ≡ t) ⊎ Bound G (distance_in S) (suc D)

    pub run_ran : (P : List Settled → Type 0)
        → ((S : List Settled) → State G W S → P S → (v : ℕ) → Next G (distance_in S) v → known G (distance_in S) v ≤ D → P (S ++ settled v (known G (distance_in S) v) ∷ []))
        → (k t : ℕ) (S : List Settled) → State G W S → P S → length S + k ≡ t → Ran P t (run G D k S)
    unfolding run next
    run_ran P step zero t S s p e = record { state = s; keeps = p; most = omega arith; all = inl (omega arith) }
    run_ran P step (suc k) t S s p e =
        go (next G D far) (scanned f (top G.vertices D) G.vertices) (λ S' s' p' e'. run_ran P step k t S' s' p' e') (test_le (top G.vertices D) (next G D far).0)
      where
        far : ℕ → ℕ
        far = distance_in S

        f : ℕ → ℕ
        f u = key G.vertices (candidate G far u) u

        go : (r : ℕ × ℕ) → Scanned f (top G.vertices D) G.vertices r → ((S' : List Settled) → State G W S' → P S' → length S' + k ≡ t → Ran P t (run G D k S'))
            → {b : Bool} → TestLe (top G.vertices D) r.0 b
            → Ran P t (elim b as (λ _. List Settled) [ true ↦ S | false ↦ run G D k (S ++ settled r.1 (known G far r.1) ∷ []) ])
        go r R ih (fits q) = record { state = s; keeps = p; most = omega arith; all = inr (none_left far r R q) }
        go r R ih (over q) =
            let x = is-next far r R q in
            ih _ (next-state s r.1 x.0) (step S s p r.1 x.0 x.1) (simp length-append (omega arith))

    pub bound-whole : {S : List Settled} → State G W S → Bound G (distance_in S) (suc D) → Whole G W D S
    bound-whole {S} s b u d X h = state-in G W s u d X (omega (arith, ended G W L s.right D Di b X.0 h))

    -- n steps are enough
    pub all_known : (S : List Settled) → Ran (λ _. Unit {0}) G.vertices S → Bound G (distance_in S) (suc D)
    all_known S r = go r.all
      where
        go : (length S ≡ G.vertices) ⊎ Bound G (distance_in S) (suc D) → Bound G (distance_in S) (suc D)
        go (inl e) = λ u un h. absurd (omega (arith, within-is (distance_in S) u (count-all (within (distance_in S)) G.vertices (omega (arith, r.state.counted)) u un)))
        go (inr b) = b

    ran : Ran (λ _. Unit {0}) G.vertices (run G D G.vertices [])
    ran = run_ran (λ _. Unit {0}) (λ S s p v X h. tt) G.vertices G.vertices [] (empty G W) tt (omega arith)

    -- the distance within D of each vertex, or none
    unfoldable pub dist : ℕ → ℕ
    dist v = distance_in (run G D G.vertices []) v

    dist-sound : (v : ℕ) → dist v < none → Dist G W v (dist v)
    unfolding dist
    dist-sound v h = ran.state.right v h

    dist-full : {u x : ℕ} → Arrives G W u x → x ≤ D → dist u ≤ x
    unfolding dist
    dist-full j h = ended G W L ran.state.right D Di (all_known (run G D G.vertices []) ran) j h

  -- Whether a start arrives can be decided, and where one arrives there is a latest one.
  pub arrives-dec : (v b : ℕ) → b < none → Dec (Arrives G W v b)
  arrives-dec v b h = go (dec_le (dist b h v) b)
    where
      go : Dec (dist b h v ≤ b) → Dec (Arrives G W v b)
      go (yes q) = yes (arrives-up G W L b q (dist-sound b h v (omega arith)).0)
      go (no q) = no (λ j. q (dist-full b h j (omega arith)))

  pub dist-exists : (v b : ℕ) → b < none → Arrives G W v b → (d : ℕ) × Dist G W v d × (d ≤ b)
  dist-exists v b h j = let le : dist b h v ≤ b = dist-full b h j (omega arith) in (dist b h v, dist-sound b h v (omega arith), le)
