-- The third demand over any network, of the held bytes: which vertices an accepted call holds at its limit, what each record says, and that a dropped or forgotten vertex does
-- not come back. Its records are those that the network counts: for a run the departing ones, for the courier's those that arrive. Assumes nothing.
use mathlib.Core.Path.{◌≡◌, refl, sym, ap, subst, ◌∙◌}
use mathlib.Core.Logic.{◌⊎◌, inl, inr, ⊎_elim, ◌↔◌}
use mathlib.Core.Bool.{Bool, true, false, cond}
use mathlib.Core.List.{List, [], ◌∷◌}
use Prim.Native.Nat.{ℕ, ◌+◌, ◌*◌, ◌≤◌, ◌<◌}
use native.Mathlib.Omega.{arith}
use native.Mathlib.Decide.{ℕ_discrete}
use lib.ListN.{take}
use Rattle.journeys.specs.Counting.{none, In}
use Rattle.journeys.specs.Bytes.{be32}
use Rattle.journeys.specs.Order as order
use Rattle.journeys.specs.Order.{Settled, Order}
use Rattle.journeys.specs.Network.{Network, Held, distance_in, within, known, remaining, met, held, row, entry, held_list, Dropped, Forgotten}
use Rattle.journeys.specs.Answers.{held_bytes}
use Rattle.journeys.proofs.Tests.{split, le-or-lt}
use Rattle.journeys.proofs.Counting.{joined_in}
use Rattle.journeys.proofs.Known.{within-is, within-not}
use Rattle.journeys.proofs.Firsts.{distance-in}
use Rattle.journeys.proofs.Greedy.{State}
use Rattle.journeys.proofs.Held.{known-met, dropped-stays, forgotten-stays}
use Rattle.journeys.proofs.Ways.{Ways, arrives-low}
use Rattle.journeys.proofs.Told as theory
use Rattle.journeys.proofs.Told.{Told}
use Rattle.records.proofs.RecordBytes.{length-held, held_back_lem}
use Rattle.answered.specs.Search.{Search, Orders, refusal, held_count, steps, S, SettledNames, HeldNames}
use Rattle.answered.proofs.RecordsInBytes.{Stands, stands-front, record-listed, listed-record}
use Rattle.answered.proofs.Answers.{Complete, accepted-sound, held-are}
use Rattle.answered.proofs.Vertices.{settled-record, in_order_lem}

-- the four words of record i of the bytes are those of x
abbrev Spells : List ℕ → ℕ → Held → Type 0
Spells bytes i x = (be32 bytes (16 * i) ≡ x.vertex) × (be32 bytes (16 * i + 4) ≡ x.distance) × (be32 bytes (16 * i + 8) ≡ x.state) × (be32 bytes (16 * i + 12) ≡ x.remaining)

words : (bytes : List ℕ) (i : ℕ) (x : Held) → Stands held_bytes 16 length-held bytes i x → Spells bytes i x
words bytes i x s = (
  stands-front held_bytes 16 length-held bytes i x (omega arith) s [] ∙ (held_back_lem x []).0,
  s 4 (omega arith) [] ∙ (held_back_lem x []).1,
  s 8 (omega arith) [] ∙ (held_back_lem x []).2,
  s 12 (omega arith) [] ∙ (held_back_lem x []).3,
)

-- what the working table lists is the row of a vertex
listed-row : (G : Network) (far : ℕ → ℕ) (x : Held) → In x (held_list G far) → (x.vertex < G.vertices) × (x ≡ row G far x.vertex)
unfolding held_list entry row
listed-row G far x i = let y = joined_in (entry G far) G.vertices x i in go y.0 y.1 (held G far y.0) y.2
  where
    go : (u : ℕ) → u < G.vertices → (t : Bool) → In x (cond t (row G far u ∷ []) []) → (x.vertex < G.vertices) × (x ≡ row G far x.vertex)
    go u h true (inl p) =
        let q : x.vertex ≡ u = ap (λ (w : Held). w.vertex) p in
        (subst (λ (w : ℕ). w < G.vertices) (sym q) h, subst (λ (w : ℕ). x ≡ row G far w) (sym q) p)
    go u h true (inr z) = absurd z
    go u h false z = absurd z

-- ---- S after k steps of the order l, over a network that is told by journeys
module _ (G : Network) (W : Ways) (distance : ℕ → ℕ → Type 0) (told : Told G W distance) (l : List Settled) (O : Order G distance G.allowed l) (k : ℕ) where
  abbrev far' : ℕ → ℕ
  far' = distance_in (take k l)

  state : State G W (take k l)
  state = theory.order-state G W distance told O k

  in-far : (v d : ℕ) → In (order.settled v d) (take k l) → far' v < none
  in-far v d i = omega (arith, state.member (order.settled v d) i, state.small (order.settled v d) i)

  far-distance : (v : ℕ) → far' v < none → distance v (far' v)
  far-distance v h = (theory.order-each G W distance told O v (far' v) (in_order_lem k l (order.settled v (far' v)) (distance-in (take k l) v h))).0

  far-low : (v : ℕ) → far' v < none → v < G.vertices
  far-low v h = arrives-low G W told.laws (told.is-dist v (far' v) (far-distance v h)).0

  known-far : (v : ℕ) → far' v < none → known G far' v ≡ far' v
  known-far v h = theory.known-settled G W distance told O k v (far-low v h) h

  far-met : (v : ℕ) → far' v < none → met G far' v ≡ true
  far-met v h = known-met G far' v (omega (arith, known-far v h))

  still-dropped : (k' : ℕ) → k ≤ k' → (v : ℕ) → Dropped G far' v → Dropped G (distance_in (take k' l)) v
  still-dropped k' h = dropped-stays G far' (distance_in (take k' l)) (λ u s. omega (arith, theory.order-grows G W distance told O k k' h u s))

  still-forgotten : (k' : ℕ) → k ≤ k' → (v : ℕ) → Forgotten G far' v → Forgotten G (distance_in (take k' l)) v
  still-forgotten k' h v g =
      forgotten-stays G far' (distance_in (take k' l)) (λ u s. theory.order-grows G W distance told O k k' h u s) told.few v
      (theory.forgotten-unsettled G W distance told O k k' h v g) g

module _ (s : Search) (C : Complete s) (accepted : refusal s ≡ 0) (l : List Settled) (O : Orders s l) where
  -- the network, and the distances of S
  abbrev G : Network
  G = s.network

  abbrev far : ℕ → ℕ
  far = distance_in (S s l)

  told : Told G C.ways s.distance
  told = C.told (accepted-sound s C accepted)

  from-record : (i : ℕ) → i < held_count s → (x : Held) × In x (held_list G far) × Spells s.held_after i x
  from-record i h =
      let are = held-are s C accepted l O in
      let z = record-listed held_bytes 16 length-held s.held_after s.held (held_list G far) (held_count s) are.0 are.1 i h in
      (z.0, z.1, words s.held_after i z.0 z.2)

  to-record : (x : Held) → In x (held_list G far) → (i : ℕ) × (i < held_count s) × Spells s.held_after i x
  to-record x m =
      let are = held-are s C accepted l O in
      let z = listed-record held_bytes 16 length-held s.held_after s.held (held_list G far) (held_count s) are.0 are.1 x m in
      (z.0, z.1, words s.held_after z.0 x z.2)

  -- a counted record that names v is the row of v
  named-row : (i v : ℕ) → i < held_count s → be32 s.held_after (16 * i) ≡ v → (v < G.vertices) × In (row G far v) (held_list G far) × Spells s.held_after i (row G far v)
  named-row i v h e =
      let z = from-record i h in
      let y = listed-row G far z.0 z.1 in
      let q : z.0.vertex ≡ v = sym z.2.0 ∙ e in
      let p : z.0 ≡ row G far v = y.1 ∙ ap (row G far) q in
      (subst (λ (w : ℕ). w < G.vertices) q y.0, subst (λ (x : Held). In x (held_list G far)) p z.1, subst (Spells s.held_after i) p z.2)

  -- At any limit that fits the room some counted record of the held bytes names a vertex exactly if it is one of the table's, has been met, and is neither settled with all
  -- its records leading into S nor unsettled with all of them leading into S and known above D.
  pub held-named : (v : ℕ) → HeldNames s v ↔ ((v < G.vertices) × (met G far v ≡ true) × ¬ Dropped G far v × ¬ Forgotten G far v)
  unfolding row
  held-named v = (
    λ p.
        let z = named-row p.0 v p.1 p.2 in
        let m = (theory.held-means G far v).0 ((theory.held-exactly G far v z.0).0 z.1) in
        (z.0, m.0, m.1, m.2),
    λ p.
        let m = (theory.held-exactly G far v p.0).1 ((theory.held-means G far v).1 (p.1, p.2, p.3)) in
        let z = to-record (row G far v) m in
        (z.0, z.1, z.2.0),
  )

  -- A counted record that names a vertex says what is known of it, 1 if it is settled and 0 if not, and how many of its records do not lead into S.
  pub held-record : (i v : ℕ) → i < held_count s → be32 s.held_after (16 * i) ≡ v
      → (be32 s.held_after (16 * i + 4) ≡ known G far v) × (be32 s.held_after (16 * i + 8) ≡ cond (within far v) 1 0) × (be32 s.held_after (16 * i + 12) ≡ remaining G far v)
  unfolding row
  held-record i v h e = let z = named-row i v h e in (z.2.1, z.2.2, z.2.3)

  listed-far : (v : ℕ) → SettledNames s v → far v < none
  listed-far v p = let d = be32 s.settled_after (8 * p.0 + 4) in in-far G C.ways s.distance told l O (steps s l) v d ((settled-record s C accepted l O v d).0 (p.0, p.1, p.2, refl))

  far-listed : (v : ℕ) → far v < none → SettledNames s v
  far-listed v h = let z = (settled-record s C accepted l O v (far v)).1 (distance-in (S s l) v h) in (z.0, z.1, z.2)

  -- Its state is 1 if some counted record of the settled bytes names that vertex, and 0 if none does.
  pub held-state : (i v : ℕ) → i < held_count s → be32 s.held_after (16 * i) ≡ v
      → ((be32 s.held_after (16 * i + 8) ≡ 1) × SettledNames s v) ⊎ ((be32 s.held_after (16 * i + 8) ≡ 0) × ¬ SettledNames s v)
  held-state i v h e =
      let s = (held-record i v h e).1 in
      ⊎_elim (λ (t : within far v ≡ true). inl (rw t at s, far-listed v (within-is far v t)))
      (λ (t : within far v ≡ false). inr (rw t at s, λ p. let z : ⊥ = omega (arith, listed-far v p, within-not far v t) in z))
      (split (within far v))

  -- Of a settled vertex the distance there is its own.
  pub held-figure : (i v : ℕ) → i < held_count s → be32 s.held_after (16 * i) ≡ v → be32 s.held_after (16 * i + 8) ≡ 1 → s.distance v (be32 s.held_after (16 * i + 4))
  held-figure i v h e one =
      ⊎_elim
      (λ (p : (be32 s.held_after (16 * i + 8) ≡ 1) × SettledNames s v).
      let f = listed-far v p.1 in
      let d = (held-record i v h e).0 ∙ known-far G C.ways s.distance told l O (steps s l) v f in
      subst (s.distance v) (sym d) (far-distance G C.ways s.distance told l O (steps s l) v f))
      (λ (p : (be32 s.held_after (16 * i + 8) ≡ 0) × ¬ SettledNames s v). absurd (let z : ⊥ = omega (arith, p.0, one) in z))
      (held-state i v h e)

  -- A vertex has been dropped exactly if the settled bytes name it and the held bytes do not.
  pub dropped-exactly : (v : ℕ) → Dropped G far v ↔ (SettledNames s v × ¬ HeldNames s v)
  dropped-exactly v = (λ d. (far-listed v d.0, λ p. ((held-named v).0 p).2 d), λ p. back (listed-far v p.0) p.1 (ℕ_discrete (remaining G far v) 0))
    where
      back : far v < none → ¬ HeldNames s v → Dec (remaining G far v ≡ 0) → Dropped G far v
      back h n (yes e) = (h, e)
      back h n (no q) = absurd (n ((held-named v).1 (far-low G C.ways s.distance told l O (steps s l) v h, far-met G C.ways s.distance told l O (steps s l) v h, (λ d. q d.1), λ f. q f.1)))

  -- A vertex of the table that has been met is forgotten exactly if neither the settled bytes nor the held bytes name it.
  pub forgotten-exactly : (v : ℕ) → v < G.vertices → met G far v ≡ true → Forgotten G far v ↔ (¬ SettledNames s v × ¬ HeldNames s v)
  forgotten-exactly v vn m = (
    λ f. ((λ p. let z : ⊥ = omega (arith, listed-far v p, f.0) in z), λ p. ((held-named v).0 p).3 f),
    λ p. back (λ h. p.0 (far-listed v h)) p.1 (forgotten-dec (ℕ_discrete (remaining G far v) 0) (le-or-lt (known G far v) G.allowed)),
  )
    where
      forgotten-dec : Dec (remaining G far v ≡ 0) → (known G far v ≤ G.allowed) ⊎ (G.allowed < known G far v) → ((remaining G far v ≡ 0) × (G.allowed < known G far v)) ⊎ (((remaining G far v ≡ 0) × (G.allowed < known G far v)) → ⊥)
      forgotten-dec (yes e) (inr l) = inl (e, l)
      forgotten-dec (yes e) (inl l) = inr (λ p. let z : ⊥ = omega (arith, p.1) in z)
      forgotten-dec (no q) l = inr (λ p. q p.0)

      back : (far v < none → ⊥) → ¬ HeldNames s v → ((remaining G far v ≡ 0) × (G.allowed < known G far v)) ⊎ (((remaining G far v ≡ 0) × (G.allowed < known G far v)) → ⊥) → Forgotten G far v
      back out n (inl e) = (⊎_elim (λ (h : none ≤ far v). h) (λ (h : far v < none). absurd (out h)) (le-or-lt none (far v)), e.0, e.1)
      back out n (inr q) = absurd (n ((held-named v).1 (vn, m, (λ d. out d.0), λ f. q (f.1, f.2))))

-- Two accepted calls with the same order over the same network, the second of which may go at least as far, with whatever room.
module _ (s t : Search) (C : Complete s) (C₂ : Complete t) (accepted : refusal s ≡ 0) (accepted₂ : refusal t ≡ 0) (same : s.network ≡ t.network) (more : s.limit ≤ t.limit)
    (l : List Settled) (O : Orders s l) (O₂ : Orders t l) where
  -- Forgotten stays forgotten: a vertex that the first has met and neither settled nor held, the second neither settles nor holds.
  pub forgotten-for-good : (v : ℕ) → v < s.network.vertices → met s.network (distance_in (S s l)) v ≡ true → ¬ SettledNames s v → ¬ HeldNames s v
      → ¬ SettledNames t v × ¬ HeldNames t v
  forgotten-for-good v vn m out gone =
      let f = still-forgotten s.network C.ways s.distance (told s C accepted l O) l O (steps s l) (steps t l) (omega arith) v ((forgotten-exactly s C accepted l O v vn m).1 (out, gone)) in
      let f₂ : Forgotten t.network (distance_in (S t l)) v = subst (λ (G : Network). Forgotten G (distance_in (S t l)) v) same f in
      ((λ p. let z : ⊥ = omega (arith, listed-far t C₂ accepted₂ l O₂ v p, f₂.0) in z), λ p. ((held-named t C₂ accepted₂ l O₂ v).0 p).3 f₂)

  -- Dropped stays dropped: what the first has settled and no longer holds, the second does not hold.
  pub dropped-for-good : (v : ℕ) → SettledNames s v → ¬ HeldNames s v → ¬ HeldNames t v
  dropped-for-good v listed gone =
      let d = still-dropped s.network C.ways s.distance (told s C accepted l O) l O (steps s l) (steps t l) (omega arith) v ((dropped-exactly s C accepted l O v).1 (listed, gone)) in
      let d₂ : Dropped t.network (distance_in (S t l)) v = subst (λ (G : Network). Dropped G (distance_in (S t l)) v) same d in
      ((dropped-exactly t C₂ accepted₂ l O₂ v).0 d₂).1
