-- A bought list that is right has the settled set with its distances and nothing else; the order of settling is right, with any records that tell where its
-- distances come from, and there are such records; no two entries are each the other's reason. Assumes nothing.
use mathlib.Core.Path.{◌≡◌, refl, sym, ap, subst, ◌∙◌}
use mathlib.Core.Logic.{◌⊎◌, inl, inr, ⊎_elim, ◌↔◌, ◌≢◌}
use mathlib.Core.Bool.{Bool, cond}
use mathlib.Core.List.{List, [], ◌∷◌, ◌++◌, append-nil, append_assoc}
use Prim.Native.Nat.{ℕ, zero, suc, ◌≤◌, ◌<◌}
use native.Mathlib.Omega.{arith}
use lib.Dec.{eqb}
use lib.ListN.{length, take, get_or}
use lib.Seq.{take-length, take_all, take-append-le, length-take-le, get_or-take}
use Rattle.journeys.specs.Counting.{none, joined, In}
use Rattle.journeys.specs.Tables.{Tables}
use Rattle.journeys.specs.Query.{Query, allowed}
use Rattle.journeys.specs.Journeys.{Distance}
use Rattle.journeys.specs.Order.{Settled, settled, Offers, Chosen, Order, IsOrder}
use Rattle.journeys.specs.Records.{network}
use Rattle.journeys.specs.Valid.{Valid}
use Rattle.journeys.specs.Network.{Network, distance_in, known}
use Rattle.journeys.specs.Lists.{vertex_in, distance_at}
use Rattle.journeys.specs.VendorLists.{size, record_in, entry_in, listed, far_before, far_listed, Reason, Fair, Right}
use Rattle.journeys.proofs.Tests.{Test, same, other, test, le-or-lt, same-or-below, last-or-below}
use Rattle.journeys.proofs.Counting.{in-joined, joined_in, length-joined, get_d-joined}
use Rattle.journeys.proofs.Ways.{Ways, Dist, Laws, arrives-low}
use Rattle.journeys.proofs.Known.{By, known_by, known-seed, known-record, Bound}
use Rattle.journeys.proofs.Firsts.{distance-in, distance-snoc}
use Rattle.journeys.proofs.Greedy.{State}
use Rattle.journeys.proofs.Settling.{settled-known, order-state, order-end, step-chosen}
use Rattle.journeys.proofs.Judged.{Backed, judged}
use Rattle.journeys.proofs.Document.{ways, laws, distance-dist, dist-distance, order-dist, allowed-low}

-- ---- the entries of a list
module _ (list : List ℕ) where
  abbrev entry : ℕ → Settled
  entry = entry_in list

  pub entry_in_lem : (n i : ℕ) → i < n → In (entry i) (listed list n)
  unfolding listed
  entry_in_lem n i h = in-joined (λ i. entry i ∷ []) n i (entry i) h (inl refl)

  pub in_entry : (n : ℕ) (x : Settled) → In x (listed list n) → (i : ℕ) × (i < n) × (x ≡ entry i)
  unfolding listed
  in_entry n x h = let r = joined_in (λ i. entry i ∷ []) n x h in (r.0, r.1, ⊎_elim (λ (e : x ≡ entry r.0). e) (λ z. absurd z) r.2)

  pub listed_more : (n : ℕ) → listed list (suc n) ≡ listed list n ++ entry n ∷ []
  unfolding listed joined
  listed_more n = refl

  pub listed-none : listed list 0 ≡ []
  unfolding listed joined
  listed-none = refl

  pub listed-length : (n : ℕ) → length (listed list n) ≡ n
  unfolding listed
  listed-length n = length-joined entry n

  pub listed-take : (n k : ℕ) → k ≤ n → take k (listed list n) ≡ listed list k
  listed-take zero k h = let e : k ≡ 0 = omega arith in rw (e, listed-none)
  listed-take (suc n) k h =
      ⊎_elim (λ (e : k ≡ suc n). rw e (take_all (suc n) (listed list (suc n)) (omega (arith, listed-length (suc n)))))
      (λ (l : k < suc n).
      ap (take k) (listed_more n) ∙ take-append-le k (listed list n) (entry n ∷ []) (omega (arith, listed-length n)) ∙ listed-take n k (omega arith))
      (same-or-below h)

  -- What the first entries list with one entry more, where its vertex is new.
  pub far-more : (n : ℕ) → ((j : ℕ) → j < n → vertex_in 12 list j ≢ vertex_in 12 list n) → (u : ℕ)
      → far_before list (suc n) u ≡ cond (eqb u (vertex_in 12 list n)) (distance_at 12 list n) (far_before list n u)
  far-more n new u =
      ap (λ (S : List Settled). distance_in S u) (listed_more n)
      ∙ distance-snoc (listed list n) (vertex_in 12 list n) (distance_at 12 list n) u
      (λ y i e. let r = in_entry n y i in new r.0 r.1 (sym (ap (λ (z : Settled). z.vertex) r.2) ∙ e))

  pub far_none : (u : ℕ) → far_before list 0 u ≡ none
  unfolding distance_in
  far_none u = ap (λ (S : List Settled). distance_in S u) listed-none

  -- Where the first n entries differ, each is found by its vertex.
  module _ (m : ℕ) (differ : (i j : ℕ) → i < m → j < i → vertex_in 12 list j ≢ vertex_in 12 list i) where
    pub far-entry : (n i : ℕ) → n ≤ m → i < n → far_before list n (vertex_in 12 list i) ≡ distance_at 12 list i
    far-entry zero i h l = absurd (omega arith)
    far-entry (suc n) i h l =
        far-more n (λ j k. differ n j (omega arith) k) (vertex_in 12 list i) ∙ go (λ q. far-entry n i (omega arith) q) (test (vertex_in 12 list i) (vertex_in 12 list n)) (last-or-below l)
      where
        go : (i < n → far_before list n (vertex_in 12 list i) ≡ distance_at 12 list i) → {t : Bool} → Test (vertex_in 12 list i) (vertex_in 12 list n) t → (i ≡ n) ⊎ (i < n)
            → cond t (distance_at 12 list n) (far_before list n (vertex_in 12 list i)) ≡ distance_at 12 list i
        go ih (same e) (inl q) = ap (distance_at 12 list) (sym q)
        go ih (same e) (inr q) = absurd (differ n i (omega arith) q e)
        go ih (other e) (inl q) = absurd (e (ap (vertex_in 12 list) q))
        go ih (other e) (inr q) = ih q

    -- two entries of one vertex are one
    pub one_entry : (i j : ℕ) → i < m → j < m → vertex_in 12 list i ≡ vertex_in 12 list j → i ≡ j
    one_entry i j a b e =
        ⊎_elim (λ (h : i ≤ j). ⊎_elim (λ (q : i ≡ j). q) (λ (q : i < j). absurd (differ j i b q e)) (same-or-below h))
        (λ (h : j < i). absurd (differ i j a h (sym e)))
        (le-or-lt i j)

-- ---- a right list
module _ (G : Network) (D : ℕ) (list : List ℕ) (R : Right G D list) where
  -- Each entry that is no seed has an earlier entry at the far end of its record.
  pub reason-earlier : (i : ℕ) → i < size list → record_in list i ≢ none → (j : ℕ) × (j < i) × (G.to (record_in list i) ≡ vertex_in 12 list j)
  reason-earlier i h n = go (R.reason i h)
    where
      go : Reason G (entry_in list) i (record_in list i) → (j : ℕ) × (j < i) × (G.to (record_in list i) ≡ vertex_in 12 list j)
      go (inl p) = absurd (n p.0)
      go (inr p) = let q = p.2 in (q.0, q.1, q.2)

  -- Two entries whose records lead to each other, as rides both ways at one moment could, are never right.
  pub no-circle : (i j : ℕ) → i < size list → j < size list → record_in list i ≢ none → record_in list j ≢ none
      → G.to (record_in list i) ≡ vertex_in 12 list j → G.to (record_in list j) ≡ vertex_in 12 list i → ⊥
  no-circle i j a b m n e f =
      let p = reason-earlier i a m in
      let q = reason-earlier j b n in
      let x : p.0 ≡ j = one_entry list (size list) R.differ p.0 j (omega (arith, p.1)) b (sym p.2 ∙ e) in
      let y : q.0 ≡ i = one_entry list (size list) R.differ q.0 i (omega (arith, q.1)) a (sym q.2 ∙ f) in
      omega (arith, p.1, q.1)

  abbrev S : List Settled
  S = listed list (size list)

  reason-offers : (i : ℕ) → Reason G (entry_in list) i (record_in list i) → Offers G (listed list i) (vertex_in 12 list i) (distance_at 12 list i)
  reason-offers i (inl p) = inl p.1
  reason-offers i (inr p) =
      let q = p.2 in
      let at : settled (G.to (record_in list i)) (distance_at 12 list q.0) ≡ entry list q.0 = ap (λ (v : ℕ). settled v (distance_at 12 list q.0)) q.2 in
      inr (record_in list i, distance_at 12 list q.0, p.0, p.1, subst (λ (x : Settled). In x (listed list i)) (sym at) (entry_in_lem list i q.0 q.1), q.3)

  backed-snoc : (P Q : List Settled) (x : Settled) → Backed G P Q → Offers G (P ++ Q) x.vertex x.distance → Backed G P (Q ++ x ∷ [])
  backed-snoc P [] x b o = (subst (λ (l : List Settled). Offers G l x.vertex x.distance) (append-nil P) o, tt)
  backed-snoc P (y ∷ Q) x b o = (b.0, backed-snoc (P ++ y ∷ []) Q x b.1 (subst (λ (l : List Settled). Offers G l x.vertex x.distance) (sym (append_assoc P (y ∷ []) Q)) o))

  backed-first : (n : ℕ) → n ≤ size list → Backed G [] (listed list n)
  backed-first zero h = subst (Backed G []) (sym (listed-none list)) tt
  backed-first (suc n) h =
      subst (Backed G []) (sym (listed_more list n)) (backed-snoc [] (listed list n) (entry list n) (backed-first n (omega arith)) (reason-offers n (R.reason n (omega arith))))

  found : (x : Settled) → In x S → distance_in S x.vertex ≡ x.distance
  found x i =
      let r = in_entry list (size list) x i in
      ap (λ (y : Settled). distance_in S y.vertex) r.2 ∙ far-entry list (size list) R.differ (size list) r.0 (omega arith) r.1 ∙ ap (λ (y : Settled). y.distance) (sym r.2)

  low : (x : Settled) → In x S → (x.vertex < G.vertices) × (x.distance ≤ D)
  low x i =
      let r = in_entry list (size list) x i in
      subst (λ (y : Settled). (y.vertex < G.vertices) × (y.distance ≤ D)) (sym r.2) (R.exists r.0 r.1, R.near r.0 r.1)

  module _ (W : Ways) (L : Laws G W) (Di : D < none) where
    -- what is offered fairly is no less than what is listed, or above D
    fair-least : (v x : ℕ) → Fair G D list v x → (distance_in S v ≤ x) ⊎ (D < x)
    fair-least v x f =
        ⊎_elim (λ (h : none ≤ distance_in S v). inr (f.beyond (λ d i. let z : ⊥ = omega (arith, found (settled v d) i, (low (settled v d) i).1) in z)))
        (λ (h : distance_in S v < none). inl (f.no_less (distance_in S v) (distance-in S v h)))
        (le-or-lt none (distance_in S v))

    known-fair : (v : ℕ) → v < G.vertices → (distance_in S v ≤ known G (distance_in S) v) ⊎ (D < known G (distance_in S) v)
    known-fair v l =
        ⊎_elim (λ (h : known G (distance_in S) v ≤ D). go h (known_by G (distance_in S) v (known G (distance_in S) v) (omega arith) (omega arith)))
        (λ (h : D < known G (distance_in S) v). inr h)
        (le-or-lt (known G (distance_in S) v) D)
      where
        at_most : (x : ℕ) → x ≤ known G (distance_in S) v → (distance_in S v ≤ x) ⊎ (D < x) → (distance_in S v ≤ known G (distance_in S) v) ⊎ (D < known G (distance_in S) v)
        at_most x h (inl a) = inl (omega arith)
        at_most x h (inr a) = inr (omega arith)

        go : known G (distance_in S) v ≤ D → By G (distance_in S) v (known G (distance_in S) v)
            → (distance_in S v ≤ known G (distance_in S) v) ⊎ (D < known G (distance_in S) v)
        go h (inl s) = at_most (G.seed v) s (fair-least v (G.seed v) (R.seeds v l))
        go h (inr x) =
            let i = x.1 in
            let f = R.records x.0 (distance_in S (G.to x.0)) i.0 (distance-in S (G.to x.0) i.2) in
            at_most (G.offer x.0 (distance_in S (G.to x.0))) x.2 (fair-least v (G.offer x.0 (distance_in S (G.to x.0))) (rw i.1 at f))

    -- What passes is the settled set with its distances: nothing else is listed, and nothing of it is left out.
    pub right-exactly : (v d : ℕ) → In (settled v d) S ↔ (Dist G W v d × (d ≤ D))
    right-exactly = judged G W L D Di S (backed-first (size list) (omega arith)) found low known-fair

-- ---- the order of settling
in_place : (l : List Settled) (x z : Settled) → In x l → (j : ℕ) × (j < length l) × (get_or l j z ≡ x)
in_place [] x z i = absurd i
in_place (y ∷ l) x z (inl e) = (0, omega arith, sym e)
in_place (y ∷ l) x z (inr i) = let r = in_place l x z i in (suc r.0, omega (arith, r.1), r.2)

module _ (G : Network) (W : Ways) (L : Laws G W) (D : ℕ) (Di : D < none) {l : List Settled} (O : Order G (Dist G W) D l) where
  abbrev at : ℕ → Settled
  at i = get_or l i (settled 0 0)

  -- Each distance of the order comes from a seed or from a record into an earlier vertex: also where rides take no minutes.
  pub reason-exists : (i : ℕ) → i < length l → (r : ℕ) × Reason G at i r
  reason-exists i h = go (step-chosen G W L D Di O i h).may.offered
    where
      go : Offers G (take i l) (at i).vertex (at i).distance → (r : ℕ) × Reason G at i r
      go (inl e) = (none, inl (refl, e))
      go (inr (r, x, rl, f, m, e)) =
          let p = in_place (take i l) (settled (G.to r) x) (settled 0 0) m in
          let j : p.0 < i = omega (arith, p.1, length-take-le i l (omega arith)) in
          let q : at p.0 ≡ settled (G.to r) x = sym (get_or-take i l p.0 (settled 0 0) j) ∙ p.2 in
          (r, inr (rl, f, (p.0, j, ap (λ (y : Settled). y.vertex) (sym q), ap (λ (y : Settled). G.offer r y.distance) q ∙ e)))

  pick : (i : ℕ) → (r : ℕ) × (i < length l → Reason G at i r)
  pick i = ⊎_elim (λ (h : length l ≤ i). (0, λ k. absurd (let z : ⊥ = omega arith in z))) (λ (h : i < length l). let x = reason-exists i h in (x.0, λ k. x.1)) (le-or-lt (length l) i)

  -- So there are records for all of it.
  pub reasons-exist : (records : ℕ → ℕ) × ((i : ℕ) → i < length l → Reason G at i (records i))
  reasons-exist = (λ i. (pick i).0, λ i h. (pick i).1 h)

  s : State G W l
  s = rw (take-length l) at (order-state G W L D Di O (length l))

  bound : Bound G (distance_in l) (suc D)
  bound = rw (take-length l) at ((order-end G W L D Di O (length l)).1 (omega arith))

  -- a list that has the vertices and distances of the order
  module _ (list : List ℕ) (is : listed list (size list) ≡ l) where
    long : size list ≡ length l
    long = sym (listed-length list (size list)) ∙ ap length is

    front : (i : ℕ) → i < size list → take i l ≡ listed list i
    front i h = ap (take i) (sym is) ∙ listed-take list (size list) i (omega arith)

    pub entry_at : (i : ℕ) → i < size list → at i ≡ entry_in list i
    unfolding listed
    entry_at i h = ap (λ (S : List Settled). get_or S i (settled 0 0)) (sym is) ∙ get_d-joined (entry_in list) (size list) i (settled 0 0) h

    chosen : (i : ℕ) → i < size list → Chosen G (Dist G W) D (listed list i) (entry_in list i)
    chosen i h =
        subst (λ (x : Settled). Chosen G (Dist G W) D (listed list i) x) (entry_at i h)
        (subst (λ (S : List Settled). Chosen G (Dist G W) D S (at i)) (front i h) (step-chosen G W L D Di O i (omega (arith, long))))

    fair : (v x : ℕ) → v < G.vertices → known G (distance_in l) v ≤ x → Fair G D list v x
    fair v x vn h =
        record {
          no_less = λ d i.
              let m : distance_in l v ≡ d = s.member (settled v d) (subst (In (settled v d)) is i) in
              let f : d < none = s.small (settled v d) (subst (In (settled v d)) is i) in
              omega (arith, m, settled-known G W L s v vn (omega arith));
          beyond = λ out.
              ⊎_elim (λ (q : none ≤ distance_in l v). omega (arith, bound v vn q))
              (λ (q : distance_in l v < none). absurd (out (distance_in l v) (subst (In (settled v (distance_in l v))) (sym is) (distance-in l v q))))
              (le-or-lt none (distance_in l v));
        }

    -- The order of settling is right, with any records that tell where its distances come from.
    pub order-right : ((i : ℕ) → i < size list → Reason G (entry_in list) i (record_in list i)) → Right G D list
    order-right reasons =
        record {
          exists = λ i h. arrives-low G W L (chosen i h).may.is.0;
          differ = λ i j h k e.
              (chosen i h).may.unsettled (distance_at 12 list j) (subst (λ (v : ℕ). In (settled v (distance_at 12 list j)) (listed list i)) e (entry_in_lem list i j k));
          near = λ i h. (chosen i h).may.low;
          reason = reasons;
          seeds = λ v vn. fair v (G.seed v) vn (known-seed G (distance_in l) v);
          records = λ r d rl i.
              let m : distance_in l (G.to r) ≡ d = s.member (settled (G.to r) d) (subst (In (settled (G.to r) d)) is i) in
              let f : d < none = s.small (settled (G.to r) d) (subst (In (settled (G.to r) d)) is i) in
              fair (G.from r) (G.offer r d) (L.from_low r rl) (rw m at (known-record G (distance_in l) (G.from r) r (rl, refl, omega arith)));
        }

-- ---- for tables and a query that nothing refuses
module _ (N : Tables) (Q : Query) (ok : Valid N Q) where
  -- What passes is our settled set with our distances: an entry is listed exactly if its distance is the journeys', and at most D.
  pub right-is-settled : (list : List ℕ) → Right (network N Q) (allowed Q) list → (v d : ℕ)
      → In (settled v d) (listed list (size list)) ↔ (Distance N Q v d × (d ≤ allowed Q))
  right-is-settled list R v d =
      let e = right-exactly (network N Q) (allowed Q) list R (ways N Q) (laws N Q ok) (allowed-low N Q ok) v d in
      (λ i. let p = e.0 i in (dist-distance N Q ok p.0, p.1), λ p. e.1 (distance-dist N Q ok p.0, p.1))

  module _ {l : List Settled} (O : IsOrder N Q l) where
    -- Our own finished list is right, in the order of the run, with any records that tell where its distances come from.
    pub own-list-right : (list : List ℕ) → listed list (size list) ≡ l → ((i : ℕ) → i < size list → Reason (network N Q) (entry_in list) i (record_in list i))
        → Right (network N Q) (allowed Q) list
    own-list-right = order-right (network N Q) (ways N Q) (laws N Q ok) (allowed Q) (allowed-low N Q ok) (order-dist N Q ok O)

    -- There always are such records.
    pub own-reasons-exist : (records : ℕ → ℕ) × ((i : ℕ) → i < length l → Reason (network N Q) (λ i. get_or l i (settled 0 0)) i (records i))
    own-reasons-exist = reasons-exist (network N Q) (ways N Q) (laws N Q ok) (allowed Q) (allowed-low N Q ok) (order-dist N Q ok O)
