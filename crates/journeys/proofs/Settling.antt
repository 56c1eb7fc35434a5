-- The order of settling and the search: what the search's proof cites. `take k l` is S after k steps of the order l. Assumes nothing.
use mathlib.Core.Path.{◌≡◌, refl, sym, ap, subst, ◌∙◌}
use mathlib.Core.Logic.{◌⊎◌, inl, inr, ⊎_elim, ◌↔◌}
use mathlib.Core.List.{List, [], ◌∷◌, ◌++◌, append-nil, append_assoc}
use Prim.Native.Nat.{ℕ, zero, suc, ◌+◌, ◌-◌, ◌≤◌, ◌<◌}
use native.Mathlib.Omega.{arith}
use lib.ListN.{length, take, drop, take-append-drop, drop_of_length-le, get_or}
use lib.Seq.{take-length, take-suc, take-add, drop-cons}
use Rattle.journeys.specs.Counting.{none, In}
use Rattle.journeys.specs.Order.{Settled, settled, Offers, Eligible, Chosen, Follows, Order}
use Rattle.journeys.specs.Network.{Network, distance_in, within, known}
use Rattle.journeys.proofs.Tests.{le-or-lt}
use Rattle.journeys.proofs.Counting.{in_right, count_most}
use Rattle.journeys.proofs.Ways.{Ways, Dist, Laws, arrives-low}
use Rattle.journeys.proofs.Place.{key-up, earlier-place}
use Rattle.journeys.proofs.Known.{By, known_by, known-seed, known-record, known-most, Next, Bound, known-sound, beyond, next_low, next-dist}
use Rattle.journeys.proofs.Firsts.{distance-in, distance_grows, chosen-one, follows-drop, follows-apart, follows-each}
use Rattle.journeys.proofs.Greedy.{State, Whole, Ran, empty, next-state, run, run_ran, found, bound-whole, all_known}

-- what is known of a settled vertex is its distance
pub settled-known : (G : Network) (W : Ways) (L : Laws G W) {S : List Settled} → State G W S → (v : ℕ) → v < G.vertices → distance_in S v < none
    → known G (distance_in S) v ≡ distance_in S v
settled-known G W L {S} s v vn h =
    let k = s.kept v h in
    let j = known-sound G W L (distance_in S) (λ w i. (s.right w i).0) v (known G (distance_in S) v) vn (omega arith) (omega arith) in
    omega (arith, (s.right v h).1 (known G (distance_in S) v) j)

module _ (G : Network) (W : Ways) (L : Laws G W) (D : ℕ) (Di : D < none) where
  -- ---- one step
  module _ {S : List Settled} (s : State G W S) where
    abbrev far : ℕ → ℕ
    far = distance_in S

    one_choice : {x y : Settled} → Chosen G (Dist G W) D S x → Chosen G (Dist G W) D S y → x ≡ y
    one_choice = chosen-one G (Dist G W) (let q : D ≤ D = omega arith in q)

    pub apart_out : (v : ℕ) → ((d : ℕ) → ¬ In (settled v d) S) → none ≤ far v
    apart_out v h = ⊎_elim (λ (q : none ≤ far v). q) (λ (q : far v < none). absurd (h (far v) (distance-in S v q))) (le-or-lt none (far v))

    out-apart : (v : ℕ) → none ≤ far v → (d : ℕ) → ¬ In (settled v d) S
    out-apart v h d i = omega (arith, s.member (settled v d) i, s.small (settled v d) i)

    -- What S offers a vertex is known of it.
    offers-known : (v d : ℕ) → Offers G S v d → known G far v ≤ d
    offers-known v d (inl e) = omega (arith, known-seed G far v)
    offers-known v d (inr (r, x, l, f, i, e)) =
        let m : far (G.to r) ≡ x = s.member (settled (G.to r) x) i in
        let k = known-record G far v r (l, f, omega (arith, s.small (settled (G.to r) x) i)) in
        omega (arith, rw m at k)

    -- And what is known of it below none is offered.
    known-offers : (v : ℕ) → known G far v < none → Offers G S v (known G far v)
    known-offers v h = go (known_by G far v (known G far v) h (omega arith))
      where
        go : By G far v (known G far v) → Offers G S v (known G far v)
        go (inl q) = inl (omega (arith, known-seed G far v))
        go (inr x) =
            let i = x.1 in
            inr (x.0, far (G.to x.0), i.0, i.1, distance-in S (G.to x.0) i.2, omega (arith, x.2, known-record G far v x.0 i))

    -- The least known vertex outside S, if within D, is the one that the order chooses.
    pub next-chosen : (v : ℕ) → Next G far v → known G far v ≤ D → Chosen G (Dist G W) D S (settled v (known G far v))
    next-chosen v X h =
        record {
          may = record { unsettled = out-apart v X.out; is = next-dist G W L s.right v X; low = omega arith; offered = known-offers v X.some };
          first = λ y c e.
              let yn : y.vertex < G.vertices = arrives-low G W L c.is.0 in
              omega (
                arith,
                earlier-place G.vertices y (settled v (known G far v)) yn e,
                X.least y.vertex yn (apart_out y.vertex c.unsettled),
                key-up G.vertices y.vertex (known G far y.vertex) y.distance (offers-known y.vertex y.distance c.offered),
              );
        }

    -- Where nothing outside S is known within D, nothing may follow.
    pub bound-none : Bound G far (suc D) → (x : Settled) → ¬ Eligible G (Dist G W) D S x
    bound-none b x c =
        omega (arith, b x.vertex (arrives-low G W L c.is.0) (apart_out x.vertex c.unsettled), offers-known x.vertex x.distance c.offered, c.low)

    none-bound : ((x : Settled) → ¬ Eligible G (Dist G W) D S x) → Bound G far (suc D)
    none-bound f = ⊎_elim (λ x. absurd (f (settled x.0 (known G far x.0)) (next-chosen x.0 x.1 x.2).may)) (λ b. b) (found G W L D Di far)

    -- While a vertex within D is not settled, one is chosen: some journey leads from it into S or to a seed, whatever circles there are.
    pub goes_on : (u d : ℕ) → Dist G W u d → d ≤ D → ¬ In (settled u d) S → (x : Settled) × Chosen G (Dist G W) D S x
    goes_on u d X h out =
        ⊎_elim (λ y. (settled y.0 (known G far y.0), next-chosen y.0 y.1 y.2)) (λ b. absurd (out (bound-whole G W L D Di s b u d X h))) (found G W L D Di far)

    -- What the order chooses is the least known vertex outside S.
    pub record Nearest (x : Settled) : Type 0 where
      pub next : Next G far x.vertex
      pub is : x ≡ settled x.vertex (known G far x.vertex)

    pub chosen-next : {x : Settled} → Chosen G (Dist G W) D S x → Nearest x
    chosen-next {x} c = go (found G W L D Di far)
      where
        go : ((v : ℕ) × Next G far v × (known G far v ≤ D)) ⊎ Bound G far (suc D) → Nearest x
        go (inl y) =
            let e : settled y.0 (known G far y.0) ≡ x = one_choice (next-chosen y.0 y.1 y.2) c in
            subst Nearest e (record { next = y.1; is = refl })
        go (inr b) = absurd (bound-none b x c.may)

    pub chosen-state : {x : Settled} → Chosen G (Dist G W) D S x → State G W (S ++ x ∷ [])
    chosen-state {x} c = let y = chosen-next c in subst (λ (z : Settled). State G W (S ++ z ∷ [])) (sym y.is) (next-state G W L s x.vertex y.next)

  -- ---- many steps
  follows-state : (k : ℕ) {S : List Settled} (l : List Settled) → State G W S → Follows G (Dist G W) D S l → State G W (S ++ take k l)
  follows-state zero {S} l s f = rw (append-nil S) s
  follows-state (suc k) {S} [] s f = rw (append-nil S) s
  follows-state (suc k) {S} (x ∷ l) s f = rw (append_assoc S (x ∷ []) (take k l)) at (follows-state k l (chosen-state s f.0) f.1)

  -- What is chosen is no farther than what is to come.
  follows-ascends : (k : ℕ) {S : List Settled} (l : List Settled) → State G W S → Follows G (Dist G W) D S l → (x y : Settled) → In x (take k l) → In y (drop k l)
      → x.distance ≤ y.distance
  follows-ascends zero l s f x y i j = absurd i
  follows-ascends (suc k) [] s f x y i j = absurd i
  follows-ascends (suc k) {S} (z ∷ l) s f x y (inl e) j =
      let n = chosen-next s f.0 in
      let i : In y (z ∷ l) = inr (subst (In y) (take-append-drop k l) (in_right (take k l) (drop k l) y j)) in
      let out = apart_out s y.vertex (follows-apart G (Dist G W) D S (z ∷ l) f y i) in
      let behind = beyond G W L s.right _ (known-most G (distance_in S) z.vertex) (next_low G W L s.right z.vertex n.next) (follows-each G (Dist G W) D S (z ∷ l) f y i).0.0 out in
      omega (arith, ap (λ (w : Settled). w.distance) e, ap (λ (w : Settled). w.distance) n.is)
  follows-ascends (suc k) (z ∷ l) s f x y (inr i) j = follows-ascends k l (chosen-state s f.0) f.1 x y i j

  -- The order exists: as many steps as there are vertices make it.
  pub order-exists : Order G (Dist G W) D (run G D G.vertices [])
  order-exists = go (run_ran G W L D Di P step G.vertices G.vertices [] (empty G W) (λ l f. f) (omega arith))
    where
      -- whatever follows S makes an order with S
      P : List Settled → Type 0
      P S = (l : List Settled) → Follows G (Dist G W) D S l → Follows G (Dist G W) D [] (S ++ l)

      step : (S : List Settled) → State G W S → P S → (v : ℕ) → Next G (distance_in S) v → known G (distance_in S) v ≤ D → P (S ++ settled v (known G (distance_in S) v) ∷ [])
      step S s p v X h l f = rw (append_assoc S (settled v (known G (distance_in S) v) ∷ []) l) (p (settled v (known G (distance_in S) v) ∷ l) (next-chosen s v X h, f))

      go : {S : List Settled} → Ran G W L D Di P G.vertices S → Order G (Dist G W) D S
      go {S} r =
          let b = all_known G W L D Di S (record { state = r.state; keeps = tt; most = r.most; all = r.all }) in
          record { steps = rw (append-nil S) at (r.keeps [] (bound-none r.state b)) }

  module _ {l : List Settled} (O : Order G (Dist G W) D l) where
    pub order-state : (k : ℕ) → State G W (take k l)
    order-state k = follows-state k l (empty G W) O.steps

    rest : (k : ℕ) → Follows G (Dist G W) D (take k l) (drop k l)
    rest k = follows-drop G (Dist G W) D k [] l O.steps

    pub order-each : (x : Settled) → In x l → Dist G W x.vertex x.distance × (x.distance ≤ D)
    order-each = follows-each G (Dist G W) D [] l O.steps

    -- each of the order is what is chosen when those before it are settled
    pub step-chosen : (k : ℕ) → k < length l → Chosen G (Dist G W) D (take k l) (get_or l k (settled 0 0))
    step-chosen k h = let f : Follows G (Dist G W) D (take k l) (get_or l k (settled 0 0) ∷ drop (suc k) l) = rw (drop-cons l k (settled 0 0) h) at (rest k) in f.0

    -- Nothing outside S is known within D exactly if nothing of the order is left.
    pub order-end : (k : ℕ) → Bound G (distance_in (take k l)) (suc D) ↔ (length l ≤ k)
    order-end k = (
      λ b.
          ⊎_elim (λ (q : length l ≤ k). q) (λ (q : k < length l). absurd (bound-none (order-state k) b (get_or l k (settled 0 0)) (step-chosen k q).may)) (le-or-lt (length l) k),
      λ h. none-bound (order-state k) (rw (drop_of_length-le l h) at (rest k)),
    )

    pub order-whole : Whole G W D l
    order-whole = rw (take-length l) at (bound-whole G W L D Di (order-state (length l)) ((order-end (length l)).1 (omega arith)))

    -- The least known vertex outside S, if within D, is the next in the order, and what is known of it is its distance.
    pub order-next : (k : ℕ) → k ≤ length l → (v : ℕ) → Next G (distance_in (take k l)) v → known G (distance_in (take k l)) v ≤ D
        → (k < length l) × (take (suc k) l ≡ take k l ++ settled v (known G (distance_in (take k l)) v) ∷ [])
    order-next k kl v X h =
        let more : k < length l =
        ⊎_elim (λ (q : length l ≤ k). absurd (let z : ⊥ = omega (arith, (order-end k).1 q v X.low X.out) in z)) (λ (q : k < length l). q) (le-or-lt (length l) k) in
        let e : get_or l k (settled 0 0) ≡ settled v (known G (distance_in (take k l)) v) = one_choice (order-state k) (step-chosen k more) (next-chosen (order-state k) v X h) in
        (more, take-suc l k (settled 0 0) more ∙ ap (λ (x : Settled). take k l ++ x ∷ []) e)

    pub order-size : length l ≤ G.vertices
    order-size =
        let s : State G W l = rw (take-length l) at (order-state (length l)) in
        omega (arith, s.counted, count_most (within (distance_in l)) G.vertices)

    -- A vertex that is settled stays settled, with its distance.
    pub order-grows : (k k' : ℕ) → k ≤ k' → (v : ℕ) → distance_in (take k l) v < none → distance_in (take k' l) v ≡ distance_in (take k l) v
    order-grows k k' h v s =
        let e : k' ≡ k + (k' - k) = omega arith in
        ap (λ (n : ℕ). distance_in (take n l) v) e ∙ ap (λ (S : List Settled). distance_in S v) (take-add k (k' - k) l) ∙ distance_grows (take k l) (take (k' - k) (drop k l)) v s

    -- What is settled is no farther than what is to come.
    pub order-ascends : (k : ℕ) (x y : Settled) → In x (take k l) → In y (drop k l) → x.distance ≤ y.distance
    order-ascends k = follows-ascends k l (empty G W) O.steps
