-- A network whose distances are told by journeys of their own: what a search cites of its order of settling and of what is held after k steps.
-- The ordinary run and the courier's are two instances; nothing above looks at the theory behind. Assumes nothing.
use mathlib.Core.Path.{◌≡◌, refl, ap, subst}
use mathlib.Core.Logic.{⊎_elim, ◌↔◌, inl}
use mathlib.Core.Bool.{Bool, true, false, not, cond}
use mathlib.Core.List.{List, [], ◌∷◌, ◌++◌}
use Prim.Native.Nat.{ℕ, suc, ◌≤◌, ◌<◌}
use native.Mathlib.Omega.{arith}
use lib.ListN.{length, take, drop, take-append-drop}
use lib.Seq.{take_all}
use borrow.Author.Tests.{not-true}
use Rattle.journeys.specs.Counting.{none, In}
use Rattle.journeys.specs.Order.{Settled, settled, Order}
use Rattle.journeys.specs.Network.{Network, Held, distance_in, known, met, held, row, entry, held_list, Dropped, Forgotten}
use Rattle.journeys.proofs.Tests.{never, and_both, and-true, le-or-lt}
use Rattle.journeys.proofs.Counting.{in_left, in-joined, joined_in}
use Rattle.journeys.proofs.Ways.{Ways, Dist, Laws, arrives-low}
use Rattle.journeys.proofs.Known.{Next, Bound}
use Rattle.journeys.proofs.Firsts.{distance-in, order-one, order_same, follows-each}
use Rattle.journeys.proofs.Greedy.{State, run}
use Rattle.journeys.proofs.Settling as settling
use Rattle.journeys.proofs.Held.{dropped-stays, dropped-absent, dropped-spent, forgotten-spent, spent-is, forgotten-absent, forgotten-stays, hopeless-stays}

-- `distance` is the distance of the theory for these ways
pub record Told (G : Network) (W : Ways) (distance : ℕ → ℕ → Type 0) : Type 0 where
  pub laws : Laws G W
  pub is-dist : (v d : ℕ) → distance v d → Dist G W v d
  pub dist-is : (v d : ℕ) → Dist G W v d → distance v d
  pub few : G.allowed < none

-- ---- what holds of any network and any S
module _ (G : Network) (far : ℕ → ℕ) where
  -- The working table lists a vertex exactly if it is held.
  pub held-exactly : (v : ℕ) → v < G.vertices → In (row G far v) (held_list G far) ↔ (held G far v ≡ true)
  unfolding held_list entry row
  held-exactly v vn = (λ i. there (joined_in (entry G far) G.vertices (row G far v) i), λ e. in-joined (entry G far) G.vertices v (row G far v) vn (back (held G far v) e))
    where
      here : (u : ℕ) (t : Bool) → held G far u ≡ t → In (row G far v) (cond t (row G far u ∷ []) []) → held G far v ≡ true
      here u true e (inl p) = let q : v ≡ u = ap (λ (x : Held). x.vertex) p in rw q e
      here u false e i = absurd i
      here u true e (mathlib.Core.Logic.inr x'') = elim x'' [ ]

      there : (u : ℕ) × (u < G.vertices) × In (row G far v) (cond (held G far u) (row G far u ∷ []) []) → held G far v ≡ true
      there x = here x.0 (held G far x.0) refl x.2

      back : (t : Bool) → t ≡ true → In (row G far v) (cond t (row G far v ∷ []) [])
      back true e = inl refl
      back false e = never e refl

  -- It is held exactly if it has been met, is not dropped and is not forgotten.
  pub held-means : (v : ℕ) → (held G far v ≡ true) ↔ ((met G far v ≡ true) × ¬ Dropped G far v × ¬ Forgotten G far v)
  unfolding held
  held-means v = (
    λ e.
        let p = and_both (met G far v) _ e in
        let kept = not-true _ p.1 in
        (p.0, λ g. never (dropped-spent G far v g) kept, λ g. never (forgotten-spent G far v g) kept),
    λ p. and-true p.0 (not_is _ (λ t. ⊎_elim (λ g. p.1 g) (λ g. p.2 g) (spent-is G far v t))),
  )
    where
      not_is : (b : Bool) → (b ≡ true → ⊥) → not b ≡ true
      not_is true h = absurd (h refl)
      not_is false h = refl

module _ (G : Network) (W : Ways) (distance : ℕ → ℕ → Type 0) (told : Told G W distance) where
  pub told-order : {D : ℕ} {l : List Settled} → Order G distance D l → Order G (Dist G W) D l
  told-order = order_same G told.is-dist told.dist-is

  pub order-told : {D : ℕ} {l : List Settled} → Order G (Dist G W) D l → Order G distance D l
  order-told = order_same G told.dist-is told.is-dist

  -- There is an order of settling.
  unfoldable pub order_of : List Settled
  order_of = run G G.allowed G.vertices []

  pub order_is : Order G distance G.allowed order_of
  unfolding order_of
  order_is = order-told (settling.order-exists G W told.laws G.allowed told.few)

  -- It is the only one.
  pub order-unique : {l l' : List Settled} → Order G distance G.allowed l → Order G distance G.allowed l' → l ≡ l'
  order-unique O O' = order-one G distance O O'

  module _ {l : List Settled} (O : Order G distance G.allowed l) where
    -- It lists the vertices with a distance at most D, each with its distance, and no other.
    pub order-each : (v d : ℕ) → In (settled v d) l → distance v d × (d ≤ G.allowed)
    order-each v d = follows-each G distance G.allowed [] l O.steps (settled v d)

    pub order-all : (v d : ℕ) → distance v d → d ≤ G.allowed → In (settled v d) l
    order-all v d x = settling.order-whole G W told.laws G.allowed told.few (told-order O) v d (told.is-dist v d x)

    -- While a vertex within D is not settled, the order goes on: rides that lead to each other at one moment do not end it.
    pub order-goes-on : (k v d : ℕ) → distance v d → d ≤ G.allowed → ¬ In (settled v d) (take k l) → k < length l
    order-goes-on k v d x h out =
        ⊎_elim (λ (q : length l ≤ k). absurd (out (rw (take_all k l q) (order-all v d x h)))) (λ (q : k < length l). q) (le-or-lt (length l) k)

    -- What is settled is no farther than what is to come.
    pub order-ascends : (k : ℕ) (x y : Settled) → In x (take k l) → In y (drop k l) → x.distance ≤ y.distance
    order-ascends = settling.order-ascends G W told.laws G.allowed told.few (told-order O)

    -- What is settled after k steps has its distance and is the start of the order.
    pub order-state : (k : ℕ) → State G W (take k l)
    order-state = settling.order-state G W told.laws G.allowed told.few (told-order O)

    -- The least known of the vertices outside S, if within D, is the next in the order, with its distance.
    pub next-settled : (k : ℕ) → k ≤ length l → (v : ℕ) → Next G (distance_in (take k l)) v → known G (distance_in (take k l)) v ≤ G.allowed
        → (k < length l) × (take (suc k) l ≡ take k l ++ settled v (known G (distance_in (take k l)) v) ∷ [])
    next-settled = settling.order-next G W told.laws G.allowed told.few (told-order O)

    -- If no vertex outside S is known within D, S is everything within D, and the other way round.
    pub all_settled : (k : ℕ) → Bound G (distance_in (take k l)) (suc G.allowed) ↔ (length l ≤ k)
    all_settled = settling.order-end G W told.laws G.allowed told.few (told-order O)

    -- No vertex is settled twice, so there are no more steps than vertices.
    pub order-size : length l ≤ G.vertices
    order-size = settling.order-size G W told.laws G.allowed told.few (told-order O)

    -- A vertex that is settled stays settled, with its distance.
    pub order-grows : (k k' : ℕ) → k ≤ k' → (v : ℕ) → distance_in (take k l) v < none → distance_in (take k' l) v ≡ distance_in (take k l) v
    order-grows = settling.order-grows G W told.laws G.allowed told.few (told-order O)

    -- What is known of a settled vertex is its distance.
    pub known-settled : (k v : ℕ) → v < G.vertices → distance_in (take k l) v < none → known G (distance_in (take k l)) v ≡ distance_in (take k l) v
    known-settled k v vn h = settling.settled-known G W told.laws (order-state k) v vn h

    -- A dropped vertex is absent at every larger limit.
    pub dropped-stays-absent : (k k' : ℕ) → k ≤ k' → (v : ℕ) → Dropped G (distance_in (take k l)) v → entry G (distance_in (take k' l)) v ≡ []
    dropped-stays-absent k k' h v g =
        dropped-absent G (distance_in (take k' l)) v
        (dropped-stays G (distance_in (take k l)) (distance_in (take k' l)) (λ u s. omega (arith, order-grows k k' h u s)) v g)

    -- A forgotten vertex is settled at no larger limit: no record is left that could offer it D or less.
    pub forgotten-unsettled : (k k' : ℕ) → k ≤ k' → (v : ℕ) → Forgotten G (distance_in (take k l)) v → none ≤ distance_in (take k' l) v
    forgotten-unsettled k k' h v g =
        ⊎_elim (λ (q : none ≤ far' v). q) (λ (q : far' v < none). absurd (apart q)) (le-or-lt none (far' v))
      where
        far' : ℕ → ℕ
        far' = distance_in (take k' l)

        apart : far' v < none → ⊥
        apart q =
            let above = hopeless-stays G (distance_in (take k l)) far' (λ u s. order-grows k k' h u s) told.few v g.1 g.2 in
            let listed : In (settled v (far' v)) l =
            subst (In (settled v (far' v))) (take-append-drop k' l) (in_left (take k' l) (drop k' l) (settled v (far' v)) (distance-in (take k' l) v q)) in
            let e = order-each v (far' v) listed in
            let low = arrives-low G W told.laws (told.is-dist v (far' v) e.0).0 in
            omega (arith, above, e.1, known-settled k' v low q)

    -- It is absent at every larger limit.
    pub forgotten-stays-absent : (k k' : ℕ) → k ≤ k' → (v : ℕ) → Forgotten G (distance_in (take k l)) v → entry G (distance_in (take k' l)) v ≡ []
    forgotten-stays-absent k k' h v g =
        forgotten-absent G (distance_in (take k' l)) v
        (forgotten-stays G (distance_in (take k l)) (distance_in (take k' l)) (λ u s. order-grows k k' h u s) told.few v (forgotten-unsettled k k' h v g) g)
