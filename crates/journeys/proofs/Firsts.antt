-- The order of settling as a list: the distances that a beginning of it gives, that it is one, and that it grows with the time. What stands here holds for
-- any network and any distances. Assumes nothing.
use mathlib.Core.Path.{◌≡◌, refl, sym, ap, subst, ◌∙◌}
use mathlib.Core.Logic.{inl, inr, ◌≢◌}
use mathlib.Core.Bool.{Bool, cond}
use mathlib.Core.List.{List, [], ◌∷◌, ◌++◌, append-nil, append_assoc}
use Prim.Native.Nat.{ℕ, zero, suc, ◌≤◌, ◌<◌}
use native.Mathlib.Omega.{arith}
use lib.Dec.{eqb}
use lib.ListN.{length, take, drop, length-append}
use Rattle.journeys.specs.Counting.{none, In}
use Rattle.journeys.specs.Order.{Settled, settled, Earlier, Eligible, Chosen, Follows, Order}
use Rattle.journeys.specs.Network.{Network, distance_in}
use Rattle.journeys.proofs.Tests.{Test, same, other, test}
use Rattle.journeys.proofs.Counting.{in_left}
use Rattle.journeys.proofs.Ascending.{prefix-all}

-- ---- the distance that a list gives
pub distance-in : (S : List Settled) (v : ℕ) → distance_in S v < none → In (settled v (distance_in S v)) S
unfolding distance_in
distance-in [] v h = absurd (omega arith)
distance-in (x ∷ S) v h = go (distance-in S v) (test v x.vertex) h
  where
    go : (distance_in S v < none → In (settled v (distance_in S v)) S) → {t : Bool} → Test v x.vertex t → cond t x.distance (distance_in S v) < none
        → In (settled v (cond t x.distance (distance_in S v))) (x ∷ S)
    go ih (same e) h = inl (λ i. record { vertex = e i; distance = x.distance })
    go ih (other q) h = inr (ih h)

pub distance-snoc : (S : List Settled) (v b u : ℕ) → ((y : Settled) → In y S → y.vertex ≢ v) → distance_in (S ++ settled v b ∷ []) u ≡ cond (eqb u v) b (distance_in S u)
unfolding distance_in
distance-snoc [] v b u h = refl
distance-snoc (x ∷ S) v b u h = rw (distance-snoc S v b u (λ y i. h y (inr i))) (go (test u v) (test u x.vertex))
  where
    go : {s t : Bool} → Test u v s → Test u x.vertex t → cond t x.distance (cond s b (distance_in S u)) ≡ cond s b (cond t x.distance (distance_in S u))
    go (same e) (same e') = absurd (h x (inl refl) (sym e' ∙ e))
    go (same e) (other q) = refl
    go (other q) (same e) = refl
    go (other q) (other q') = refl

pub distance_grows : (S zs : List Settled) (v : ℕ) → distance_in S v < none → distance_in (S ++ zs) v ≡ distance_in S v
unfolding distance_in
distance_grows [] zs v h = absurd (omega arith)
distance_grows (x ∷ S) zs v h = go (λ q. distance_grows S zs v q) (test v x.vertex) h
  where
    go : (distance_in S v < none → distance_in (S ++ zs) v ≡ distance_in S v) → {t : Bool} → Test v x.vertex t → cond t x.distance (distance_in S v) < none
        → cond t x.distance (distance_in (S ++ zs) v) ≡ cond t x.distance (distance_in S v)
    go ih (same e) h = refl
    go ih (other q) h = ih h

-- Of two entries that are not earlier than each other, both are one.
same_place : (x y : Settled) → ¬ Earlier x y → ¬ Earlier y x → x ≡ y
same_place x y p q =
    let a : ¬ (x.distance < y.distance) = λ l. p (inl l) in
    let b : ¬ (y.distance < x.distance) = λ l. q (inl l) in
    let e : x.distance ≡ y.distance = omega arith in
    let c : ¬ (x.vertex < y.vertex) = λ l. p (inr (e, l)) in
    let d : ¬ (y.vertex < x.vertex) = λ l. q (inr (sym e, l)) in
    let f : x.vertex ≡ y.vertex = omega arith in
    λ t. record { vertex = f t; distance = e t }

module _ (G : Network) (distance : ℕ → ℕ → Type 0) where
  -- within D one may follow that may within D', if it is no farther than another that may within D
  near : {D D' : ℕ} {S : List Settled} {x y : Settled} → Eligible G distance D S x → Eligible G distance D' S y → y.distance ≤ x.distance → Eligible G distance D S y
  near c c' h = record { unsettled = c'.unsettled; is = c'.is; low = omega (arith, c.low); offered = c'.offered }

  longer : {D D' : ℕ} {S : List Settled} {x : Settled} → D ≤ D' → Eligible G distance D S x → Eligible G distance D' S x
  longer h c = record { unsettled = c.unsettled; is = c.is; low = omega (arith, c.low); offered = c.offered }

  -- More time does not change the choice.
  pub chosen-one : {D D' : ℕ} {S : List Settled} {x y : Settled} → D ≤ D' → Chosen G distance D S x → Chosen G distance D' S y → x ≡ y
  chosen-one {D} {D'} {S} {x} {y} h c c' = same_place x y (c'.first x (longer h c.may)) (λ e. c.first y (near c.may c'.may (no-farther e)) e)
    where
      no-farther : Earlier y x → y.distance ≤ x.distance
      no-farther (inl l) = omega arith
      no-farther (inr e) = omega arith

  follows-longer : {D D' : ℕ} → D ≤ D' → (S l l' : List Settled) → Follows G distance D S l → Follows G distance D' S l' → (zs : List Settled) × (l' ≡ l ++ zs)
  follows-longer h S [] l' f f' = (l', refl)
  follows-longer h S (x ∷ l) [] f f' = absurd (f' x (longer h f.0.may))
  follows-longer {D} {D'} h S (x ∷ l) (y ∷ l') f f' =
      let e = chosen-one h f.0 f'.0 in
      let t = follows-longer h (S ++ x ∷ []) l l' f.1 (subst (λ (z : Settled). Follows G distance D' (S ++ z ∷ []) l') (sym e) f'.1) in
      (t.0, cc (t.1, e))

  -- More time, same beginning: the order for a shorter duration begins the order for a longer one.
  pub more-time : {D D' : ℕ} {l l' : List Settled} → D ≤ D' → Order G distance D l → Order G distance D' l' → (zs : List Settled) × (l' ≡ l ++ zs)
  more-time {D} {D'} {l} {l'} h O O' = follows-longer h [] l l' O.steps O'.steps

  -- There is one order at most.
  pub order-one : {D : ℕ} {l l' : List Settled} → Order G distance D l → Order G distance D l' → l ≡ l'
  order-one {D} {l} {l'} O O' =
      let a = more-time (let q : D ≤ D = omega arith in q) O O' in
      let b = more-time (let q : D ≤ D = omega arith in q) O' O in
      prefix-all l l' a (omega (arith, simp length-append at (ap length b.1)))

  module _ (D : ℕ) where
    -- After k steps the rest of the order follows.
    pub follows-drop : (k : ℕ) (S l : List Settled) → Follows G distance D S l → Follows G distance D (S ++ take k l) (drop k l)
    follows-drop zero S l f = rw (append-nil S) f
    follows-drop (suc k) S [] f = rw (append-nil S) f
    follows-drop (suc k) S (x ∷ l) f = rw (append_assoc S (x ∷ []) (take k l)) at (follows-drop k (S ++ x ∷ []) l f.1)

    -- What follows is not settled before, and has its distance.
    pub follows-apart : (S l : List Settled) → Follows G distance D S l → (x : Settled) → In x l → (d : ℕ) → ¬ In (settled x.vertex d) S
    follows-apart S [] f x i d j = i
    follows-apart S (y ∷ l) f x (inl e) d j = f.0.may.unsettled d (rw e at j)
    follows-apart S (y ∷ l) f x (inr i) d j = follows-apart (S ++ y ∷ []) l f.1 x i d (in_left S (y ∷ []) (settled x.vertex d) j)

    pub follows-each : (S l : List Settled) → Follows G distance D S l → (x : Settled) → In x l → distance x.vertex x.distance × (x.distance ≤ D)
    follows-each S [] f x i = absurd i
    follows-each S (y ∷ l) f x (inl e) = rw e (f.0.may.is, omega (arith, f.0.may.low))
    follows-each S (y ∷ l) f x (inr i) = follows-each (S ++ y ∷ []) l f.1 x i

-- Two names of the same distances make the same order.
module _ (G : Network) {distance distance' : ℕ → ℕ → Type 0} (to : (v d : ℕ) → distance v d → distance' v d) (back : (v d : ℕ) → distance' v d → distance v d) where
  there : {D : ℕ} {S : List Settled} {x : Settled} → Eligible G distance D S x → Eligible G distance' D S x
  there {D} {S} {x} c = record { unsettled = c.unsettled; is = to x.vertex x.distance c.is; low = c.low; offered = c.offered }

  here : {D : ℕ} {S : List Settled} {x : Settled} → Eligible G distance' D S x → Eligible G distance D S x
  here {D} {S} {x} c = record { unsettled = c.unsettled; is = back x.vertex x.distance c.is; low = c.low; offered = c.offered }

  follows_same : (D : ℕ) (S l : List Settled) → Follows G distance D S l → Follows G distance' D S l
  follows_same D S [] f = λ x c. f x (here c)
  follows_same D S (x ∷ l) f = (record { may = there f.0.may; first = λ y c. f.0.first y (here c) }, follows_same D (S ++ x ∷ []) l f.1)

  pub order_same : {D : ℕ} {l : List Settled} → Order G distance D l → Order G distance' D l
  order_same {D} {l} O = record { steps = follows_same D [] l O.steps }
