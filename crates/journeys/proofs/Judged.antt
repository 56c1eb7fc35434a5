-- A list from elsewhere is right if each entry is backed by a seed or an earlier entry and no seed or record offers better: what passes is the settled set.
-- Assumes nothing.
use mathlib.Core.Path.{◌≡◌, refl, sym, subst}
use mathlib.Core.Logic.{◌⊎◌, inl, inr, ⊎_elim, ◌↔◌}
use mathlib.Core.List.{List, [], ◌∷◌, ◌++◌}
use Prim.Native.Nat.{ℕ, ◌≤◌, ◌<◌}
use native.Mathlib.Omega.{arith}
use Rattle.journeys.specs.Counting.{none, In}
use Rattle.journeys.specs.Order.{Settled, settled, Offers}
use Rattle.journeys.specs.Network.{Network, distance_in, known}
use Rattle.journeys.proofs.Tests.{le-or-lt}
use Rattle.journeys.proofs.Counting.{in-snoc}
use Rattle.journeys.proofs.Ways.{Ways, Arrives, ends, leads, Dist, Laws}
use Rattle.journeys.proofs.Known.{judge}
use Rattle.journeys.proofs.Firsts.{distance-in}

-- each entry's distance is offered by a seed or into an entry before it; R are the entries before the list
abbrev pub Backed : Network → List Settled → List Settled → Type 0
Backed G R [] = Unit {0}
Backed G R (x ∷ S) = Offers G R x.vertex x.distance × Backed G (R ++ x ∷ []) S

module _ (G : Network) (W : Ways) (L : Laws G W) where
  -- an entry whose vertex exists and whose distance is a figure
  abbrev pub Sound : Settled → Type 0
  Sound x = (x.vertex < G.vertices) × (x.distance < none)

  abbrev Arriving : Settled → Type 0
  Arriving x = Arrives G W x.vertex x.distance

  offers-arrive : (R : List Settled) → ((x : Settled) → In x R → Arriving x) → (x : Settled) → Sound x → Offers G R x.vertex x.distance → Arriving x
  offers-arrive R h x s (inl e) = ends ((L.seed-is x.vertex x.distance s.0 s.1).1 (omega arith))
  offers-arrive R h x s (inr (r, d, l, f, i, e)) = leads r d l f ((L.offer-is r d x.distance l s.1).1 (omega arith)) (h (settled (G.to r) d) i)

  -- A backed list promises only journeys.
  pub backed-arrive : (R S : List Settled) → ((x : Settled) → In x R → Arriving x) → ((x : Settled) → In x S → Sound x) → Backed G R S → (x : Settled) → In x S → Arriving x
  backed-arrive R [] h s b x i = absurd i
  backed-arrive R (y ∷ S) h s b x i =
      let one : Arriving y = offers-arrive R h y (s y (inl refl)) b.0 in
      let more : (z : Settled) → In z (R ++ y ∷ []) → Arriving z = λ z j. ⊎_elim (λ k. h z k) (λ (e : z ≡ y). subst (λ (w : Settled). Arriving w) (sym e) one) (in-snoc R y z j) in
      ⊎_elim (λ (e : x ≡ y). subst (λ (w : Settled). Arriving w) (sym e) one) (λ j. backed-arrive (R ++ y ∷ []) S more (λ z k. s z (inr k)) b.1 x j) i

  -- What passes is the settled set with its distances.
  pub judged : (D : ℕ) → D < none → (S : List Settled) → Backed G [] S → ((x : Settled) → In x S → distance_in S x.vertex ≡ x.distance)
      → ((x : Settled) → In x S → (x.vertex < G.vertices) × (x.distance ≤ D))
      → ((v : ℕ) → v < G.vertices → (distance_in S v ≤ known G (distance_in S) v) ⊎ (D < known G (distance_in S) v)) → (v d : ℕ) → In (settled v d) S ↔ (Dist G W v d × (d ≤ D))
  judged D Di S b member low ok v d = (there, back)
    where
      arrive : (x : Settled) → In x S → Arriving x
      arrive = backed-arrive [] S (λ x i. absurd i) (λ x i. ((low x i).0, omega (arith, (low x i).1))) b

      full : {u x : ℕ} → Arrives G W u x → x ≤ D → distance_in S u ≤ x
      full j h = judge G W L (distance_in S) D Di ok j h

      there : In (settled v d) S → Dist G W v d × (d ≤ D)
      there i = (
        (
          arrive (settled v d) i,
          λ x j. ⊎_elim (λ (q : d ≤ x). q) (λ (q : x < d). omega (arith, full j (let l : x ≤ D = omega (arith, (low (settled v d) i).1) in l), member (settled v d) i)) (le-or-lt d x),
        ),
        (low (settled v d) i).1,
      )

      back : Dist G W v d × (d ≤ D) → In (settled v d) S
      back p =
          let le : distance_in S v ≤ d = full p.0.0 p.1 in
          let i : In (settled v (distance_in S v)) S = distance-in S v (omega arith) in
          let e : distance_in S v ≡ d = omega (arith, p.0.1 (distance_in S v) (arrive (settled v (distance_in S v)) i)) in
          rw e at i
