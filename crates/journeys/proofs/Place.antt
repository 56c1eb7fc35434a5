-- The order (distance, number) as one number. Assumes nothing.
use mathlib.Core.Path.{◌≡◌, ap}
use mathlib.Core.Logic.{◌⊎◌, inl, inr, ⊎_elim}
use Prim.Native.Nat.{ℕ, suc, ◌+◌, ◌*◌, ◌≤◌, ◌<◌}
use native.Mathlib.Nat.{mul-le-mul_right}
use native.Mathlib.Omega.{arith}
use lib.Arith.{digits_mod}
use Rattle.journeys.specs.Order.{Settled, Earlier}
use Rattle.journeys.proofs.Tests.{le-or-lt, same-or-below}

-- the place of v at distance d among n vertices; the places within D are those below `top n D`
unfoldable pub key : ℕ → ℕ → ℕ → ℕ
key n d v = d * n + v

unfoldable pub top : ℕ → ℕ → ℕ
top n D = suc D * n

abbrev pub place : ℕ → Settled → ℕ
place n x = key n x.distance x.vertex

module _ (n : ℕ) where
  pub key-less : {v d d' : ℕ} (v' : ℕ) → v < n → d < d' → key n d v < key n d' v'
  unfolding key
  key-less v' h l = omega (arith, mul-le-mul_right n l)

  pub key-le : {v d d' : ℕ} (v' : ℕ) → v < n → key n d' v' ≤ key n d v → d' ≤ d
  key-le {v} {d} {d'} v' h l = ⊎_elim (λ (q : d' ≤ d). q) (λ (q : d < d'). absurd (let z : ⊥ = omega (arith, key-less {v = v} v' h q) in z)) (le-or-lt d' d)

  pub key-up : (v d d' : ℕ) → d ≤ d' → key n d v ≤ key n d' v
  unfolding key
  key-up v d d' h = omega (arith, mul-le-mul_right n h)

  pub key-same : {u v : ℕ} (d d' : ℕ) → u < n → v < n → key n d u ≡ key n d' v → u ≡ v
  unfolding key
  key-same {u} {v} d d' un vn h = cc (digits_mod d un, digits_mod d' vn)

  pub key-top : (v d D : ℕ) → v < n → d ≤ D → key n d v < top n D
  unfolding key top
  key-top v d D vn h = omega (arith, mul-le-mul_right n h)

  pub top_key : (v d D : ℕ) → key n d v < top n D → d ≤ D
  unfolding key top
  top_key v d D h = ⊎_elim (λ (q : d ≤ D). q) (λ (q : D < d). absurd (let z : ⊥ = omega (arith, mul-le-mul_right n q) in z)) (le-or-lt d D)

  -- the definition's order is that of the places
  pub earlier-place : (x y : Settled) → x.vertex < n → Earlier x y → place n x < place n y
  unfolding key
  earlier-place x y xn (inl l) = key-less y.vertex xn l
  earlier-place x y xn (inr e) = omega (arith, ap (λ (d : ℕ). d * n) e.0)

  same-distance : (x y : Settled) → place n x < place n y → x.distance ≡ y.distance → x.vertex < y.vertex
  unfolding key
  same-distance x y h e = omega (arith, ap (λ (d : ℕ). d * n) e)

  pub place-earlier : (x y : Settled) → y.vertex < n → place n x < place n y → Earlier x y
  place-earlier x y yn h = go (same-or-below (key-le {v = y.vertex} x.vertex yn (let q : place n x ≤ place n y = omega arith in q)))
    where
      go : (x.distance ≡ y.distance) ⊎ (x.distance < y.distance) → Earlier x y
      go (inl e) = inr (e, same-distance x y h e)
      go (inr l) = inl l
