-- What a search keeps in its map: for each vertex outside S what is known of it, if that is within D, and no matter what above D elsewhere. Over any network. Assumes nothing.
use mathlib.Core.Path.{◌≡◌, sym, ap, ◌∙◌}
use mathlib.Core.Logic.{◌⊎◌, inl, inr, ⊎_elim}
use mathlib.Core.Bool.{Bool, cond}
use Prim.Native.Nat.{ℕ, suc, ◌*◌, ◌≤◌, ◌<◌, min}
use native.Mathlib.Omega.{arith}
use lib.Dec.{leb}
use Rattle.journeys.specs.Counting.{none}
use Rattle.journeys.specs.Network.{Network, known}
use Rattle.journeys.proofs.Tests.{TestLe, fits, over, test_le, le-or-lt}
use Rattle.journeys.proofs.Place.{key, key-less}
use Rattle.journeys.proofs.Known.{Bound, Next}

key-order : (n d e v u : ℕ) → d ≡ e → v ≤ u → key n d v ≤ key n e u
unfolding key
key-order n d e v u q h = omega (arith, ap (λ (x : ℕ). x * n) q)

pub record Keeps (G : Network) (far : ℕ → ℕ) (D : ℕ) (f : ℕ → ℕ) : Type 0 where
  pub low : (u : ℕ) → f u ≤ D → u < G.vertices
  pub out : (u : ℕ) → f u ≤ D → none ≤ far u
  pub near : (u : ℕ) → u < G.vertices → none ≤ far u → known G far u ≤ D → f u ≡ known G far u
  pub above : (u : ℕ) → u < G.vertices → none ≤ far u → D < known G far u → D < f u

module _ (G : Network) (far : ℕ → ℕ) (D : ℕ) (small : D < none) (f : ℕ → ℕ) (K : Keeps G far D f) where
  -- What is kept within D is known.
  kept-known : (u : ℕ) → f u ≤ D → known G far u ≡ f u
  kept-known u h =
      ⊎_elim (λ (q : known G far u ≤ D). sym (K.near u (K.low u h) (K.out u h) q)) (λ (q : D < known G far u). absurd (let z : ⊥ = omega (arith, K.above u (K.low u h) (K.out u h) q) in z))
      (le-or-lt (known G far u) D)

  -- The foremost that is kept within D is the next vertex.
  pub kept_next : (v : ℕ) → f v ≤ D → ((u : ℕ) → f u ≤ D → (f v < f u) ⊎ ((f v ≡ f u) × (v ≤ u))) → Next G far v × (known G far v ≡ f v)
  kept_next v h first =
      let e = kept-known v h in (
        record {
          low = K.low v h;
          out = K.out v h;
          some = omega arith;
          least = λ u un uo.
              ⊎_elim (λ (q : known G far u ≤ D). let k = K.near u un uo q in order u k (first u (omega arith)) e)
              (λ (q : D < known G far u).
              let l : known G far v < known G far u = omega arith in
              omega (arith, key-less G.vertices {v = v} u (K.low v h) l)) (le-or-lt (known G far u) D);
        },
        e,
      )
    where
      order : (u : ℕ) → f u ≡ known G far u → (f v < f u) ⊎ ((f v ≡ f u) × (v ≤ u)) → known G far v ≡ f v → key G.vertices (known G far v) v ≤ key G.vertices (known G far u) u
      order u k (inl l) e =
          let l' : known G far v < known G far u = omega arith in
          omega (arith, key-less G.vertices {v = v} u (K.low v h) l')
      order u k (inr x) e = key-order G.vertices (known G far v) (known G far u) v u (e ∙ x.0 ∙ k) x.1

  -- Where nothing is kept within D, nothing outside S is known within D.
  pub kept-bound : ((u : ℕ) → D < f u) → Bound G far (suc D)
  kept-bound h u un uo =
      ⊎_elim (λ (q : known G far u ≤ D). absurd (let z : ⊥ = omega (arith, h u, K.near u un uo q) in z)) (λ (q : D < known G far u). q) (le-or-lt (known G far u) D)

-- an offer within D is taken if it is the lesser
abbrev pub improved : ℕ → ℕ → ℕ → ℕ
improved D o x = cond (leb o D) (min x o) x

-- Offers come, by a vertex that is settled or by a hop that is marked: what is kept improves by those within D, outside S.
pub kept-improved : (G G' : Network) (far far' : ℕ → ℕ) (D : ℕ) (f f' o : ℕ → ℕ) → Keeps G far D f → G'.vertices ≡ G.vertices
    → ((u : ℕ) → known G' far' u ≡ min (known G far u) (o u))
    → ((u : ℕ) → none ≤ far' u → none ≤ far u)
    → ((u : ℕ) → f' u ≤ D → (u < G.vertices) × (none ≤ far' u))
    → ((u : ℕ) → u < G.vertices → none ≤ far' u → f' u ≡ improved D (o u) (f u))
    → Keeps G' far' D f'
kept-improved G G' far far' D f f' o K e Known-is still inside is =
    record {
      low = λ u h. omega (arith, (inside u h).0);
      out = λ u h. (inside u h).1;
      near = λ u un uo h. let l : u < G.vertices = omega arith in is u l uo ∙ near u l (still u uo) (test_le (o u) D) h;
      above = λ u un uo h. let l : u < G.vertices = omega arith in let a = above u l (still u uo) (test_le (o u) D) h in omega (arith, is u l uo);
    }
  where
    kept : (u : ℕ) → u < G.vertices → none ≤ far u → ((known G far u ≤ D) × (f u ≡ known G far u)) ⊎ ((D < known G far u) × (D < f u))
    kept u l h = ⊎_elim (λ (q : known G far u ≤ D). inl (q, K.near u l h q)) (λ (q : D < known G far u). inr (q, K.above u l h q)) (le-or-lt (known G far u) D)

    near : (u : ℕ) → u < G.vertices → none ≤ far u → {t : Bool} → TestLe (o u) D t → known G' far' u ≤ D → cond t (min (f u) (o u)) (f u) ≡ known G' far' u
    near u l h (fits q) a = ⊎_elim (λ x. omega (arith, x.1, Known-is u)) (λ x. omega (arith, x.0, x.1, Known-is u)) (kept u l h)
    near u l h (over q) a = ⊎_elim (λ x. omega (arith, x.0, x.1, Known-is u)) (λ x. omega (arith, x.0, x.1, Known-is u)) (kept u l h)

    above : (u : ℕ) → u < G.vertices → none ≤ far u → {t : Bool} → TestLe (o u) D t → D < known G' far' u → D < cond t (min (f u) (o u)) (f u)
    above u l h (fits q) a = ⊎_elim (λ x. omega (arith, x.0, x.1, Known-is u)) (λ x. omega (arith, x.0, x.1, Known-is u)) (kept u l h)
    above u l h (over q) a = ⊎_elim (λ x. omega (arith, x.0, x.1, Known-is u)) (λ x. omega (arith, x.0, x.1, Known-is u)) (kept u l h)
