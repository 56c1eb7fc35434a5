-- What a list that is not refused has, and what the first bad entry of one that is refused lacks, in plain words. Assumes nothing.
use mathlib.Core.Path.{◌≡◌, refl, sym, ap, ◌∙◌}
use mathlib.Core.Logic.{◌≢◌, ⊎_elim, ◌↔◌}
use mathlib.Core.Bool.{Bool, true, false, not, ◌&&◌, ◌||◌}
use mathlib.Core.List.{List}
use Prim.Native.Nat.{ℕ, zero, suc, ◌<◌}
use native.Mathlib.Omega.{arith}
use lib.Dec.{eqb, ltb}
use borrow.Author.Tests.{eq-eqb, eqb-true, ltb-true, lt-ltb}
use Rattle.journeys.specs.Counting.{none}
use Rattle.journeys.proofs.Tests.{split, never, and_both, and-true, or_left, or_right, or_cases, last-or-below}
use Rattle.journeys.proofs.Refusals.{bad-fine}
use Rattle.journeys.specs.Lists.{allows, entries, vertex_in, distance_at, named, entry_ok, list_refusal}

-- an entry is named exactly if an earlier entry has that vertex
pub named-is : (size : ℕ) (list : List ℕ) (n u : ℕ) → (named size list n u ≡ true) ↔ ((j : ℕ) × (j < n) × (vertex_in size list j ≡ u))
unfolding named
named-is size list zero u = (λ e. never e refl, λ p. absurd (let z : ⊥ = omega (arith, p.1) in z))
named-is size list (suc n) u = let ih = named-is size list n u in (to (λ q. ih.0 q), from (λ q. ih.1 q))
  where
    to : (named size list n u ≡ true → (j : ℕ) × (j < n) × (vertex_in size list j ≡ u)) → (named size list n u || eqb (vertex_in size list n) u) ≡ true
        → (j : ℕ) × (j < suc n) × (vertex_in size list j ≡ u)
    to ih e =
        ⊎_elim (λ (q : named size list n u ≡ true). let p = ih q in (p.0, omega (arith, p.1), p.2))
        (λ (q : eqb (vertex_in size list n) u ≡ true). (n, omega arith, eqb-true (vertex_in size list n) u q))
        (or_cases (named size list n u) (eqb (vertex_in size list n) u) e)

    from : ((j : ℕ) × (j < n) × (vertex_in size list j ≡ u) → named size list n u ≡ true) → (j : ℕ) × (j < suc n) × (vertex_in size list j ≡ u)
        → (named size list n u || eqb (vertex_in size list n) u) ≡ true
    from ih (j, h, e) =
        ⊎_elim (λ (q : j ≡ n). or_right (named size list n u) (eq-eqb (vertex_in size list n) u (ap (vertex_in size list) (sym q) ∙ e)))
        (λ (l : j < n). or_left (eqb (vertex_in size list n) u) (ih (j, l, e)))
        (last-or-below h)

-- FFFFFFFF allows every distance: they are not looked at.
pub not-looked-at : (distance : ℕ) → allows none distance ≡ true
unfolding allows
not-looked-at distance = refl

module _ (size vertices most : ℕ) (list : List ℕ) where
  -- An entry is good exactly if its vertex exists, its distance is allowed, and no earlier entry has its vertex.
  pub entry-means : (i : ℕ)
      → (entry_ok size vertices most list i ≡ true)
      ↔ ((vertex_in size list i < vertices) × (allows most (distance_at size list i) ≡ true) × ((j : ℕ) → j < i → vertex_in size list j ≢ vertex_in size list i))
  unfolding entry_ok
  entry-means i = (to, from)
    where
      t : Bool
      t = ltb (vertex_in size list i) vertices

      n : Bool
      n = allows most (distance_at size list i)

      m : Bool
      m = named size list i (vertex_in size list i)

      no_more : not m ≡ true → m ≡ true → ⊥
      no_more e q = never e (ap not q)

      unnamed : (m ≡ true → ⊥) → not m ≡ true
      unnamed f = ⊎_elim (λ (q : m ≡ true). absurd (f q)) (λ (q : m ≡ false). ap not q) (split m)

      to : (t && n && not m) ≡ true → (vertex_in size list i < vertices) × (n ≡ true) × ((j : ℕ) → j < i → vertex_in size list j ≢ vertex_in size list i)
      to e =
          let p = and_both (t && n) (not m) e in
          let q = and_both t n p.0 in
          (ltb-true (vertex_in size list i) vertices q.0, q.1, λ j h d. no_more p.1 ((named-is size list i (vertex_in size list i)).1 (j, h, d)))

      from : (vertex_in size list i < vertices) × (n ≡ true) × ((j : ℕ) → j < i → vertex_in size list j ≢ vertex_in size list i) → (t && n && not m) ≡ true
      from (l, d, f) =
          and-true (and-true (lt-ltb (vertex_in size list i) vertices l) d) (unnamed (λ q. let p = (named-is size list i (vertex_in size list i)).0 q in f p.0 p.1 p.2))

  -- A list that is not refused has good entries alone.
  pub list-good : (list_refusal size vertices most list).number ≡ 0 → (i : ℕ) → i < entries size list → entry_ok size vertices most list i ≡ true
  unfolding list_refusal
  list-good e i h = bad-fine 21 (entry_ok size vertices most list) (entries size list) (omega arith) e i h
