-- A list of parts: those of step 0, then at each settled vertex those of the walks with that end. In either direction. Assumes nothing.
use mathlib.Core.Path.{◌≡◌, refl, subst, ◌∙◌}
use mathlib.Core.Logic.{◌⊎◌, inl, inr, ◌≢◌}
use mathlib.Core.Bool.{Bool, true, false, cond}
use mathlib.Core.List.{List, [], ◌∷◌, ◌++◌, flat_map}
use Prim.Native.Nat.{ℕ, ◌<◌}
use lib.Dec.{eqb}
use borrow.Author.Tests.{eqb-false, eq-eqb, ne_eqb}
use Rattle.journeys.specs.Counting.{none, joined, In}
use Rattle.journeys.specs.Order.{Settled, settled}
use Rattle.journeys.specs.Parts.{Part, part}
use Rattle.journeys.proofs.Tests.{Test, same, other, test}
use Rattle.journeys.proofs.Counting.{in_left, in_right, in-append, in-flat, flat_in, in-joined, joined_in}

abbrev pub the_part : ℕ → ℕ → ℕ → Part
the_part i a z = record { walk = i; start = a; end = z }

pub part_in : (i a z : ℕ) (p : Part) → In p (part i a z) → (p ≡ the_part i a z) × (a ≢ z)
unfolding part
part_in i a z p = go (test a z)
  where
    go : {t : Bool} → Test a z t → In p (cond t [] (the_part i a z ∷ [])) → (p ≡ the_part i a z) × (a ≢ z)
    go (same e) j = absurd j
    go (other q) (inl e) = (e, q)
    go (other q) (inr x'') = elim x'' [ ]

pub in-part : (i a z : ℕ) → a ≢ z → In (the_part i a z) (part i a z)
unfolding part
in-part i a z q = rw (ne_eqb a z q) (inl refl)

-- ---- step 0: the record of the query, then its twin, if any
abbrev pub two_of : (ℕ → List Part) → ℕ → ℕ → List Part
two_of f e t = f e ++ cond (eqb t none) [] (f t)

module _ (f : ℕ → List Part) (e t : ℕ) (p : Part) where
  pub two_cases : In p (two_of f e t) → In p (f e) ⊎ ((t ≢ none) × In p (f t))
  two_cases j = go (in-append (f e) _ p j)
    where
      by-twin : (b : Bool) → eqb t none ≡ b → In p (cond b [] (f t)) → (t ≢ none) × In p (f t)
      by-twin true q k = absurd k
      by-twin false q k = (eqb-false t none q, k)

      go : In p (f e) ⊎ In p (cond (eqb t none) [] (f t)) → In p (f e) ⊎ ((t ≢ none) × In p (f t))
      go (inl k) = inl k
      go (inr k) = inr (by-twin (eqb t none) refl k)

  pub two_in : In p (f e) ⊎ ((t ≢ none) × In p (f t)) → In p (two_of f e t)
  two_in (inl k) = in_left (f e) _ p k
  two_in (inr k) = in_right (f e) _ p (rw (ne_eqb t none k.0) k.1)

-- A part of record i, where i is one of the two.
pub on-query : (f : ℕ → List Part) {e t : ℕ} (i : ℕ) → i ≢ none → (p : Part) → In p (f i) → (i ≡ e) ⊎ (i ≡ t) → In p (f e) ⊎ ((t ≢ none) × In p (f t))
on-query f i n p j (inl q) = inl (subst (λ (k : ℕ). In p (f k)) q j)
on-query f i n p j (inr q) = inr (λ z. n (q ∙ z), subst (λ (k : ℕ). In p (f k)) q j)

-- ---- the whole list, where `end` is the end of a walk at which it is asked for
abbrev pub parts_by : ℕ → (ℕ → ℕ) → (ℕ → ℕ → List Part) → Settled → List Part
parts_by n end at x = joined (λ i. cond (eqb (end i) x.vertex) (at x.distance i) []) n

module _ (n : ℕ) (end : ℕ → ℕ) (at : ℕ → ℕ → List Part) (firsts : List Part) (S : List Settled) (p : Part) where
  abbrev Later : Type 0
  Later = (i : ℕ) × (d : ℕ) × (i < n) × In (settled (end i) d) S × In p (at d i)

  pub list_cases : In p (firsts ++ flat_map (parts_by n end at) S) → In p firsts ⊎ Later
  list_cases j = go (in-append firsts _ p j)
    where
      here : (x : Settled) → In x S → (i : ℕ) → i < n → {t : Bool} → Test (end i) x.vertex t → In p (cond t (at x.distance i) []) → Later
      here x m i l (same e) k = (i, x.distance, l, rw e m, k)
      here x m i l (other q) k = absurd k

      go : In p firsts ⊎ In p (flat_map (parts_by n end at) S) → In p firsts ⊎ Later
      go (inl k) = inl k
      go (inr k) =
          let x = flat_in (parts_by n end at) S p k in
          let y = joined_in (λ i. cond (eqb (end i) x.0.vertex) (at x.0.distance i) []) n p x.2 in
          inr (here x.0 x.1 y.0 y.1 (test (end y.0) x.0.vertex) y.2)

  pub list-in : In p firsts ⊎ Later → In p (firsts ++ flat_map (parts_by n end at) S)
  list-in (inl k) = in_left firsts _ p k
  list-in (inr (i, d, l, m, k)) =
      let here : In p (cond (eqb (end i) (end i)) (at d i) []) = rw (eq-eqb (end i) (end i) refl) k in
      (in_right firsts _ p
      (in-flat (parts_by n end at) S (settled (end i) d) p m (in-joined (λ j. cond (eqb (end j) (end i)) (at d j) []) n i p l here)))
