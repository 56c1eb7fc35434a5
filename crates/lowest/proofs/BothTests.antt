-- The first line that fails one of two tests is the lower of the first that fail each. Assumes nothing.
use mathlib.Core.Path.{◌≡◌, refl, sym, ap, ap₂, subst, ◌∙◌}
use mathlib.Core.Logic.{◌⊎◌, inl, inr, ⊎_elim}
use mathlib.Core.Bool.{Bool, true, false, cond, ◌&&◌, ◌||◌}
use mathlib.Core.List.{List, [], ◌∷◌}
use Prim.Native.Nat.{ℕ, ◌+◌, ◌≤◌, ◌<◌, min}
use native.Mathlib.Omega.{arith}
use native.Mathlib.Decide.{dec_lt}
use lib.Dec.{eqb, ltb}
use borrow.Author.Tests.{lt-ltb, le-ltb, eq-eqb}
use Rattle.journeys.specs.Counting.{none}
use Rattle.journeys.specs.Refusals.{Refusal, fine, unless, or_else}
use Rattle.journeys.proofs.Tests.{split, cond-true, cond-false}
use Rattle.feed.specs.Lines.{empty, place, first_bad_line}
use Rattle.lowest.specs.Lower.{lower_of}

pub no-first : (a b : Refusal) → a.number ≡ 0 → b ≡ lower_of a b
unfolding lower_of
no-first a b e = sym (cond-true _ _ (eq-eqb _ 0 e))

pub no_second : (a b : Refusal) → eqb a.number 0 ≡ false → b.number ≡ 0 → a ≡ lower_of a b
unfolding lower_of
no_second a b e f = sym (cond-false _ _ e ∙ cond-true _ _ (eq-eqb _ 0 f))

pub second-lower : (a b : Refusal) → eqb a.number 0 ≡ false → eqb b.number 0 ≡ false → b.place < a.place → b ≡ lower_of a b
unfolding lower_of
second-lower a b e f h = sym (cond-false _ _ e ∙ cond-false _ _ f ∙ cond-true _ _ (lt-ltb _ _ h))

pub first-lower : (a b : Refusal) → eqb a.number 0 ≡ false → eqb b.number 0 ≡ false → a.place ≤ b.place → a ≡ lower_of a b
unfolding lower_of
first-lower a b e f h = sym (cond-false _ _ e ∙ cond-false _ _ f ∙ cond-false _ _ (le-ltb _ _ h))

-- nothing, or a line from i on
record Later (number i : ℕ) (r : Refusal) : Type 0 where
  kind : (r ≡ fine) ⊎ (r.number ≡ number)
  behind : (r ≡ fine) ⊎ (place i ≤ r.place)

later-place : (i : ℕ) → place i ≤ place (i + 1)
unfolding place
later-place i = omega arith

module _ (number : ℕ) (z : eqb number 0 ≡ false) where
  later : (good : List ℕ → Bool) (i : ℕ) (ls : List (List ℕ)) → Later number i (first_bad_line number good i ls)
  unfolding first_bad_line unless or_else
  later good i [] = record { kind = inl refl; behind = inl refl }
  later good i (l ∷ ls) =
      let r = later good (i + 1) ls in
      ⊎_elim
      (λ (t : (empty l || good l) ≡ true). rw t (record { kind = r.kind; behind = ⊎_elim (λ e. inl e) (λ h. inr (omega (arith, h, later-place i))) r.behind }))
      (λ (t : (empty l || good l) ≡ false). rw (t, z) (record { kind = inr refl; behind = inr (omega arith) }))
      (split (empty l || good l))

  abbrev here : ℕ → Refusal
  here i = record { number = number; place = place i }

  here-first : (i : ℕ) (r : Refusal) → Later number i r → here i ≡ lower_of (here i) r
  here-first i r k =
      ⊎_elim (λ (e : r ≡ fine). no_second (here i) r z (ap (λ (x : Refusal). x.number) e))
      (λ (n : r.number ≡ number).
      ⊎_elim (λ (e : r ≡ fine). no_second (here i) r z (ap (λ (x : Refusal). x.number) e))
      (λ (h : place i ≤ r.place). first-lower (here i) r z (ap (λ (x : ℕ). eqb x 0) n ∙ z) h)
      k.behind)
      k.kind

  here-second : (i : ℕ) (r : Refusal) → Later number i r → here i ≡ lower_of r (here i)
  here-second i r k =
      ⊎_elim (λ (e : r ≡ fine). no-first r (here i) (ap (λ (x : Refusal). x.number) e))
      (λ (n : r.number ≡ number).
      ⊎_elim (λ (e : r ≡ fine). no-first r (here i) (ap (λ (x : Refusal). x.number) e))
      (λ (h : place i ≤ r.place). go n h (dec_lt (place i) r.place))
      k.behind)
      k.kind
    where
      go : r.number ≡ number → place i ≤ r.place → Dec (place i < r.place) → here i ≡ lower_of r (here i)
      go n h (yes l) = second-lower r (here i) (ap (λ (x : ℕ). eqb x 0) n ∙ z) z l
      go n h (no l) =
          let e : r.place ≡ place i = omega arith in
          ap₂ (λ (x y : ℕ). record { number = x; place = y }) (sym n) (sym e) ∙ first-lower r (here i) (ap (λ (x : ℕ). eqb x 0) n ∙ z) z (omega (arith, e))

  both-good : (e a b : Bool) → (e || a) ≡ true → (e || b) ≡ true → (e || (a && b)) ≡ true
  both-good true a b p q = refl
  both-good false a b p q = rw (p, q) refl

  first-bad : (e a b : Bool) → (e || a) ≡ false → (e || (a && b)) ≡ false
  first-bad true a b p = p
  first-bad false a b p = rw p refl

  second-bad : (e a b : Bool) → (e || b) ≡ false → (e || (a && b)) ≡ false
  second-bad true a b p = p
  second-bad false true b p = p
  second-bad false false b p = refl

  -- The first line that fails one of the tests.
  pub both-tests : (A B : List ℕ → Bool) (i : ℕ) (ls : List (List ℕ)) → first_bad_line number (λ l. A l && B l) i ls ≡ lower_of (first_bad_line number A i ls) (first_bad_line number B i ls)
  unfolding first_bad_line unless or_else
  both-tests A B i [] = no-first fine fine refl
  both-tests A B i (l ∷ ls) =
      ⊎_elim
      (λ (p : (empty l || A l) ≡ true).
      ⊎_elim
      (λ (q : (empty l || B l) ≡ true). rw (both-good (empty l) (A l) (B l) p q, p, q) (both-tests A B (i + 1) ls))
      (λ (q : (empty l || B l) ≡ false). rw (second-bad (empty l) (A l) (B l) q, p, q, z) (here-second i (first_bad_line number A (i + 1) ls) (sooner (later A (i + 1) ls))))
      (split (empty l || B l)))
      (λ (p : (empty l || A l) ≡ false).
      ⊎_elim
      (λ (q : (empty l || B l) ≡ true). rw (first-bad (empty l) (A l) (B l) p, p, q, z) (here-first i (first_bad_line number B (i + 1) ls) (sooner (later B (i + 1) ls))))
      (λ (q : (empty l || B l) ≡ false). rw (first-bad (empty l) (A l) (B l) p, p, q, z) (here-first i (here i) (record { kind = inr refl; behind = inr (omega arith) })))
      (split (empty l || B l)))
      (split (empty l || A l))
    where
      sooner : {r : Refusal} → Later number (i + 1) r → Later number i r
      sooner k = record { kind = k.kind; behind = ⊎_elim (λ e. inl e) (λ h. inr (omega (arith, h, later-place i))) k.behind }
