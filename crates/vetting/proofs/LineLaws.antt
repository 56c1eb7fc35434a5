-- Lines that none of a test's refusals stops. Assumes nothing.
use mathlib.Core.Path.{◌≡◌, refl, sym, ap, ◌∙◌}
use mathlib.Core.Logic.{◌⊎◌, inl, inr, ⊎_elim}
use mathlib.Core.Bool.{Bool, true, false, ◌||◌}
use mathlib.Core.List.{List, [], ◌∷◌}
use Prim.Native.Nat.{ℕ, ◌+◌}
use lib.Dec.{eqb}
use borrow.Author.Tests.{eqb-false}
use Rattle.journeys.specs.Refusals.{Refusal, fine, unless, or_else}
use Rattle.journeys.proofs.Tests.{split}
use Rattle.feed.specs.Lines.{empty, first_bad_line}

module _ (number : ℕ) (z : eqb number 0 ≡ false) (good : List ℕ → Bool) where
  -- a line is refused by this number or not at all
  pub line-number : (i : ℕ) (ls : List (List ℕ)) → (first_bad_line number good i ls ≡ fine) ⊎ ((first_bad_line number good i ls).number ≡ number)
  unfolding first_bad_line unless or_else
  line-number i [] = inl refl
  line-number i (l ∷ ls) =
      ⊎_elim (λ (t : (empty l || good l) ≡ true). rw t (line-number (i + 1) ls))
      (λ (t : (empty l || good l) ≡ false). rw (t, z) (inr refl))
      (split (empty l || good l))

  pub line-fine : (i : ℕ) (ls : List (List ℕ)) → (first_bad_line number good i ls).number ≡ 0 → first_bad_line number good i ls ≡ fine
  line-fine i ls e = ⊎_elim (λ p. p) (λ p. absurd (eqb-false number 0 z (sym p ∙ e))) (line-number i ls)

  -- what follows from a test is refused nowhere where the test is not
  pub weaker : (other : List ℕ → Bool) → ((l : List ℕ) → good l ≡ true → other l ≡ true) → (i : ℕ) (ls : List (List ℕ)) → first_bad_line number good i ls ≡ fine → first_bad_line number other i ls ≡ fine
  unfolding first_bad_line unless or_else
  weaker other h i [] e = refl
  weaker other h i (l ∷ ls) e = go (empty l || good l) refl (λ q. weaker other h (i + 1) ls q)
    where
      also : (empty l || good l) ≡ true → (empty l || other l) ≡ true
      also q = ⊎_elim (λ (t : empty l ≡ true). rw t refl) (λ (t : empty l ≡ false). rw t (h l (rw t at q))) (split (empty l))

      go : (b : Bool) → (empty l || good l) ≡ b → (first_bad_line number good (i + 1) ls ≡ fine → first_bad_line number other (i + 1) ls ≡ fine) → first_bad_line number other i (l ∷ ls) ≡ fine
      go true q on = rw (also q) (on (rw q at e))
      go false q on = absurd (eqb-false number 0 z (ap (λ (r : Refusal). r.number) (rw (q, z) at e)))
