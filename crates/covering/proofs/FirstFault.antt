-- Refusal 1, places 4 and 5, and 21: each return is the first test that fails. Assumes nothing.
use mathlib.Core.Path.{◌≡◌, sym, ap, ◌∙◌}
use mathlib.Core.List.{List, [], ◌∷◌}
use Prim.Native.Nat.{ℕ, ◌/◌, ◌%◌}
use native.Mathlib.Omega.{arith}
use native.Mathlib.Decide.{ℕ_discrete}
use lib.ListN.{length}
use borrow.Author.Tests.{eq-eqb, ne_eqb}
use Rattle.journeys.specs.Tables.{vertex_count, tables_of}
use Rattle.journeys.specs.Refusals.{Refusal, fine, or_else, chain, whole_of}
use Rattle.journeys.specs.Lists.{list_refusal}
use Rattle.journeys.specs.PartAnswers.{list_lengths}
use Rattle.journeys.proofs.Refusals.{or-first, or-next}
use Rattle.journeys.proofs.Decoding.{vertex-count}
use Rattle.lists.specs.Lists.{told}
use Rattle.std.specs.Prelude.{⊤, Result, Ok, Err}
use Rattle.intake.proofs.FirstFault.{failed, passed, last, last-failed}

module _ (list parts : List ℕ) where
  pub list-cut : (length list % 8 ≡ 0 → ⊥) → record { number = 1; place = 4 } ≡ list_lengths list parts
  unfolding list_lengths whole_of
  list-cut n = sym (failed _ 1 4 _ (omega arith) (ne_eqb (length list % 8) 0 n))

  pub parts_cut : length list % 8 ≡ 0 → (length parts % 12 ≡ 0 → ⊥) → record { number = 1; place = 5 } ≡ list_lengths list parts
  unfolding list_lengths whole_of
  parts_cut e n = sym (passed _ 1 4 _ (eq-eqb (length list % 8) 0 e) ∙ last-failed _ 1 5 (ne_eqb (length parts % 12) 0 n))

  pub none-cut : length list % 8 ≡ 0 → length parts % 12 ≡ 0 → fine ≡ list_lengths list parts
  unfolding list_lengths whole_of
  none-cut e f = sym (passed _ 1 4 _ (eq-eqb (length list % 8) 0 e) ∙ last _ 1 5 (eq-eqb (length parts % 12) 0 f))

-- ---- what the judge of lists says
module _ (r : Result ⊤ ℕ) {x : Refusal} (e : told 21 r ≡ x) where
  pub all-good : {u : ⊤} → r ≡ Ok u → fine ≡ x
  unfolding told
  all-good q = sym (ap (told 21) q) ∙ e

  pub one-bad : (i : ℕ) → r ≡ Err i → record { number = 21; place = i } ≡ x
  unfolding told
  one-bad i q = sym (ap (told 21) q) ∙ e

-- the judge is told the number of vertices and D as the code has them
pub list-as : (size : ℕ) (v w h : List ℕ) (D : ℕ) {E : ℕ} → D ≡ E → (list : List ℕ) → list_refusal 8 (length v / 12) D list ≡ list_refusal 8 (vertex_count (tables_of size v w h)) E list
list-as size v w h D e list = ap (λ (n : ℕ). list_refusal 8 n D list) (sym (vertex-count size v w h)) ∙ ap (λ (d : ℕ). list_refusal 8 (vertex_count (tables_of size v w h)) d list) e

-- ---- three reasons that are one test stand in a chain as three
or_assoc : (a b c : Refusal) → or_else (or_else a b) c ≡ or_else a (or_else b c)
or_assoc a b c = go (ℕ_discrete a.number 0)
  where
    go : Dec (a.number ≡ 0) → or_else (or_else a b) c ≡ or_else a (or_else b c)
    go (yes e) = ap (λ (x : Refusal). or_else x c) (or-next a b e) ∙ sym (or-next a (or_else b c) e)
    go (no n) = ap (λ (x : Refusal). or_else x c) (or-first a b n) ∙ or-first a c n ∙ sym (or-first a (or_else b c) n)

pub three-then : (a b c d : Refusal) → or_else (chain (a ∷ b ∷ c ∷ [])) d ≡ chain (a ∷ b ∷ c ∷ d ∷ [])
three-then a b c d = or_assoc a (or_else b c) d ∙ ap (or_else a) (or_assoc b c d)
