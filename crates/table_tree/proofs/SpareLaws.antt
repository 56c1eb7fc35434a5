-- Slots are made vacant one by one, and leaves set one by one. Assumes nothing.
use mathlib.Core.Path.{◌≡◌, refl, ◌∙◌}
use mathlib.Core.List.{List}
use Prim.Native.Nat.{ℕ, ◌+◌, ◌%◌, ◌<◌, ◌≤◌}
use native.Mathlib.Omega.{arith}
use native.Mathlib.Decide.{ℕ_discrete}
use lib.ListN.{length, set}
use lib.Seq.{get_or-set_same, get_or-set_other}
use Rattle.table_bytes.specs.Columns.{Cols, set_w, set_n, at, Sized}
use Rattle.table_tree.specs.Words.{vacant}
use Rattle.table_tree.specs.Tree.{Spared, Leaves}

-- what holds from a number on below i, and is set at i
more : (l : List ℕ) (from i x : ℕ) (f : ℕ → ℕ) → i < length l → x ≡ f i → ((j : ℕ) → from ≤ j → j < i → at l j ≡ f j) → (j : ℕ) → from ≤ j → j < i + 1 → at (set l i x) j ≡ f j
more l from i x f len e h j fj lj = go (ℕ_discrete j i)
  where
    go : Dec (j ≡ i) → at (set l i x) j ≡ f j
    go (yes q) = rw q (get_or-set_same l i x 0 len ∙ e)
    go (no ne) = get_or-set_other l i j x 0 ne ∙ h j fj (omega arith)

pub spared-none : {from : ℕ} {c : Cols} → Spared from from c c
spared-none = record {
  words = λ j h k. absurd (omega arith);
  nexts = λ j h k. absurd (omega arith);
  old_words = λ j h. refl;
  old_nexts = λ j h. refl;
  h = refl;
  t = refl;
}

pub spared-more : {r from i : ℕ} {c d d₁ e : Cols} → Sized r d → i < r → from ≤ i → Spared from i c d → d₁ ≡ set_w d i vacant → e ≡ set_n d₁ i ((i + 1) % 65536) → Spared from (i + 1) c e
spared-more {r} {from} {i} {c} {d} sz l fi v e₁ e₂ = rw (e₂, e₁) (record {
  words = more d.w from i vacant (λ j. vacant) (omega (arith, sz.w)) refl v.words;
  nexts = more d.n from i ((i + 1) % 65536) (λ j. (j + 1) % 65536) (omega (arith, sz.n)) refl v.nexts;
  old_words = λ j h. get_or-set_other d.w i j vacant 0 (λ z. absurd (omega arith)) ∙ v.old_words j h;
  old_nexts = λ j h. get_or-set_other d.n i j ((i + 1) % 65536) 0 (λ z. absurd (omega arith)) ∙ v.old_nexts j h;
  h = v.h;
  t = v.t;
})

pub leaves-more : (cap i : ℕ) (T : List ℕ) → cap + i < length T → Leaves cap i T → Leaves cap (i + 1) (set T (cap + i) i)
leaves-more cap i T len h j lj = go (ℕ_discrete j i)
  where
    go : Dec (j ≡ i) → at (set T (cap + i) i) (cap + j) ≡ j
    go (yes q) = rw q (get_or-set_same T (cap + i) i 0 len)
    go (no ne) = get_or-set_other T (cap + i) (cap + j) i 0 (λ z. ne (omega arith)) ∙ h j (omega arith)
