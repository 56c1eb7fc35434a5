-- Records written one behind the other into a buffer. Assumes nothing.
use mathlib.Core.Path.{◌≡◌, sym, ap, ◌∙◌}
use mathlib.Core.List.{List, [], ◌++◌, append-nil}
use Prim.Native.Nat.{ℕ, zero, suc, ◌+◌, ◌*◌, ◌/◌, ◌≤◌, ◌<◌}
use native.Mathlib.Numerals.{add-one}
use native.Mathlib.Omega.{arith}
use lib.ListN.{length, drop, length-append, length-drop, drop_of_length-le}
use lib.Seq.{length-take-le}
use Rattle.journeys.specs.Counting.{joined}
use Rattle.journeys.specs.Bytes.{word}
use Rattle.words.specs.Written.{written}
use Rattle.words.proofs.Written.{length-word, front, written_next}
use Rattle.records.proofs.Sizes.{start_fits}
use Rattle.moves.specs.Moved.{common}

pub common-long : (size : ℕ) (b : List ℕ) (i : ℕ) → 16 ≤ size → i < length b / size → length (common size b i) ≡ 16
unfolding common
common-long size b i s l =
    length-take-le 16 (drop (size * i) b) (simp length-drop (omega (arith, start_fits size i (length b) (omega arith) l)))

-- and with a trip behind it
pub row-long : (b : List ℕ) (i : ℕ) → i < length b / 16 → length (common 16 b i ++ word 0) ≡ 20
row-long b i l = length-append (common 16 b i) (word 0) ∙ omega (arith, common-long 16 b i (omega arith) l, length-word 0)

-- n records of k bytes each
module _ (f : ℕ → List ℕ) (k : ℕ) where
  pub rows_long : (n : ℕ) → ((i : ℕ) → i < n → length (f i) ≡ k) → length (joined f n) ≡ k * n
  unfolding joined
  rows_long zero h = omega arith
  rows_long (suc n) h =
      length-append (joined f n) (f n) ∙ omega (arith, rows_long n (λ i l. h i (omega arith)), h n (omega arith))

  -- nothing is written yet, one record more, and all of them
  pub rows_none : (d : List ℕ) → d ≡ written d 0 (joined f 0)
  unfolding joined
  rows_none d = sym (front d [])

  pub rows_next : (d : List ℕ) (n : ℕ) → ((i : ℕ) → i < suc n → length (f i) ≡ k) → k * n + k ≤ length d
      → written (written d 0 (joined f n)) (k * n) (f n) ≡ written d 0 (joined f (n + 1))
  unfolding joined
  rows_next d n h fits =
      let long = rows_long n (λ i l. h i (omega arith)) in
      let at : k * n ≡ 0 + length (joined f n) = omega arith in
      ap (λ (x : ℕ). written (written d 0 (joined f n)) x (f n)) at
      ∙ written_next d 0 (joined f n) (omega arith) (f n)
      ∙ ap (λ (m : ℕ). written d 0 (joined f m)) (sym (add-one n))

  pub rows_all : (d : List ℕ) (n : ℕ) → ((i : ℕ) → i < n → length (f i) ≡ k) → length d ≡ k * n → written d 0 (joined f n) ≡ joined f n
  rows_all d n h e =
      front d (joined f n)
      ∙ ap (λ (r : List ℕ). joined f n ++ r) (drop_of_length-le d {i = length (joined f n)} (omega (arith, rows_long n h)))
      ∙ append-nil (joined f n)
