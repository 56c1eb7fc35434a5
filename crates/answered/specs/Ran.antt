-- What a call for a run leaves in the slices that are lent to it: RULES 13. Assumes nothing.
use Rattle.std.specs.Prelude.{◌≡◌, ◌≢◌, List, ℕ, length}

-- A is what a run answers: `one` and `two` are its two buffers, `bytes` its 24 bytes.
-- `slice` is the answer slice as it was lent, and behind it stand the three written slices after the call. A slice that is not 24 bytes gets nothing,
-- and then nothing else is written either; in 24 bytes stands an answer that the run may give (RULES 13.5), and in the buffers what goes with it.
pub record RanBy {A : Type 0} (one two bytes : A → List ℕ) (allowed : A → Type 0) (one_lent two_lent slice one' two' slice' : List ℕ) (r : ℕ) : Type 0 where
  pub untouched : length slice ≢ 24 → (r ≡ 1) × (one' ≡ one_lent) × (two' ≡ two_lent) × (slice' ≡ slice)
  pub answered : length slice ≡ 24 → (r ≡ 0) × ((a : A) × allowed a × (one' ≡ one a) × (two' ≡ two a) × (slice' ≡ bytes a))
