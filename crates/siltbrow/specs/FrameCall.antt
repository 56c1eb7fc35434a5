-- What the call for a frame answers and leaves in the answer slice. Assumes nothing.
use Rattle.std.specs.Prelude.{◌≡◌, ◌≢◌, List, ℕ, length}
use Rattle.frame.specs.Frames.{frame_refusal, frame_bounds, frame_bytes}

-- `slice` is the answer slice as it was lent, `slice'` after the call. One that is not 24 bytes gets nothing; in 24 bytes stand the refusal, its place and
-- the four stored values.
pub record FrameAnswered (vertices list coordinates slice slice' : List ℕ) (r : ℕ) : Type 0 where
  pub untouched : length slice ≢ 24 → (r ≡ 1) × (slice' ≡ slice)
  pub answered : length slice ≡ 24 → (r ≡ 0) × (slice' ≡ frame_bytes (frame_refusal vertices list coordinates) (frame_bounds vertices list coordinates))
