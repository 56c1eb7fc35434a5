-- The floats of points and frames, from stored bits. Assumes nothing.
use Rattle.std.specs.Prelude.{cond, not, List, ℕ, T, Float, Result, Ok, Err}
use Rattle.std.specs.Float.{binary32}
use Rattle.std.specs.Float.Ieee.{lt, is_nan, to_bits}
use Rattle.frame.specs.declared.Point.{Point}
use Rattle.frame.specs.declared.Frame.{Frame}
use Rattle.frame.specs.declared.Framed.{Framed}
use Rattle.journeys.specs.Refusals as refusals
use Rattle.words.specs.Refusal.{Refusal}
use Rattle.frame.specs.Frames.{x_bits, y_bits, value, Bounds, no_bounds}

unfoldable pub lesser_of : Float → Float → Float
lesser_of a b = cond (lt b a) b a

unfoldable pub greater_of : Float → Float → Float
greater_of a b = cond (lt a b) b a

abbrev pub point_at : List ℕ → ℕ → Point
point_at coordinates v = record { x = value (x_bits coordinates v); y = value (y_bits coordinates v) }

-- the frame that holds one point more
abbrev pub widened_by : Frame → Point → Frame
widened_by f p =
    record {
      least_x = lesser_of f.least_x p.x;
      greatest_x = greater_of f.greatest_x p.x;
      least_y = lesser_of f.least_y p.y;
      greatest_y = greater_of f.greatest_y p.y;
    }

abbrev pub frame_from : Bounds → Frame
frame_from b =
    record {
      least_x = value b.least_x;
      greatest_x = value b.greatest_x;
      least_y = value b.least_y;
      greatest_y = value b.greatest_y;
    }

-- the frame that an answer has: a refusal comes with a frame of zeros
abbrev pub frame_in : Result Frame Refusal → Frame
frame_in (Ok f) = f
frame_in (Err _) = frame_from no_bounds

-- the six numbers of a refusal and a frame
abbrev pub answer_from : refusals.Refusal → Frame → Framed
answer_from r f = record { number = r.number; place = r.place; frame = f }

-- none of the four is a NaN, which has no bits of its own; the bits of the four
pub record Numbers (f : Frame) : Type 0 where
  pub least_x : T (not (is_nan f.least_x))
  pub greatest_x : T (not (is_nan f.greatest_x))
  pub least_y : T (not (is_nan f.least_y))
  pub greatest_y : T (not (is_nan f.greatest_y))

abbrev pub bits_of : Frame → Bounds
bits_of f =
    record {
      least_x = to_bits binary32 f.least_x;
      greatest_x = to_bits binary32 f.greatest_x;
      least_y = to_bits binary32 f.least_y;
      greatest_y = to_bits binary32 f.greatest_y;
    }
