-- The table of frames holds, computed from the definitions. Assumes nothing.
use mathlib.Core.Path.{◌≡◌, refl}
use mathlib.Core.List.{map, flat_map}
use lib.Count.{count_trailing_zeros}
use lib.Ieee.{lt, of_bits, of_fields, odd}
use Rattle.journeys.specs.Bytes.{word, be32}
use Rattle.journeys.specs.Refusals.{unless, or_else, first_from, first_bad, whole_of, table_of}
use Rattle.journeys.specs.Lists.{allows, named, entry_ok, list_refusal}
use Rattle.frame.specs.Frames.{finite_bits, point_ok, smaller, smallest, largest, bounds_to, frame_lengths, frame_refusal, frame_bounds}
use Rattle.frame.specs.Rows.{Row, rows, answered}

pub rows-hold : map answered rows ≡ map (λ (r : Row). r.answer) rows
unfolding rows answered flat_map word be32 frame_refusal frame_lengths frame_bounds bounds_to smallest largest smaller point_ok finite_bits list_refusal entry_ok allows named unless or_else first_from first_bad whole_of table_of lt of_bits of_fields odd count_trailing_zeros
rows-hold = refl
