-- The fields of a used word. In 27 bits 134217727 stands for no distance, in a record 4294967295.
use Rattle.std.specs.Prelude.{ℕ, ◌+◌, ◌*◌, ◌/◌, ◌%◌}
use Rattle.table_tree.specs.Words.{vertex_in}
use Rattle.journeys.specs.Network.{Held}

unfoldable pub distance_in : ℕ → ℕ
distance_in w = w / 68719476736 % 134217728 + w / 68719476736 % 134217728 / 134217727 * 4160749568

unfoldable pub state_in : ℕ → ℕ
state_in w = w / 9223372036854775808

unfoldable pub remaining_in : ℕ → ℕ
remaining_in w = w % 1048576

unfoldable pub held_in : ℕ → Held
held_in w = record { vertex = vertex_in w; distance = distance_in w; state = state_in w; remaining = remaining_in w }
