-- The tables read by number and the bytes read by place are the same. Assumes nothing.
use mathlib.Core.Path.{◌≡◌}
use mathlib.Core.List.{List}
use Prim.Native.Nat.{ℕ, ◌/◌, ◌<◌}
use lib.ListN.{length}
use Rattle.journeys.specs.Tables.{vertex_at, walk_at, hop_at, tables_of, vertex_count, walk_count, hop_count, vertex, walk, hop}
use Rattle.journeys.proofs.Counting.{length-joined, get_d-joined}

module _ (size : ℕ) (v w h : List ℕ) where
  pub vertex-count : vertex_count (tables_of size v w h) ≡ length v / 12
  unfolding tables_of
  vertex-count = length-joined (vertex_at v) (length v / 12)

  pub walk-count : walk_count (tables_of size v w h) ≡ length w / 16
  unfolding tables_of
  walk-count = length-joined (walk_at w) (length w / 16)

  pub hop-count : hop_count (tables_of size v w h) ≡ length h / size
  unfolding tables_of
  hop-count = length-joined (hop_at size h) (length h / size)

  pub vertex-at : (i : ℕ) → i < length v / 12 → vertex (tables_of size v w h) i ≡ vertex_at v i
  unfolding tables_of
  vertex-at i l = get_d-joined (vertex_at v) (length v / 12) i _ l

  pub walk_at_lem : (i : ℕ) → i < length w / 16 → walk (tables_of size v w h) i ≡ walk_at w i
  unfolding tables_of
  walk_at_lem i l = get_d-joined (walk_at w) (length w / 16) i _ l

  pub hop-at : (i : ℕ) → i < length h / size → hop (tables_of size v w h) i ≡ hop_at size h i
  unfolding tables_of
  hop-at i l = get_d-joined (hop_at size h) (length h / size) i _ l
