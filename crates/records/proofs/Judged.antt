-- A record judged in the bytes of its table is judged as `journeys` does. Assumes nothing.
use mathlib.Core.Path.{◌≡◌, refl, ◌∙◌}
use mathlib.Core.Bool.{Bool, true, false, ◌&&◌}
use mathlib.Core.List.{List, []}
use Prim.Native.Nat.{ℕ, ◌+◌, ◌/◌, ◌<◌}
use Rattle.std.specs.Prelude.{Ok, Err}
use native.Mathlib.Omega.{arith}
use borrow.Author.Tests.{leb-true, le-leb}
use lib.Dec.{eqb, leb}
use lib.IntN.{pos}
use lib.ListN.{length}
use Rattle.journeys.specs.Bytes.{clocked, midnight}
use Rattle.journeys.specs.Tables.{Walk, vertex_at, walk_at, hop_at, tables_of}
use Rattle.journeys.specs.Records.{departing}
use Rattle.journeys.specs.Refusals.{ends_ok, length_ok, wait_ok, twin_ok, times_ok, walk_ok, hop_ok, vertex_ok}
use Rattle.journeys.proofs.Tests.{and_left, and_right, same_test}
use Rattle.journeys.proofs.Decoding.{vertex-at, walk_at_lem, hop-at, vertex-count}
use Rattle.records.specs.Columns.{records_in, arriving_below}
use Rattle.records.specs.Meaning.{vertex_of, walk_of, hop_of}
use Rattle.records.specs.Readings.{told_vertex, told_walk, told_hop, vertex_reading, walk_reading, hop_reading}
use Rattle.records.proofs.Columns.{walks-below, hops-below}

-- a wait judged as signed seconds
pub wait-is : (wait : ℕ) → leb (clocked (pos wait)) (midnight + 120) ≡ wait_ok wait
wait-is wait =
    same_test _ _ (λ e. le-leb wait 120 (omega (arith, leb-true (midnight + wait) (midnight + 120) e))) (λ e. le-leb (midnight + wait) (midnight + 120) (omega (arith, leb-true wait 120 e)))

module _ (size : ℕ) (v w h : List ℕ) where
  pub walk-ok : (i : ℕ) → i < records_in 16 w
      → walk_ok (tables_of size v w h) i ≡ ends_ok (length v / 12) (walk_at w i).from (walk_at w i).to && length_ok (walk_at w i).len && wait_ok (walk_at w i).wait && twin_ok (tables_of 16 [] w []) i (walk_at w i)
  unfolding walk_ok tables_of
  walk-ok i l = rw (walk_at_lem size v w h i l, vertex-count size v w h)

  -- a test of a walk that fails decides, and the last one does where the others hold
  module _ (i : ℕ) (l : i < records_in 16 w) where
    abbrev x : Walk
    x = walk_at w i

    abbrev ends : Bool
    ends = ends_ok (length v / 12) x.from x.to

    pub ends-decide : ends ≡ false → walk_ok (tables_of size v w h) i ≡ false
    ends-decide e = walk-ok i l ∙ and_left (twin_ok (tables_of 16 [] w []) i x) (and_left (wait_ok x.wait) (and_left (length_ok x.len) e))

    pub wait-decides : wait_ok x.wait ≡ false → walk_ok (tables_of size v w h) i ≡ false
    wait-decides e = walk-ok i l ∙ and_left (twin_ok (tables_of 16 [] w []) i x) (and_right (ends && length_ok x.len) e)

    pub measures-decide : length_ok x.len && wait_ok x.wait ≡ false → walk_ok (tables_of size v w h) i ≡ false
    measures-decide e = walk-ok i l ∙ and_left (twin_ok (tables_of 16 [] w []) i x) (go ends (length_ok x.len) e)
      where
        go : (a b : Bool) → b && wait_ok x.wait ≡ false → (a && b) && wait_ok x.wait ≡ false
        go true b q = q
        go false b q = refl

    pub twin-decides : ends ≡ true → length_ok x.len ≡ true → wait_ok x.wait ≡ true → walk_ok (tables_of size v w h) i ≡ twin_ok (tables_of 16 [] w []) i x
    twin-decides e f g = walk-ok i l ∙ rw (e, f, g)

  pub hop-ok : (j : ℕ) → j < records_in size h
      → hop_ok (tables_of size v w h) j ≡ ends_ok (length v / 12) (hop_at size h j).from (hop_at size h j).to && times_ok (hop_at size h j).departure (hop_at size h j).arrival
  unfolding hop_ok
  hop-ok j l = rw (hop-at size v w h j l, vertex-count size v w h)

  pub vertex-ok : (x : ℕ) → x < length v / 12
      → vertex_ok (tables_of size v w h) x ≡ eqb (vertex_at v x).first_walk (arriving_below 16 w x) && eqb (vertex_at v x).first_hop (arriving_below size h x) && eqb (vertex_at v x).departing (departing (tables_of size v w h) x) && eqb (vertex_at v x).zeros 0
  unfolding vertex_ok
  vertex-ok x l = rw (vertex-at size v w h x l, walks-below size v w h x, hops-below size v w h x)

  -- the two answers of each reader
  pub walk-good : (i : ℕ) → i < records_in 16 w → walk_ok (tables_of size v w h) i ≡ true → told_walk (Ok (walk_of (walk_at w i))) ≡ walk_reading (tables_of size v w h) i
  unfolding told_walk walk_reading
  walk-good i l e = rw (e, walk_at_lem size v w h i l)

  pub walk-bad : (i : ℕ) → walk_ok (tables_of size v w h) i ≡ false → told_walk (Err i) ≡ walk_reading (tables_of size v w h) i
  unfolding told_walk walk_reading
  walk-bad i e = rw e

  pub hop-good : (j : ℕ) → j < records_in size h → hop_ok (tables_of size v w h) j ≡ true → told_hop (Ok (hop_of (hop_at size h j))) ≡ hop_reading (tables_of size v w h) j
  unfolding told_hop hop_reading
  hop-good j l e = rw (e, hop-at size v w h j l)

  pub hop-bad : (j : ℕ) → hop_ok (tables_of size v w h) j ≡ false → told_hop (Err j) ≡ hop_reading (tables_of size v w h) j
  unfolding told_hop hop_reading
  hop-bad j e = rw e

  pub vertex-good : (x : ℕ) → x < length v / 12 → vertex_ok (tables_of size v w h) x ≡ true → told_vertex (Ok (vertex_of (vertex_at v x))) ≡ vertex_reading (tables_of size v w h) x
  unfolding told_vertex vertex_reading
  vertex-good x l e = rw (e, vertex-at size v w h x l)

  pub vertex-bad : (x : ℕ) → vertex_ok (tables_of size v w h) x ≡ false → told_vertex (Err x) ≡ vertex_reading (tables_of size v w h) x
  unfolding told_vertex vertex_reading
  vertex-bad x e = rw e
