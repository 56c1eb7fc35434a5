-- A run of records is part of its table: what it holds is what the table holds further on. Assumes nothing.
use mathlib.Core.Path.{◌≡◌, ◌∙◌}
use mathlib.Core.List.{List}
use Prim.Native.Nat.{ℕ, ◌+◌, ◌-◌, ◌*◌, ◌/◌, ◌≤◌, ◌<◌}
use native.Mathlib.Nat.{mul-add, mul-sub}
use native.Mathlib.Omega.{arith}
use lib.ListN.{length, drop, get_or, length-take, length-drop}
use lib.Seq.{get_or-take, get_or-drop}
use Rattle.journeys.specs.Bytes.{be32}
use Rattle.journeys.specs.Tables.{walk_at, hop_at}
use Rattle.records.specs.Columns.{records_in}
use Rattle.records.specs.Arriving.{run}
use Rattle.records.proofs.Sizes.{start_fits, run_fits, as_many}

module _ (size : ℕ) (wide : 16 ≤ size) (t : List ℕ) (first end : ℕ) (order : first ≤ end) (inside : end ≤ records_in size t) where
  pub length_run : length (run size t first end) ≡ size * (end - first)
  unfolding run
  length_run = simp (length-take, length-drop) (omega (arith, run_fits size first end (length t) (omega arith) order inside, mul-sub size end first))

  run-byte : (k : ℕ) → k < size * (end - first) → get_or (run size t first end) k 0 ≡ get_or t (size * first + k) 0
  unfolding run
  run-byte k h = get_or-take (size * end - size * first) (drop (size * first) t) k 0 (omega (arith, mul-sub size end first)) ∙ get_or-drop (size * first) t k 0

  pub run-word : (j k : ℕ) → j < end - first → k ≤ 12 → be32 (run size t first end) (size * j + k) ≡ be32 t (size * (first + j) + k)
  unfolding be32
  run-word j k h l =
      let e : size * (first + j) + k ≡ size * first + (size * j + k) = omega (arith, mul-add size first j) in
      let m : size * (end - first) / size ≡ end - first = as_many size (end - first) (omega arith) in
      let f = start_fits size j (size * (end - first)) (omega arith) (rw m h) in
      let b = run-byte in
      let e1 : size * first + (size * j + k) + 1 ≡ size * first + (size * j + k + 1) = omega arith in
      let e2 : size * first + (size * j + k) + 2 ≡ size * first + (size * j + k + 2) = omega arith in
      let e3 : size * first + (size * j + k) + 3 ≡ size * first + (size * j + k + 3) = omega arith in
      rw (e, e1, e2, e3, b (size * j + k) (omega arith), b (size * j + k + 1) (omega arith), b (size * j + k + 2) (omega arith), b (size * j + k + 3) (omega arith))

  run-start : (j : ℕ) → j < end - first → be32 (run size t first end) (size * j) ≡ be32 t (size * (first + j))
  run-start j h =
      let a : size * j + 0 ≡ size * j = omega arith in
      let b : size * (first + j) + 0 ≡ size * (first + j) = omega arith in
      rw (a, b) at (run-word j 0 h (omega arith))

  -- the record j of the run is the record first + j of the table
  pub run-hop : (j : ℕ) → j < end - first → hop_at size (run size t first end) j ≡ hop_at size t (first + j)
  unfolding hop_at
  run-hop j h = rw (run-start j h, run-word j 4 h (omega arith), run-word j 8 h (omega arith), run-word j 12 h (omega arith))

-- of walks, which have 16 bytes
pub run-walk : (t : List ℕ) (first end : ℕ) → first ≤ end → end ≤ records_in 16 t → (j : ℕ) → j < end - first → walk_at (run 16 t first end) j ≡ walk_at t (first + j)
unfolding walk_at
run-walk t first end order inside j h =
    let w : 16 ≤ 16 = omega arith in
    rw (run-start 16 w t first end order inside j h, run-word 16 w t first end order inside j 4 h (omega arith), run-word 16 w t first end order inside j 8 h (omega arith), run-word 16 w t first end order inside j 12 h (omega arith))
