-- The vertices judged block by block. Assumes nothing.
use mathlib.Core.Path.{◌≡◌, sym, ap, ◌∙◌}
use mathlib.Core.Logic.{⊎_elim, ◌≢◌}
use mathlib.Core.Bool.{true, false, ◌&&◌}
use mathlib.Core.List.{List}
use Prim.Native.Nat.{ℕ, ◌+◌, ◌-◌, ◌*◌, ◌/◌, ◌≤◌, ◌<◌, min}
use native.Mathlib.Nat.{zero-add}
use native.Mathlib.Omega.{arith}
use lib.Dec.{eqb}
use lib.ListN.{length, get_or}
use borrow.Author.Tests.{ne_eqb}
use Rattle.journeys.specs.Bytes.{be16}
use Rattle.journeys.specs.Tables.{Tables, vertex_at, tables_of}
use Rattle.journeys.specs.Records.{departing}
use Rattle.journeys.specs.Refusals.{fine, or_else, vertex_ok, first_from}
use Rattle.journeys.proofs.Tests.{and_left, and_right, le-or-lt}
use Rattle.records.specs.Columns.{leaving, arriving_below}
use Rattle.records.proofs.Columns.{departing-is}
use Rattle.records.proofs.Judged.{vertex-ok}
use Rattle.audit.specs.Judging.{vertex_refusals}
use Rattle.departing.specs.Scratch.{Counted}
use Rattle.journeys.proofs.Refusals.{or-next, or-first, from-none, unless-good}
use Rattle.audit.proofs.Scan.{refusing, same_number, scan-append, scan-stop, scan-end}

-- ---- the counters are the departing records
module _ (size : ℕ) (v w h s : List ℕ) (len low base : ℕ) (c : Counted len low s (λ k. leaving 16 w (base + k) + leaving size h (base + k))) where
  pub departs-exact : (k : ℕ) → k < low → get_or s k 0 ≡ departing (tables_of size v w h) (base + k)
  departs-exact k l =
      omega (arith, departing-is size v w h (base + k), c.stopped k (omega (arith, c.within)), c.exact k l)

  -- a vertex with more of them than its field can say
  pub departs-over : low < len → base + low < length v / 12 → ((i : ℕ) → get_or v i 0 < 256) → vertex_ok (tables_of size v w h) (base + low) ≡ false
  unfolding vertex_at be16
  departs-over l n bytes =
      let x = base + low in
      let f = vertex_at v x in
      let wrong : eqb f.departing (departing (tables_of size v w h) x) ≡ false =
      ne_eqb f.departing (departing (tables_of size v w h) x)
      (λ (e : f.departing ≡ departing (tables_of size v w h) x).
      omega (arith, departing-is size v w h x, c.passed l, bytes (12 * x + 8), bytes (12 * x + 8 + 1))) in
      vertex-ok size v w h x n
      ∙ and_left (eqb f.zeros 0) (and_right (eqb f.first_walk (arriving_below 16 w x) && eqb f.first_hop (arriving_below size h x)) wrong)

-- ---- a block of which the first vertices are judged
module _ (N : Tables) (low len base : ℕ) (h : low ≤ len) where
  split-block : vertex_refusals N len base ≡ or_else (vertex_refusals N low base) (vertex_refusals N (len - low) (base + low))
  unfolding vertex_refusals
  split-block =
      let e : low + (len - low) ≡ len = omega arith in
      ap (λ (n : ℕ). first_from (refusing 6 (vertex_ok N)) n base) (sym e) ∙ scan-append (refusing 6 (vertex_ok N)) low (len - low) base

  pub block-found : (vertex_refusals N low base).number ≢ 0 → vertex_refusals N low base ≡ vertex_refusals N len base
  block-found n = sym (split-block ∙ or-first (vertex_refusals N low base) (vertex_refusals N (len - low) (base + low)) n)

  pub block-passed : (vertex_refusals N low base).number ≡ 0 → low < len → vertex_ok N (base + low) ≡ false → record { number = 6; place = base + low } ≡ vertex_refusals N len base
  unfolding vertex_refusals
  block-passed z l bad =
      sym (split-block ∙ or-next (vertex_refusals N low base) (vertex_refusals N (len - low) (base + low)) z
      ∙ scan-stop 6 (vertex_ok N) (len - low) (len - low - 1) (base + low) (omega arith) (omega arith) bad)

-- ---- vertices that are good: all of them, and the first m of n
pub all-good : (N : Tables) (n : ℕ) → ((v : ℕ) → v < n → vertex_ok N v ≡ true) → vertex_refusals N n 0 ≡ fine
unfolding vertex_refusals
all-good N n ok = from-none (refusing 6 (vertex_ok N)) n 0 (λ k a b. same_number (unless-good (vertex_ok N k) 6 k (ok k (omega arith))))

pub good-before : (N : Tables) (m n : ℕ) → m ≤ n → ((v : ℕ) → v < m → vertex_ok N v ≡ true) → vertex_refusals N (n - m) m ≡ vertex_refusals N n 0
good-before N m n l ok =
    sym (split-block N m n 0 l ∙ or-next (vertex_refusals N m 0) (vertex_refusals N (n - m) (0 + m)) (same_number (all-good N m ok)) ∙ ap (vertex_refusals N (n - m)) (zero-add m))

-- ---- one block more, of n vertices in all
module _ (N : Tables) (n g : ℕ) where
  abbrev some : ℕ
  some = min 1904 (n - 1904 * g)

  cut : vertex_refusals N (n - 1904 * g) (1904 * g) ≡ or_else (vertex_refusals N some (1904 * g)) (vertex_refusals N (n - 1904 * g - some) (1904 * g + some))
  unfolding vertex_refusals
  cut =
      let e : some + (n - 1904 * g - some) ≡ n - 1904 * g = omega arith in
      ap (λ (k : ℕ). first_from (refusing 6 (vertex_ok N)) k (1904 * g)) (sym e)
      ∙ scan-append (refusing 6 (vertex_ok N)) some (n - 1904 * g - some) (1904 * g)

  pub block-refuses : (vertex_refusals N some (1904 * g)).number ≢ 0 → vertex_refusals N some (1904 * g) ≡ vertex_refusals N (n - 1904 * g) (1904 * g)
  block-refuses q = sym (cut ∙ or-first (vertex_refusals N some (1904 * g)) (vertex_refusals N (n - 1904 * g - some) (1904 * g + some)) q)

  pub block-good : (vertex_refusals N some (1904 * g)).number ≡ 0 → vertex_refusals N (n - 1904 * (g + 1)) (1904 * (g + 1)) ≡ vertex_refusals N (n - 1904 * g) (1904 * g)
  unfolding vertex_refusals
  block-good q =
      sym (cut ∙ or-next (vertex_refusals N some (1904 * g)) (vertex_refusals N (n - 1904 * g - some) (1904 * g + some)) q ∙ next)
    where
      next : vertex_refusals N (n - 1904 * g - some) (1904 * g + some) ≡ vertex_refusals N (n - 1904 * (g + 1)) (1904 * (g + 1))
      next =
          ⊎_elim (λ (l : 1904 ≤ n - 1904 * g).
          let a : n - 1904 * g - some ≡ n - 1904 * (g + 1) = omega arith in
          let b : 1904 * g + some ≡ 1904 * (g + 1) = omega arith in
          rw (a, b))
          (λ (l : n - 1904 * g < 1904).
          scan-end 6 (vertex_ok N) (n - 1904 * g - some) (1904 * g + some) (omega arith)
          ∙ sym (scan-end 6 (vertex_ok N) (n - 1904 * (g + 1)) (1904 * (g + 1)) (omega arith)))
          (le-or-lt 1904 (n - 1904 * g))
