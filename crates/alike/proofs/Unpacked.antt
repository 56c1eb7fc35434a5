-- A record that is made from a stop has its fields. Assumes nothing.
use mathlib.Core.Path.{◌≡◌, refl, sym, ap, ap₂, subst, ◌∙◌}
use mathlib.Core.Bool.{Bool, true, false}
use mathlib.Core.List.{List, [], ◌∷◌, map}
use Prim.Native.Nat.{ℕ, zero, suc, ◌+◌, ◌-◌, ◌*◌, ◌/◌, ◌%◌, ◌≤◌, ◌<◌, ◌^◌}
use native.Mathlib.Omega.{arith}
use lib.Dec.{eqb}
use lib.ListN.{length, get_or}
use lib.Seq.{ext_get_or}
use Rattle.journeys.specs.Counting.{one}
use Rattle.table_bytes.specs.Columns.{at}
use Rattle.feed.specs.Stops.{Stop}
use Rattle.feed.specs.Trips.{stop, no_stop}
use Rattle.succession.specs.Entries.{stop_in, stops_in}
use Rattle.succession.proofs.OrderLaws.{stop-at, stops-length}
use Rattle.stoplist.specs.Made.{packed}

-- a stop whose fields fit
pub record Fits (s : Stop) : Type 0 where
  pub line : s.line < 2 ^ 32
  pub sequence : s.sequence < 2 ^ 32
  pub vertex : s.vertex < 2 ^ 24
  pub arrival : s.arrival < 2 ^ 18
  pub departure : s.departure < 2 ^ 18
  pub number : s.trip_number ≡ 0

lower : (a b : ℕ) → a < 2 ^ 64 → ((a + 2 ^ 64 * b) % 2 ^ 64 ≡ a) × ((a + 2 ^ 64 * b) / 2 ^ 64 ≡ b)
lower a b h = (omega arith, omega arith)

middle : (s l : ℕ) → s < 2 ^ 32 → l < 2 ^ 32 → (s * 2 ^ 32 + l < 2 ^ 64) × ((s * 2 ^ 32 + l) % 2 ^ 32 ≡ l) × ((s * 2 ^ 32 + l) / 2 ^ 32 ≡ s)
middle s l h k = (omega arith, omega arith, omega arith)

low : (v o a d : ℕ) → v < 2 ^ 24 → o ≤ 1 → a < 2 ^ 18 → d < 2 ^ 18
    → (v * 2 ^ 40 + o * 2 ^ 36 + a * 2 ^ 18 + d < 2 ^ 64)
    × ((v * 2 ^ 40 + o * 2 ^ 36 + a * 2 ^ 18 + d) / 2 ^ 40 ≡ v)
    × ((v * 2 ^ 40 + o * 2 ^ 36 + a * 2 ^ 18 + d) / 2 ^ 36 % 2 ≡ o)
    × ((v * 2 ^ 40 + o * 2 ^ 36 + a * 2 ^ 18 + d) / 2 ^ 18 % 2 ^ 18 ≡ a)
    × ((v * 2 ^ 40 + o * 2 ^ 36 + a * 2 ^ 18 + d) % 2 ^ 18 ≡ d)
low v o a d h k m n = (omega arith, omega arith, omega arith, omega arith, omega arith)

one-least : (t : Bool) → one t ≤ 1
one-least true = omega arith
one-least false = omega arith

one-is : (t : Bool) → eqb (one t) 1 ≡ t
one-is true = refl
one-is false = refl

pub unpacked : (s : Stop) → Fits s → stop_in (packed s) ≡ s
unpacked s f =
    let t = low s.vertex (one s.timed) s.arrival s.departure f.vertex (one-least s.timed) f.arrival f.departure in
    let m = middle s.sequence s.line f.sequence f.line in
    let times = s.vertex * 2 ^ 40 + one s.timed * 2 ^ 36 + s.arrival * 2 ^ 18 + s.departure in
    let mid = s.sequence * 2 ^ 32 + s.line in
    let a = lower times (mid + 2 ^ 64 * s.trip) t.0 in
    let b = lower mid s.trip m.0 in
    let n = f.number in
    rw (a.0, a.1, b.0, b.1, t.1, t.2, t.3, t.4, m.1, m.2, one-is s.timed, sym n) refl

-- records that were made from stops one by one are these stops
pub all-unpacked : (l : List ℕ) (E : List Stop) → length l ≡ length E → ((i : ℕ) → i < length E → Fits (get_or E i no_stop)) → ((i : ℕ) → i < length E → at l i ≡ packed (get_or E i no_stop)) → stops_in l ≡ E
all-unpacked l E e f g =
    ext_get_or no_stop (stops_in l) E (stops-length l ∙ e) (λ i h.
    let k : i < length E = omega (arith, h, stops-length l, e) in
    stop-at l i ∙ ap stop_in (g i k) ∙ unpacked (get_or E i no_stop) (f i k))
