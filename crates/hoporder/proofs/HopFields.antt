-- The fields of a hop's record, which of two records is the greater, and the bytes of a hop. Assumes nothing.
use mathlib.Core.Path.{◌≡◌, refl, sym, ap, ap₂, ◌∙◌}
use mathlib.Core.List.{List, [], ◌∷◌, ◌++◌, map}
use Prim.Native.Nat.{ℕ, zero, suc, ◌+◌, ◌*◌, ◌/◌, ◌%◌, ◌<◌, ◌≤◌, ◌^◌}
use native.Mathlib.Nat.{not-suc-le-zero}
use native.Mathlib.Omega.{arith}
use lib.ListN.{length, get_or, length-map}
use Rattle.journeys.specs.Bytes.{word}
use Rattle.table_bytes.specs.Columns.{at, dec}
use Rattle.table_bytes.proofs.Access.{col-length}
use Rattle.sorting.specs.Sorted.{recs, sorted}
use Rattle.sorting.proofs.Arranged.{sorted-from}
use Rattle.sorting.proofs.Digits.{Bytes, high-at}
use Rattle.feed.specs.Stops.{Stop}
use Rattle.feed.specs.Trips.{stop, no_stop, hop}
use Rattle.succession.specs.Entries.{stop_in, stops_in}
use Rattle.succession.proofs.OrderLaws.{stop-at}
use Rattle.connections.specs.Gathered.{hop_entry}
use Rattle.hoporder.specs.Named.{stop_named, stops_named}
use Rattle.hoporder.specs.Hops.{Placed, hop_out}

-- ---- records that fit
pub record Small (s : Stop) : Type 0 where
  pub line : s.line < 2 ^ 32
  pub trip : s.trip < 2 ^ 32
  pub vertex : s.vertex < 2 ^ 24
  pub arrival : s.arrival < 2 ^ 18
  pub departure : s.departure < 2 ^ 18

in-record : (x : ℕ) → (stop_in x).trip < 2 ^ 32 → Small (stop_in x)
in-record x h = record { line = one (x / 2 ^ 64 % 2 ^ 64); trip = h; vertex = two x; arrival = three (x % 2 ^ 64 / 2 ^ 18); departure = three (x % 2 ^ 64) }
  where
    one : (y : ℕ) → y % 2 ^ 32 < 2 ^ 32
    one y = omega arith

    two : (y : ℕ) → y % 2 ^ 64 / 2 ^ 40 < 2 ^ 24
    two y = omega arith

    three : (y : ℕ) → y % 2 ^ 18 < 2 ^ 18
    three y = omega arith

pub small : (W : List ℕ) → Placed W → (p : ℕ) → p < length W → Small (stop (stops_in W) p)
small W f p h = rw (stop-at W p) (in-record (at W p) (f p h))

pub placed-sorted : (W : List ℕ) → Placed W → Placed (sorted W)
placed-sorted W f i h = let r = (sorted-from W).found i h in rw r.2 (f r.0 r.1)

-- a record has 20 bytes
pub placed : (n : ℕ) (b : List ℕ) → Bytes b → Placed (recs n b)
placed n b f i h = rw (← high-at b f n i (long h)) (four (20 * i + 16))
  where
    long : i < length (recs n b) → i < n
    long l = rw (col-length 20 n b 0) at l

    four : (p : ℕ) → dec 4 b p < 2 ^ 32
    four p = omega (arith, f p, f (p + 1), f (p + 1 + 1), f (p + 1 + 1 + 1))

-- ---- the parts of a record
module _ (low y : ℕ) (l : low < 2 ^ 64) where
  rest : (low + 2 ^ 64 * y) % 2 ^ 64 ≡ low
  rest = omega arith

  quotient : (low + 2 ^ 64 * y) / 2 ^ 64 ≡ y
  quotient = omega arith

low_fits : (f l a : ℕ) → f < 2 ^ 24 → l < 2 ^ 18 → a < 2 ^ 18 → f * 2 ^ 36 + l * 2 ^ 18 + a < 2 ^ 64
low_fits f l a p q r = omega arith

middle-fits : (m t : ℕ) → m < 2 ^ 32 → t < 2 ^ 32 → m * 2 ^ 32 + t < 2 ^ 64
middle-fits m t p q = omega arith

module _ (S : List Stop) (p i : ℕ) (a : Small (stop S p)) (b : Small (stop S i)) where
  low_part : ℕ
  low_part = (stop S p).vertex * 2 ^ 36 + (stop S p).departure * 2 ^ 18 + (stop S i).arrival

  middle_part : ℕ
  middle_part = (stop S p).line * 2 ^ 32 + (stop S p).trip

  low_small : low_part < 2 ^ 64
  unfolding low_part
  low_small = low_fits (stop S p).vertex (stop S p).departure (stop S i).arrival a.vertex a.departure b.arrival

  middle-small : middle_part < 2 ^ 64
  unfolding middle_part
  middle-small = middle-fits (stop S p).line (stop S p).trip a.line a.trip

  entry-is : hop_entry S p i ≡ low_part + 2 ^ 64 * (middle_part + 2 ^ 64 * (stop S i).vertex)
  unfolding hop_entry low_part middle_part
  entry-is = refl

  entry-low : hop_entry S p i % 2 ^ 64 ≡ low_part
  entry-low = ap (λ (x : ℕ). x % 2 ^ 64) entry-is ∙ rest low_part (middle_part + 2 ^ 64 * (stop S i).vertex) low_small

  entry-above : hop_entry S p i / 2 ^ 64 ≡ middle_part + 2 ^ 64 * (stop S i).vertex
  entry-above = ap (λ (x : ℕ). x / 2 ^ 64) entry-is ∙ quotient low_part (middle_part + 2 ^ 64 * (stop S i).vertex) low_small

  entry-middle : hop_entry S p i / 2 ^ 64 % 2 ^ 64 ≡ middle_part
  entry-middle = ap (λ (x : ℕ). x % 2 ^ 64) entry-above ∙ rest middle_part (stop S i).vertex middle-small

  pub entry-to : hop_entry S p i / 2 ^ 64 / 2 ^ 64 ≡ (stop S i).vertex
  entry-to = ap (λ (x : ℕ). x / 2 ^ 64) entry-above ∙ quotient middle_part (stop S i).vertex middle-small

  pub entry-line : hop_entry S p i / 2 ^ 64 % 2 ^ 64 / 2 ^ 32 ≡ (stop S p).line
  unfolding middle_part
  entry-line = ap (λ (x : ℕ). x / 2 ^ 32) entry-middle ∙ part (stop S p).line (stop S p).trip a.trip
    where
      part : (m t : ℕ) → t < 2 ^ 32 → (m * 2 ^ 32 + t) / 2 ^ 32 ≡ m
      part m t h = omega arith

  pub entry-trip : hop_entry S p i / 2 ^ 64 % 2 ^ 64 % 2 ^ 32 ≡ (stop S p).trip
  unfolding middle_part
  entry-trip = ap (λ (x : ℕ). x % 2 ^ 32) entry-middle ∙ part (stop S p).line (stop S p).trip a.trip
    where
      part : (m t : ℕ) → t < 2 ^ 32 → (m * 2 ^ 32 + t) % 2 ^ 32 ≡ t
      part m t h = omega arith

  pub entry-from : hop_entry S p i % 2 ^ 64 / 2 ^ 36 ≡ (stop S p).vertex
  unfolding low_part
  entry-from = ap (λ (x : ℕ). x / 2 ^ 36) entry-low ∙ part (stop S p).vertex (stop S p).departure (stop S i).arrival a.departure b.arrival
    where
      part : (f l r : ℕ) → l < 2 ^ 18 → r < 2 ^ 18 → (f * 2 ^ 36 + l * 2 ^ 18 + r) / 2 ^ 36 ≡ f
      part f l r h k = omega arith

  pub entry-left : hop_entry S p i % 2 ^ 64 / 2 ^ 18 % 2 ^ 18 ≡ (stop S p).departure
  unfolding low_part
  entry-left = ap (λ (x : ℕ). x / 2 ^ 18 % 2 ^ 18) entry-low ∙ part (stop S p).vertex (stop S p).departure (stop S i).arrival a.departure b.arrival
    where
      part : (f l r : ℕ) → l < 2 ^ 18 → r < 2 ^ 18 → (f * 2 ^ 36 + l * 2 ^ 18 + r) / 2 ^ 18 % 2 ^ 18 ≡ l
      part f l r h k = omega arith

  pub entry-reached : hop_entry S p i % 2 ^ 64 % 2 ^ 18 ≡ (stop S i).arrival
  unfolding low_part
  entry-reached = ap (λ (x : ℕ). x % 2 ^ 18) entry-low ∙ part (stop S p).vertex (stop S p).departure (stop S i).arrival b.arrival
    where
      part : (f l r : ℕ) → r < 2 ^ 18 → (f * 2 ^ 36 + l * 2 ^ 18 + r) % 2 ^ 18 ≡ r
      part f l r k = omega arith

-- ---- which of two records is the greater
less-by-last : (x y : ℕ) → x / 2 ^ 64 < y / 2 ^ 64 → x < y
less-by-last x y h = omega arith

less-middle : (x y : ℕ) → x / 2 ^ 64 ≡ y / 2 ^ 64 → x % 2 ^ 64 / 2 ^ 32 < y % 2 ^ 64 / 2 ^ 32 → x < y
less-middle x y e h = omega arith

pub by-to : (x y : ℕ) → x / 2 ^ 64 / 2 ^ 64 < y / 2 ^ 64 / 2 ^ 64 → x < y
by-to x y h = less-by-last x y (less-by-last (x / 2 ^ 64) (y / 2 ^ 64) h)

pub by-line : (x y : ℕ) → x / 2 ^ 64 / 2 ^ 64 ≡ y / 2 ^ 64 / 2 ^ 64 → x / 2 ^ 64 % 2 ^ 64 / 2 ^ 32 < y / 2 ^ 64 % 2 ^ 64 / 2 ^ 32 → x < y
by-line x y e h = less-by-last x y (less-middle (x / 2 ^ 64) (y / 2 ^ 64) e h)

pub entry-same : (S T : List Stop) (p i q k : ℕ) → stop S p ≡ stop T q → stop S i ≡ stop T k → hop_entry S p i ≡ hop_entry T q k
unfolding hop_entry
entry-same S T p i q k e f = ap₂ (λ (x y : Stop). (x.vertex * 2 ^ 36 + x.departure * 2 ^ 18 + y.arrival) + 2 ^ 64 * ((x.line * 2 ^ 32 + x.trip) + 2 ^ 64 * y.vertex)) e f

-- ---- the bytes of a hop
get_d-map-in : (f : ℕ → Stop) (l : List ℕ) (i : ℕ) → i < length l → get_or (map f l) i no_stop ≡ f (at l i)
get_d-map-in f [] i h = absurd (not-suc-le-zero h)
get_d-map-in f (x ∷ l) zero h = refl
get_d-map-in f (x ∷ l) (suc i) h = get_d-map-in f l i (omega arith)

module _ (number trip_of : ℕ → ℕ) (W : List ℕ) where
  pub named-at : (i : ℕ) → i < length W → stop (stops_named number trip_of W) i ≡ stop_named number trip_of (at W i)
  named-at i h = get_d-map-in (stop_named number trip_of) W i h

  pub named-length : length (stops_named number trip_of W) ≡ length W
  named-length = length-map W (stop_named number trip_of)

  module _ (f : Placed W) (p i : ℕ) (h : p < length W) (k : i < length W) where
    pub hop-out : hop_out trip_of (hop_entry (stops_in W) p i) ≡ hop (stops_named number trip_of W) p i
    unfolding hop_out hop
    hop-out =
        let a = small W f p h in
        let b = small W f i k in
        rw (entry-from (stops_in W) p i a b, entry-to (stops_in W) p i a b, entry-left (stops_in W) p i a b, entry-reached (stops_in W) p i a b, entry-trip (stops_in W) p i a b, named-at p h, named-at i k, stop-at W p, stop-at W i)
