-- What the scratch holds while departing records are counted. Assumes nothing.
use Rattle.std.specs.Prelude.{◌≡◌, ◌⊎◌, ◌≢◌, List, ℕ, ◌+◌, ◌*◌, ◌/◌, ◌≤◌, ◌<◌, min, max, get_or}
use Rattle.records.specs.Columns.{records_in, from_at}

-- nothing changed but from `low` up to `high`
abbrev pub Outside : ℕ → ℕ → List ℕ → List ℕ → Type 0
Outside low high s s' = (k : ℕ) → (k < low) ⊎ (high ≤ k) → get_or s' k 0 ≡ get_or s k 0

-- the range at a place reaches q and what it reached before
pub record Near (s s' : List ℕ) (at q : ℕ) : Type 0 where
  pub low : get_or s' at 0 ≡ min (get_or s at 0) q
  pub high : get_or s' (at + 1) 0 ≡ max (get_or s (at + 1) 0) q
  pub others : (k : ℕ) → k ≢ at → k ≢ at + 1 → get_or s' k 0 ≡ get_or s k 0

-- every "from" is a vertex
abbrev pub Low : ℕ → List ℕ → Type 0
Low size t = (i : ℕ) → i < records_in size t → from_at size t i < 65536

-- each of the first n records of a table is in the range of the block of its "from"
abbrev pub place : ℕ → ℕ → ℕ
place at from = at + 2 * (from / 1904)

abbrev pub Noted : ℕ → List ℕ → ℕ → ℕ → List ℕ → Type 0
Noted size t at n s = (i : ℕ) → i < n → (get_or s (place at (from_at size t i)) 0 ≤ i / 4) × (i / 4 ≤ get_or s (place at (from_at size t i) + 1) 0)

-- the records of a range, of n in all
abbrev pub range_end : List ℕ → ℕ → ℕ → ℕ
range_end s at n = min (4 * get_or s (at + 1) 0 + 4) n

abbrev pub range_start : List ℕ → ℕ → ℕ → ℕ
range_start s at n = min (4 * get_or s at 0) (range_end s at n)

-- the records that leave one of `len` vertices from `base` on stand from `start` up to `end`
abbrev pub Inside : ℕ → List ℕ → ℕ → ℕ → ℕ → ℕ → Type 0
Inside size t start end base len = (i k : ℕ) → i < records_in size t → k < len → from_at size t i ≡ base + k → (start ≤ i) × (i < end)

-- `len` counters of the numbers `all`, which stop at 65,535; `low` is the first that has passed it, or `len`
pub record Counted (len low : ℕ) (s : List ℕ) (all : ℕ → ℕ) : Type 0 where
  pub within : low ≤ len
  pub stopped : (k : ℕ) → k < len → get_or s k 0 ≡ min (all k) 65535
  pub exact : (k : ℕ) → k < low → all k ≤ 65535
  pub passed : low < len → 65535 < all low
