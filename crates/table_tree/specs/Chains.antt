-- Bucket chains: the used slots of a bucket in descending order, each naming the next lower one and the last one itself.
use Rattle.std.specs.Prelude.{Option, MatchOption, ◌≡◌, ◌≢◌, ◌⊎◌, List, ℕ, ◌<◌, ◌≤◌, length, set}
use Rattle.table_bytes.specs.Columns.{Cols, at}
use Rattle.table_tree.specs.Words.{vacant, vertex_in, bucket_of}

-- slot t is used and in bucket k, where m is the mask of the buckets
abbrev pub Mem : ℕ → ℕ → List ℕ → ℕ → ℕ → Type 0
Mem cap m W k t = (t < cap) × (at W t ≢ vacant) × (bucket_of m (vertex_in (at W t)) ≡ k)

-- n is behind s: the greatest member below s, or s where there is none
pub record Step (M : ℕ → Type 0) (s n : ℕ) : Type 0 where
  pub down : n ≤ s
  pub mem : n < s → M n
  pub skip : (t : ℕ) → M t → t < s → (t ≤ n) × (n < s)

-- M k t: slot t is in bucket k; H k is the first of the bucket, N s is behind s
pub record Chain (M : ℕ → ℕ → Type 0) (H N : ℕ → ℕ) : Type 0 where
  pub first : (k t : ℕ) → M k t → M k (H k) × (t ≤ H k)
  pub step : (k s : ℕ) → M k s → Step (M k) s (N s)

-- The heads and nexts are the chains of the words W. The head of an empty bucket may be anything.
pub record Chained (cap m : ℕ) (W H N : List ℕ) : Type 0 where
  pub mask : m < length H
  pub chain : Chain (Mem cap m W) (at H) (at N)

-- slot s has the vertex u
pub record At (cap : ℕ) (W : List ℕ) (u s : ℕ) : Type 0 where
  pub low : s < cap
  pub used : at W s ≢ vacant
  pub vertex : vertex_in (at W s) ≡ u

abbrev pub Missing : ℕ → List ℕ → ℕ → Type 0
Missing cap W u = (t : ℕ) → t < cap → at W t ≢ vacant → vertex_in (at W t) ≢ u

-- the slot of the vertex u, or cap
abbrev pub Slot : ℕ → List ℕ → ℕ → ℕ → Type 0
Slot cap W u x = At cap W u x ⊎ ((x ≡ cap) × Missing cap W u)

-- the first slot of the bucket k, if it has one
abbrev pub First : ℕ → ℕ → List ℕ → ℕ → Option ℕ → Type 0
First cap m W k r = MatchOption r ((t : ℕ) → Mem cap m W k t → ⊥) (λ x. Mem cap m W k x × ((t : ℕ) → Mem cap m W k t → t ≤ x))

-- p is the last slot above s in the bucket k
pub record Before (cap m : ℕ) (W N : List ℕ) (k s p : ℕ) : Type 0 where
  pub mem : Mem cap m W k p
  pub above : s < p
  pub gap : at N p < p → at N p ≤ s

-- the chains of d are those of c with the word w in slot s, which is not written yet
pub record Linked (cap m s w : ℕ) (c d : Cols) : Type 0 where
  pub same_w : d.w ≡ c.w
  pub same_t : d.t ≡ c.t
  pub chained : Chained cap m (set c.w s w) d.h d.n
  pub rest : (x : ℕ) → x ≢ s → at c.w x ≡ vacant → at d.n x ≡ at c.n x
