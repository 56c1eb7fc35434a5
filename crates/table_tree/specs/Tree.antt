-- The winner tree over the words: node q is above the nodes 2 q and 2 q + 1, leaf cap + i is slot i, and a node holds the slot of the least word below it.
use Rattle.std.specs.Prelude.{◌≡◌, ◌⊎◌, List, ℕ, ◌+◌, ◌*◌, ◌/◌, ◌%◌, ◌<◌, ◌≤◌, set}
use Rattle.table_bytes.specs.Columns.{Cols, at}
use Rattle.table_tree.specs.Words.{key, vacant}

-- q is p or above it
pub data Anc (q : ℕ) : ℕ → Type 0 where
  self : Anc q q
  up : {p : ℕ} → Anc q (p / 2) → Anc q p

-- each node holds a slot that is below it
pub record Shape (cap : ℕ) (T : List ℕ) : Type 0 where
  pub leaf : (i : ℕ) → i < cap → at T (cap + i) ≡ i
  pub low : (q : ℕ) → 1 ≤ q → q < 2 * cap → at T q < cap
  pub under : (q : ℕ) → 1 ≤ q → q < 2 * cap → Anc q (cap + at T q)

-- of the slots x and y the slot z has the least word, by what the tree compares
abbrev pub Wins : List ℕ → ℕ → ℕ → ℕ → Type 0
Wins W x y z = (key (at W z) ≤ key (at W x)) × (key (at W z) ≤ key (at W y)) × ((z ≡ x) ⊎ (z ≡ y))

-- node q holds the winner of the two below it
abbrev pub Ok : List ℕ → List ℕ → ℕ → Type 0
Ok W T q = Wins W (at T (2 * q)) (at T (2 * q + 1)) (at T q)

pub record Win (cap : ℕ) (W T : List ℕ) : Type 0 where
  pub shape : Shape cap T
  pub ok : (q : ℕ) → 1 ≤ q → q < cap → Ok W T q

-- all but the tree is as it was
pub record Kept (c d : Cols) : Type 0 where
  pub w : d.w ≡ c.w
  pub h : d.h ≡ c.h
  pub n : d.n ≡ c.n

-- slot i has the word x, the chains stand still, and the tree is in order
pub record Changed (cap i x : ℕ) (c d : Cols) : Type 0 where
  pub w : d.w ≡ set c.w i x
  pub h : d.h ≡ c.h
  pub n : d.n ≡ c.n
  pub win : Win cap d.w d.t

-- the slots from `from` up to i are vacant, and each names the next one as its successor; all else is as it was
pub record Spared (from i : ℕ) (c d : Cols) : Type 0 where
  pub words : (j : ℕ) → from ≤ j → j < i → at d.w j ≡ vacant
  pub nexts : (j : ℕ) → from ≤ j → j < i → at d.n j ≡ (j + 1) % 65536
  pub old_words : (j : ℕ) → j < from → at d.w j ≡ at c.w j
  pub old_nexts : (j : ℕ) → j < from → at d.n j ≡ at c.n j
  pub h : d.h ≡ c.h
  pub t : d.t ≡ c.t

-- the leaves of a tree over cap slots, of which the first i are set
abbrev pub Leaves : ℕ → ℕ → List ℕ → Type 0
Leaves cap i T = (j : ℕ) → j < i → at T (cap + j) ≡ j
