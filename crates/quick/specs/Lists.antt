-- What the counters and the list of `tally` hold while claims are laid and records take off. Assumes nothing.
use Rattle.std.specs.Prelude.{◌≡◌, ℕ, ◌+◌, ◌*◌, ◌<◌, List}
use Rattle.tally.specs.Laid.{listed, times, Laid}

-- the first n numbers of the list are claims, each of at most 65,535
abbrev pub Claims : (ℕ → ℕ) → ℕ → List ℕ → Type 0
Claims claim n s = (j : ℕ) → j < n → (listed s j ≡ claim j) × (claim j < 65536)

-- `groups` groups of claims are laid, none of them taken yet
pub record Claimed (claim : ℕ → ℕ) (groups words : ℕ) (s : List ℕ) : Type 0 where
  pub small : (k : ℕ) → k < 64 * groups → claim k < 65536
  pub laid : Laid groups words claim (λ _. 0) s

-- the first n numbers of the list name counters below `len`, and take the counts from a to b
pub record Listed (len n : ℕ) (s : List ℕ) (a b : ℕ → ℕ) : Type 0 where
  pub inside : (j : ℕ) → j < n → listed s j < len
  pub sum : (k : ℕ) → k < len → a k + times s n k ≡ b k

-- `more k` is taken off each counter k of `groups` groups
abbrev pub Takes : ℕ → (ℕ → ℕ) → List ℕ → List ℕ → Type 0
Takes groups more s s' =
    (words : ℕ) (claims taken : ℕ → ℕ) → Laid groups words claims taken s → Laid groups words claims (λ k. taken k + more k) s'

-- the first n numbers of the list wait to be taken off, and `all` has been taken off since `start` then
pub record Waiting (groups n : ℕ) (all : ℕ → ℕ) (start s : List ℕ) : Type 0 where
  pub before : ℕ → ℕ
  pub takes : Takes groups before start s
  pub list : Listed (64 * groups) n s before all
