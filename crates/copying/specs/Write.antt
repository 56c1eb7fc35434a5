-- Bytes written into a lent buffer. Assumes nothing.
use Rattle.std.specs.Prelude.{◌≡◌, List, ◌++◌, ℕ, ◌+◌, length, drop}
use Rattle.words.specs.Written.{written}

-- the buffer with these bytes at its front, its rest untouched
unfoldable pub over : List ℕ → List ℕ → List ℕ
over bytes d = bytes ++ drop (length bytes) d

-- d' is d with these bytes written at a place, and r the place behind them
pub record Wrote (d : List ℕ) (at : ℕ) (bytes d' : List ℕ) (r : ℕ) : Type 0 where
  pub exit : d' ≡ written d at bytes
  pub next : r ≡ at + length bytes
