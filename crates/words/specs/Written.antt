-- Bytes written into a buffer. Assumes nothing.
use Rattle.std.specs.Prelude.{List, ◌++◌, ℕ, ◌+◌, length, take, drop}

-- a buffer with these bytes in the place of as many from `at` on
unfoldable pub written : List ℕ → ℕ → List ℕ → List ℕ
written b at bytes = take at b ++ bytes ++ drop (at + length bytes) b
