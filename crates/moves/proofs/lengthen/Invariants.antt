use mathlib.Core.Path.{◌≡◌}
use mathlib.Core.List.{List, ◌++◌}
use Prim.Native.Nat.{ℕ, ◌/◌, ◌≤◌}
use lib.ListN.{length}
use Rattle.journeys.specs.Counting.{joined}
use Rattle.journeys.specs.Bytes.{word}
use Rattle.words.specs.Written.{written}
use Rattle.moves.specs.Moved.{common}
use Rattle.moves.proofs.lengthen.Given as goal

-- a record with its trip
abbrev pub row : List ℕ → ℕ → List ℕ
row b i = common 16 b i ++ word 0

abbrev pub invariant-loop-i : goal.invariant-loop-i
invariant-loop-i l =
    (l.i ≤ l.n) × (l.n ≡ length l.source / 16) × (length l.target ≡ length l.initial.target) × (l.target ≡ written l.initial.target 0 (joined (row l.source) l.i))
