use mathlib.Core.Logic.{◌⊎◌}
use Prim.Native.Nat.{ℕ, ◌-◌, ◌/◌, ◌≤◌, ◌<◌}
use Rattle.directed.specs.Directed.{near_of}
use Rattle.surveys.proofs.next_block.Given as goal

abbrev pub Far : (ℕ → ℕ) → ℕ → ℕ → ℕ → Type 0
Far from first next j = (i : ℕ) → i < j → (from i / 2048 < first) ⊎ (next ≤ from i / 2048)

abbrev pub invariant-loop-j : goal.invariant-loop-j
invariant-loop-j l = (l.j ≤ l.n) × (l.first ≤ l.next) × (l.next ≤ l.end) × Far (near_of l.walks l.hops l.list l.row) l.first l.next l.j
