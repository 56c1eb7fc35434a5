use mathlib.Core.Path.{◌≡◌}
use Prim.Native.Nat.{ℕ, ◌+◌, ◌*◌, ◌≤◌, ◌<◌}
use lib.ListN.{length}
use Rattle.tally.specs.Laid.{listed, times, Same, Laid}
use Rattle.tally.proofs.drain.Given as goal

abbrev pub invariant-loop-i : goal.invariant-loop-i
invariant-loop-i l =
    (l.i ≤ l.count)
    × (length l.scratch ≡ 2048)
    × Same 1856 2048 l.initial.scratch l.scratch
    × ((groups words : ℕ) (claims taken : ℕ → ℕ) → Laid groups words claims taken l.initial.scratch → ((j : ℕ) → j < l.count → listed l.initial.scratch j < 64 * groups)
    → Laid groups words claims (λ k. taken k + times l.initial.scratch l.i k) l.scratch)
