-- `directed::due_at` meets its contract: two bytes are far below the limit of an entry. Assumes nothing.
use mathlib.Core.Path.{◌≡◌}
use mathlib.Core.List.{List}
use Prim.Native.Nat.{ℕ, ◌+◌, ◌*◌, ◌<◌}
use native.Mathlib.Omega.{arith}
use lib.ListN.{get_or}
use Rattle.journeys.specs.Bytes.{be16}
use Rattle.journeys.specs.Tables.{vertex_at}
use Rattle.worktable.specs.Map.{remaining_limit}
use Rattle.directed.proofs.due_at.Goals as goal

half-low : (v : List ℕ) (at n : ℕ) → n ≡ be16 v at → ((i : ℕ) → get_or v i 0 < 256) → n < remaining_limit
unfolding be16
half-low v at n h l = omega (arith, h, l at, l (at + 1))

pub returns : goal.returns
unfolding vertex_at
returns c =
    rw c.if-row.false (c.half_at.ensures, half-low c.args.vertices.now (12 * c.args.u + 8) c.half_at.result c.half_at.ensures (λ i. (c.type_inv.vertices i).fits))
