-- `gain`: what has no room is not kept any more.
use mathlib.Core.Path.{◌≡◌}
use mathlib.Core.List.{List}
use Prim.Native.Nat.{ℕ, ◌-◌, ◌≤◌}
use native.Mathlib.Omega.{arith}
use lib.ListN.{length, take}
use lib.Seq.{length-take-le}
use Rattle.table_bytes.proofs.Access.{col-length}
use Rattle.sorting.specs.Sorted.{recs}
use Rattle.windows.proofs.GoneLaws.{held-full}
use Rattle.windows.proofs.gain.Goals as goal

front_long : (m n : ℕ) (b : List ℕ) → m ≤ n → length (take m (recs n b)) ≡ m
front_long m n b h = length-take-le m (recs n b) (rw (col-length 20 n b 0) h)

pub returns-then-room-k-2 : goal.returns-then-room-k-2
returns-then-room-k-2 c = λ H h.
    let a = c.args in
    held-full H (take a.m (recs a.n a.b.now)) (col-length 20 a.room a.target.now 0) (front_long a.m a.n a.b.now c.requires.2) (omega (arith, c.if-room-k.false)) c.if-room-k-2.true h
