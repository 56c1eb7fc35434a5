-- `trips::trip_at` meets its contract: the last four bytes of a hop of 20 are inside its table. Assumes nothing.
use mathlib.Core.Path.{◌≡◌, sym, ◌∙◌}
use Prim.Native.Nat.{ℕ, ◌+◌, ◌*◌, ◌/◌, ◌≤◌, ◌<◌}
use native.Mathlib.Omega.{arith}
use borrow.Author.Tests.{eq-eqb, ne_eqb}
use Rattle.journeys.specs.Bytes.{be32}
use Rattle.journeys.proofs.Tests.{cond-true, cond-false}
use Rattle.boarding.specs.Rides.{trip_at}
use Rattle.records.proofs.Sizes.{start_fits}
use Rattle.trips.proofs.trip_at.Goals as goal

-- a hop of 20 bytes
fits : (size j n : ℕ) → size ≡ 20 → j < n / size → 20 * j + 20 ≤ n
fits size j n e l = let m : j < n / 20 = rw e at l in start_fits 20 j n (omega arith) m

pub returns-then-size-eq20 : goal.returns-then-size-eq20
unfolding trip_at
returns-then-size-eq20 c =
    let a = c.args in
    c.word_at.ensures ∙ sym (cond-true (be32 a.hops.now (20 * a.j + 16)) 0 (eq-eqb a.size 20 c.if-size-eq20.true))

pub returns : goal.returns
unfolding trip_at
returns c =
    let a = c.args in
    sym (cond-false (be32 a.hops.now (20 * a.j + 16)) 0 (ne_eqb a.size 20 c.if-size-eq20.false))
