-- `directed::to_listed` meets its contract: a number below that of the walks is a walk's. Assumes nothing.
use Prim.Native.Nat.{◌/◌, ◌<◌}
use native.Mathlib.Omega.{arith}
use borrow.Author.Tests.{lt-ltb, le-ltb}
use lib.ListN.{length}
use Rattle.journeys.specs.Tables.{walk_at, hop_at}
use Rattle.directed.specs.Directed.{listed_of}
use Rattle.directed.proofs.to_listed.Goals as goal
use Rattle.directed.proofs.to_listed.Goals.{Then-r-row}

walk_low : (c : Then-r-row) → c.number_at-r.result < length c.args.walks.now / 16
walk_low c = omega (arith, c.requires.0.walks, c.if-r-row.true)

pub returns-then-r-row : goal.returns-then-r-row
unfolding listed_of walk_at
returns-then-r-row c =
    let n = c.number_at-r in
    rw (c.word_at.ensures, ← n.ensures, lt-ltb _ _ c.if-r-row.true)

pub returns : goal.returns
unfolding listed_of hop_at
returns c =
    let n = c.number_at-r in
    rw (c.to_at.ensures, ← n.ensures, le-ltb _ _ c.if-r-row.false)
