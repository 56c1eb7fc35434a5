-- `tally::width` meets its contract. Assumes nothing.
use native.Mathlib.Omega.{arith}
use borrow.Author.Tests.{lt-ltb, le-ltb}
use Rattle.tally.specs.Laid.{narrow, middle, wide}
use Rattle.tally.proofs.width.Goals as goal

pub returns-then-x-lt16 : goal.returns-then-x-lt16
unfolding Rattle.tally.specs.Laid.width
returns-then-x-lt16 c = (rw (lt-ltb _ 16 c.if-x-lt16.true), narrow, omega arith)

pub returns-then-x-lt256 : goal.returns-then-x-lt256
unfolding Rattle.tally.specs.Laid.width
returns-then-x-lt256 c = (rw (le-ltb _ 16 c.if-x-lt16.false, lt-ltb _ 256 c.if-x-lt256.true), middle, omega arith)

pub returns : goal.returns
unfolding Rattle.tally.specs.Laid.width
returns c = (rw (le-ltb _ 16 c.if-x-lt16.false, le-ltb _ 256 c.if-x-lt256.false), wide, omega arith)
