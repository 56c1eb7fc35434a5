-- `frame::nonempty` meets its contract: its test is the definition's. Assumes nothing.
use mathlib.Core.Path.{sym, ◌∙◌}
use Prim.Native.Nat.{◌/◌}
use lib.Dec.{ltb}
use lib.ListN.{length}
use borrow.Author.Tests.{lt-ltb, le-ltb}
use Rattle.journeys.proofs.Refusals.{unless-good, unless-bad}
use Rattle.frame.proofs.nonempty.Goals as goal

pub returns-then-list-gt0 : goal.returns-then-list-gt0
returns-then-list-gt0 c =
    let n = length c.args.list.now / 8 in
    sym (unless-good (ltb 0 n) 24 0 (lt-ltb 0 n c.if-list-gt0.true))

pub returns : goal.returns
returns c =
    let n = length c.args.list.now / 8 in
    c.refused.ensures.told ∙ sym (unless-bad (ltb 0 n) 24 0 (le-ltb 0 n c.if-list-gt0.false))
