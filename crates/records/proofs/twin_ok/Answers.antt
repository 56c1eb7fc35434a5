-- `records::twin_ok` meets its contract: each return is the case that its test picks. Assumes nothing.
use mathlib.Core.List.{[]}
use borrow.Author.Tests.{ne_eqb, lt-ltb, le-ltb}
use Rattle.journeys.proofs.Decoding.{walk_at_lem, walk-count}
use Rattle.records.proofs.twin_ok.Goals as goal

pub returns-then-at-walks : goal.returns-then-at-walks
returns-then-at-walks c =
    let w = c.args.walks.now in
    simp (ne_eqb _ _ c.if-twin.false, walk-count 16 [] w [], walk_at_lem 16 [] w [] c.args.w.twin c.if-at-walks.true, lt-ltb _ _ c.if-at-walks.true, c.pair_ok.ensures, c.walk_at.ensures)

pub returns : goal.returns
returns c =
    simp (ne_eqb _ _ c.if-twin.false, walk-count 16 [] c.args.walks.now [], le-ltb _ _ c.if-at-walks.false)
