-- `winner`: the lesser word has the lesser key.
use native.Mathlib.Omega.{arith}
use mathlib.Core.Path.{refl}
use mathlib.Core.Logic.{inl, inr}
use Rattle.table_bytes.specs.Columns.{cols, at}
use Rattle.table_tree.proofs.TreeLaws.{key-mono}
use Rattle.table_tree.proofs.winner.Goals as goal

pub returns-then-word : goal.returns-then-word
returns-then-word c =
    let word-y = c.word.ensures in
    let word-x = c.word-2.ensures in
    let W = (cols c.args.r c.args.b.now).w in
    (key-mono (at W c.args.y) (at W c.args.x) (omega (arith, c.if-word.true, word-x, word-y)), omega arith, inr refl)

pub returns-else-word : goal.returns-else-word
returns-else-word c =
    let word-y = c.word.ensures in
    let word-x = c.word-2.ensures in
    let W = (cols c.args.r c.args.b.now).w in
    (omega arith, key-mono (at W c.args.x) (at W c.args.y) (omega (arith, c.if-word.false, word-x, word-y)), inl refl)
