-- `vacate`: an unsettled word leaves its place in the tree, a settled one had none.
use mathlib.Core.Path.{ap, ◌∙◌}
use Rattle.table_bytes.proofs.Access.{sized}
use Rattle.table_tree.specs.Words.{key}
use native.Mathlib.Omega.{arith}
use Rattle.worktable.proofs.WordLaws.{key-settled}
use Rattle.worktable.proofs.LayoutLaws.{same-changed}
use Rattle.worktable.proofs.vacate.Goals as goal

pub returns : goal.returns
returns c =
    same-changed (sized c.args.r c.args.b.now) (omega (arith, c.requires.1, c.requires.0.fits))
    (key-settled c.word.result c.if-word-lt-SETTLED.false ∙ ap key c.word.ensures) c.requires.2 c.set_word.ensures
