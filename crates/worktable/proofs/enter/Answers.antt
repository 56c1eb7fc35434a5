-- `enter`: the chains, then the word and the tree, and the slot behind the top becomes the top.
use native.Mathlib.Omega.{arith}
use mathlib.Core.Path.{sym, ap, ◌∙◌}
use Rattle.table_tree.specs.Words.{vertex_in}
use Rattle.worktable.specs.Inside.{entry_in}
use Rattle.worktable.proofs.WordLaws.{new-used, new-vertex, new-entry}
use Rattle.worktable.proofs.LayoutLaws.{pops, linked-win, linked-key}
use Rattle.worktable.proofs.TableLaws.{free-some, gives-new}
use Rattle.worktable.proofs.enter.Goals as goal

pub next-x-requires : goal.next-x-requires
next-x-requires c =
    let layout = c.requires.0.layout (omega (arith, c.requires.5)) in
    let top = pops layout (free-some c.requires.0 c.requires.5) in
    (c.requires.0.slotted.len, omega (arith, top.low, layout.chained.mask, c.requires.0.slotted.fits))

pub link-requires : goal.link-requires
link-requires c =
    let layout = c.requires.0.layout (omega (arith, c.requires.5)) in
    let top = pops layout (free-some c.requires.0 c.requires.5) in (
      c.requires.0.slotted,
      layout.chained,
      omega (arith, top.low, layout.chained.mask),
      top.empty,
      λ z. new-used c.args.u c.args.d c.args.n c.requires.1 c.requires.2 c.requires.3 (sym c.word_of-w.ensures ∙ z),
    )

pub lower_word-requires : goal.lower_word-requires
lower_word-requires c =
    let layout = c.requires.0.layout (omega (arith, c.requires.5)) in
    let top = pops layout (free-some c.requires.0 c.requires.5) in (
      record { len = c.link.auto.b ∙ c.requires.0.slotted.len; fits = c.requires.0.slotted.fits; small = c.requires.0.slotted.small },
      top.low,
      linked-win c.link.ensures layout.win,
      linked-key c.link.ensures top.empty,
    )

pub returns : goal.returns
returns c =
    gives-new c.requires.0 c.requires.4 c.requires.5 c.requires.1
    (ap vertex_in c.word_of-w.ensures ∙ new-vertex c.args.u c.args.d c.args.n c.requires.1 c.requires.2 c.requires.3)
    (ap entry_in c.word_of-w.ensures ∙ new-entry c.args.u c.args.d c.args.n c.requires.1 c.requires.2 c.requires.3)
    c.link.ensures c.lower_word.ensures c.next-x.ensures (c.lower_word.auto.b ∙ c.link.auto.b)
