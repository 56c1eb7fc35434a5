-- `list_length`: one number for each record. Assumes nothing.
use mathlib.Core.Path.{◌∙◌}
use Rattle.making.proofs.InOrder.{long-enough, other_length}
use Rattle.making.proofs.list_length.Goals as goal

pub returns-then-list-walks : goal.returns-then-list-walks
returns-then-list-walks c =
    let a = c.args in
    c.refused.ensures.told ∙ other_length a.hop_size a.vertices.now a.walks.now a.hops.now a.list.now c.if-list-walks.true

pub returns : goal.returns
returns c =
    let a = c.args in
    long-enough a.hop_size a.vertices.now a.walks.now a.hops.now a.list.now c.if-list-walks.false
