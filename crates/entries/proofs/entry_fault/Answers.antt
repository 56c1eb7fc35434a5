-- `entries::entry_fault` meets its contract: 25, then 26, and 27 where neither is found. Assumes nothing.
use mathlib.Core.Path.{◌∙◌}
use native.Mathlib.Omega.{arith}
use Rattle.entries.proofs.InOrder.{old-few, old-told, late-told, wrong-told}
use Rattle.entries.proofs.entry_fault.Goals as goal

pub overflow_cast-old : goal.overflow_cast-old
overflow_cast-old c =
    let a = c.args in
    let o = c.first_old-old in
    omega (arith, old-few a.vertices a.most c.requires.vertices_bound.0 a.list.now a.i o.result o.ensures)

pub returns-then-old-list : goal.returns-then-old-list
returns-then-old-list c =
    let a = c.args in
    let o = c.first_old-old in
    c.refused.ensures.told ∙ old-told a.vertices a.most c.requires.vertices_bound.0 a.list.now a.i o.result o.ensures c.if-old-list.true

pub overflow_cast-late : goal.overflow_cast-late
overflow_cast-late c =
    let a = c.args in
    let o = c.first_old-old in
    omega (arith, old-few a.vertices a.most c.requires.vertices_bound.0 a.list.now a.i o.result o.ensures, c.if-old-list.false, c.if-late-list.true)

pub returns-then-late-list : goal.returns-then-late-list
returns-then-late-list c =
    let a = c.args in
    let o = c.first_old-old in
    let l = c.first_late-late in
    c.refused-then-late-list.ensures.told ∙ late-told a.vertices a.most c.requires.vertices_bound.0 a.list.now a.i o.result o.ensures c.if-old-list.false l.result l.ensures c.if-late-list.true

pub overflow_cast-i : goal.overflow_cast-i
overflow_cast-i c =
    let a = c.args in
    let o = c.first_old-old in
    omega (arith, old-few a.vertices a.most c.requires.vertices_bound.0 a.list.now a.i o.result o.ensures, c.if-old-list.false, c.requires.vertices_bound.1)

pub returns : goal.returns
returns c =
    let a = c.args in
    let o = c.first_old-old in
    let l = c.first_late-late in
    c.refused-2.ensures.told ∙ wrong-told a.vertices a.most c.requires.vertices_bound.0 a.list.now a.i o.result o.ensures c.if-old-list.false l.result l.ensures c.if-late-list.false
