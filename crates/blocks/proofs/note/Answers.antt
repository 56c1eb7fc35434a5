-- `blocks::note` meets its contract: the counter starts at what is due, and an offer above D takes one off. Assumes nothing.
use mathlib.Core.Path.{sym, ap, ◌∙◌}
use Prim.Native.Nat.{ℕ, ◌-◌, ◌%◌, min}
use native.Mathlib.Omega.{arith}
use lib.ListN.{get_or}
use Rattle.directed.specs.Directed.{due_of}
use Rattle.blocks.specs.Block.{chance}
use Rattle.blocks.proofs.Chances.{chance-new, chance-old}
use Rattle.blocks.proofs.NextRecord as nx
use Rattle.blocks.proofs.note.Goals as goal

pub returns-then-counters-k-eq0 : goal.returns-then-counters-k-eq0
returns-then-counters-k-eq0 c =
    let a = c.args in
    let D = a.row.arriving.allowed.0 in
    let x = a.offer.0 in
    let d = due_of a.vertices.now a.row a.u in
    let e = chance-new D x d (get_or a.counters.now (a.u % 2048) 0) c.if-counters-k-eq0.true in
    λ k h. nx.counter-set a.counters.now (a.u % 2048) k _ (chance D x d) c.requires.2 (omega arith)
    (c.min.ensures ∙ ap (λ (n : ℕ). min (n - c.above-less.result) 65535) c.due_at.ensures.0 ∙ ap (λ (n : ℕ). min (d - n) 65535) c.above-less.ensures ∙ sym e)

pub returns : goal.returns
returns c =
    let a = c.args in
    let D = a.row.arriving.allowed.0 in
    let x = a.offer.0 in
    let d = due_of a.vertices.now a.row a.u in
    λ k h. nx.counter-set a.counters.now (a.u % 2048) k _ (chance D x d) c.requires.2 (omega arith)
    (omega (arith, chance-old D x d (get_or a.counters.now (a.u % 2048) 0) c.if-counters-k-eq0.false, c.above-less.ensures))
