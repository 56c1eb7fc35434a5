-- `records::walk_ok` meets its contract: the lower record of a pair has been tested with this one, else the tests are those of the definition.
-- Assumes nothing.
use mathlib.Core.Path.{◌≡◌, sym, ap₂, ◌∙◌}
use mathlib.Core.Bool.{Bool, ◌&&◌}
use mathlib.Core.List.{[]}
use borrow.Author.Tests.{not-true, not-false}
use Rattle.journeys.specs.Tables.{walk_at}
use Rattle.journeys.specs.Refusals.{length_ok, wait_ok}
use Rattle.journeys.proofs.Tests.{and_both}
use Rattle.records.proofs.Judged.{wait-is, ends-decide, measures-decide, wait-decides, twin-decides}
use Rattle.records.proofs.Pairs.{lower-names-at}
use Rattle.records.proofs.walk_ok.Goals as goal

pub returns-then-not-wait_ok : goal.returns-then-not-wait_ok
returns-then-not-wait_ok c =
    let e = sym (wait-is (walk_at c.args.walks.now c.args.i).wait) ∙ (rw c.walk_at-w.ensures at (sym c.wait_ok.ensures ∙ not-true _ c.if-not-wait_ok.true-raw)) in
    sym (wait-decides 16 c.args.vertices.now c.args.walks.now [] c.args.i c.requires.i_bound.0 e)

pub returns-then-w-i : goal.returns-then-w-i
returns-then-w-i c =
    let a = c.args in
    let g = sym (wait-is (walk_at c.args.walks.now c.args.i).wait) ∙ (rw c.walk_at-w.ensures at (sym c.wait_ok.ensures ∙ not-false _ c.if-not-wait_ok.false-raw)) in
    rw (c.walk_at.ensures, c.walk_at-w.ensures)
    (lower-names-at a.vertices.now a.walks.now a.i c.requires.i_bound.0 c.requires.i_bound.1 c.requires.by_index (rw c.walk_at-w.ensures at c.if-w-i.true) g)

pub returns-then-not-ends_ok : goal.returns-then-not-ends_ok
returns-then-not-ends_ok c =
    let e = rw c.walk_at-w.ensures at (sym c.ends_ok.ensures ∙ not-true _ c.if-not-ends_ok.true-raw) in
    sym (ends-decide 16 c.args.vertices.now c.args.walks.now [] c.args.i c.requires.i_bound.0 e)

pub returns-then-not-length_ok-wait_ok : goal.returns-then-not-length_ok-wait_ok
returns-then-not-length_ok-wait_ok c =
    let x = walk_at c.args.walks.now c.args.i in
    let f : c.wait_ok-2.result ≡ wait_ok x.wait = (rw c.walk_at-w.ensures at c.wait_ok-2.ensures) ∙ wait-is x.wait in
    let g : c.length_ok.result ≡ length_ok x.len = rw c.walk_at-w.ensures at c.length_ok.ensures in
    let e = sym (ap₂ (λ (a b : Bool). a && b) g f) ∙ not-true _ c.if-not-length_ok-wait_ok.true-raw in
    sym (measures-decide 16 c.args.vertices.now c.args.walks.now [] c.args.i c.requires.i_bound.0 e)

pub returns : goal.returns
returns c =
    let x = walk_at c.args.walks.now c.args.i in
    let f : c.wait_ok-2.result ≡ wait_ok x.wait = (rw c.walk_at-w.ensures at c.wait_ok-2.ensures) ∙ wait-is x.wait in
    let g : c.length_ok.result ≡ length_ok x.len = rw c.walk_at-w.ensures at c.length_ok.ensures in
    let m = and_both (length_ok x.len) (wait_ok x.wait) (sym (ap₂ (λ (a b : Bool). a && b) g f) ∙ not-false _ c.if-not-length_ok-wait_ok.false-raw) in
    let e = rw c.walk_at-w.ensures at (sym c.ends_ok.ensures ∙ not-false _ c.if-not-ends_ok.false-raw) in
    rw (c.twin_ok.ensures, c.walk_at-w.ensures) (sym (twin-decides 16 c.args.vertices.now c.args.walks.now [] c.args.i c.requires.i_bound.0 e m.0 m.1))
