use mathlib.Core.Path.{◌∙◌}
use Prim.Native.Nat.{◌/◌, ◌≤◌, ◌<◌}
use native.Mathlib.Omega.{arith}
use lib.ListN.{length}
use Rattle.journeys.specs.Tables.{walk_at}
use Rattle.records.specs.Asked.{query_of}
use borrow.Author.Tests.{not-true, not-false}
use Rattle.intake.proofs.FirstFault.{len_is, both-fail, both-pass, walk-fault, offset-fault, arrival-fault, duration-fault, speed-fault, no-fault}
use Rattle.intake.proofs.query_fault.Goals as goal

pub returns-then-walks-e : goal.returns-then-walks-e
returns-then-walks-e c =
    let a = c.args in
    λ size v h.
    c.refused.ensures.told ∙ walk-fault size v a.walks.now h (query_of a.q) (omega (arith, c.if-walks-e.true))

pub returns-then-road-q : goal.returns-then-road-q
returns-then-road-q c =
    let a = c.args in
    λ size v h.
    c.refused-then-road-q.ensures.told ∙ offset-fault size v a.walks.now h (query_of a.q) (omega (arith, c.if-walks-e.false)) (omega (arith, len_is _ _ c.walk_at-road.ensures, c.if-road-q.true))

pub returns-then-not-not_after : goal.returns-then-not-not_after
returns-then-not-not_after c =
    let a = c.args in
    let Q = query_of a.q in
    let l : Q.walk < length a.walks.now / 16 = omega (arith, c.if-walks-e.false) in
    let o : Q.offset ≤ (walk_at a.walks.now Q.walk).len = omega (arith, len_is _ _ c.walk_at-road.ensures, c.if-road-q.false) in
    λ size v h.
    c.refused-then-not-not_after.ensures.told ∙ arrival-fault size v a.walks.now h Q l o (both-fail _ _ _ _ c.not_after.ensures c.not_after-2.ensures c.if-not-not_after.true-raw)

pub returns-then-not-q : goal.returns-then-not-q
returns-then-not-q c =
    let a = c.args in
    let Q = query_of a.q in
    let l : Q.walk < length a.walks.now / 16 = omega (arith, c.if-walks-e.false) in
    let o : Q.offset ≤ (walk_at a.walks.now Q.walk).len = omega (arith, len_is _ _ c.walk_at-road.ensures, c.if-road-q.false) in
    λ size v h.
    c.refused-then-not-q.ensures.told ∙ duration-fault size v a.walks.now h Q l o (both-pass _ _ _ _ c.not_after.ensures c.not_after-2.ensures c.if-not-not_after.false-raw) (not-true _ c.if-not-q.true-raw)

pub returns-then-not-q-2 : goal.returns-then-not-q-2
returns-then-not-q-2 c =
    let a = c.args in
    let Q = query_of a.q in
    let l : Q.walk < length a.walks.now / 16 = omega (arith, c.if-walks-e.false) in
    let o : Q.offset ≤ (walk_at a.walks.now Q.walk).len = omega (arith, len_is _ _ c.walk_at-road.ensures, c.if-road-q.false) in
    λ size v h.
    c.refused-then-not-q-2.ensures.told ∙ speed-fault size v a.walks.now h Q l o (both-pass _ _ _ _ c.not_after.ensures c.not_after-2.ensures c.if-not-not_after.false-raw) (not-false _ c.if-not-q.false-raw) (not-true _ c.if-not-q-2.true-raw)

pub returns : goal.returns
returns c =
    let a = c.args in
    let Q = query_of a.q in
    let l : Q.walk < length a.walks.now / 16 = omega (arith, c.if-walks-e.false) in
    let o : Q.offset ≤ (walk_at a.walks.now Q.walk).len = omega (arith, len_is _ _ c.walk_at-road.ensures, c.if-road-q.false) in
    λ size v h.
    no-fault size v a.walks.now h Q l o (both-pass _ _ _ _ c.not_after.ensures c.not_after-2.ensures c.if-not-not_after.false-raw) (not-false _ c.if-not-q.false-raw) (not-false _ c.if-not-q-2.false-raw)
