-- `quick::in_order` meets its contract: each return is the test of the definition that decides. Assumes nothing.
use Rattle.std.proofs.Common.{sym, ◌∙◌}
use Rattle.journeys.proofs.Tests.{and_left}
use Rattle.quick.specs.Claims.{in_order}
use Rattle.quick.proofs.in_order.Goals as goal

pub returns-then-not-first_ok : goal.returns-then-not-first_ok
unfolding in_order
returns-then-not-first_ok c =
    let e = rw c.vertex_at-x.ensures at c.first_ok.ensures in
    sym (and_left _ (and_left _ (sym e ∙ c.if-not-first_ok.true)))

pub returns-then-not-first_ok-2 : goal.returns-then-not-first_ok-2
unfolding in_order
returns-then-not-first_ok-2 c =
    let e = rw c.vertex_at-x.ensures at c.first_ok.ensures in
    let f = rw c.vertex_at-x.ensures at c.first_ok-2.ensures in
    simp (sym e ∙ c.if-not-first_ok.false, sym f ∙ c.if-not-first_ok-2.true)

pub returns : goal.returns
unfolding in_order
returns c =
    let e = rw c.vertex_at-x.ensures at c.first_ok.ensures in
    let f = rw c.vertex_at-x.ensures at c.first_ok-2.ensures in
    simp (c.vertex_at-x.ensures, sym e ∙ c.if-not-first_ok.false, sym f ∙ c.if-not-first_ok-2.false)
