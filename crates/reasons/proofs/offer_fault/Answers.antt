-- `reasons::offer_fault` meets its contract: each return is the first test that fails. Assumes nothing.
use mathlib.Core.Path.{sym, ◌∙◌}
use borrow.Author.Tests.{not-true, not-false}
use Rattle.entries.specs.Noted.{heard}
use Rattle.reasons.specs.Rows.{net_of}
use Rattle.reasons.proofs.Branches.{from-better, to-better, record-better, all_fair, from-test, to-test}
use Rattle.reasons.proofs.offer_fault.Goals as goal

pub returns-then-not-no_better : goal.returns-then-not-no_better
returns-then-not-no_better c =
    let a = c.args in
    let w = a.walks.now in
    let h = a.hops.now in
    let G = net_of 65536 w h a.all a.ends in
    let D = a.all.allowed.0 in
    let f = from-test w h a.all a.ends a.far.now D 65536 c.no_better.result c.no_better.ensures in
    c.refused.ensures.told ∙ from-better G D (heard a.far.now) a.ends.from a.ends.to (sym f ∙ not-true c.no_better.result c.if-not-no_better.true-raw)

pub returns-then-not-no_better-2 : goal.returns-then-not-no_better-2
returns-then-not-no_better-2 c =
    let a = c.args in
    let w = a.walks.now in
    let h = a.hops.now in
    let G = net_of 65536 w h a.all a.ends in
    let D = a.all.allowed.0 in
    let f = from-test w h a.all a.ends a.far.now D 65536 c.no_better.result c.no_better.ensures in
    let t = to-test w h a.all a.ends a.far.now D 65536 c.requires.from_bound.2 c.no_better-2.result c.no_better-2.ensures in
    c.refused-then-not-no_better-2.ensures.told ∙ to-better G D (heard a.far.now) a.ends.from a.ends.to (sym f ∙ not-false c.no_better.result c.if-not-no_better.false-raw) (sym t ∙ not-true c.no_better-2.result c.if-not-no_better-2.true-raw)

pub returns-then-r-all : goal.returns-then-r-all
returns-then-r-all c =
    let a = c.args in
    let w = a.walks.now in
    let h = a.hops.now in
    let G = net_of 65536 w h a.all a.ends in
    let D = a.all.allowed.0 in
    let f = from-test w h a.all a.ends a.far.now D 65536 c.no_better.result c.no_better.ensures in
    let t = to-test w h a.all a.ends a.far.now D 65536 c.requires.from_bound.2 c.no_better-2.result c.no_better-2.ensures in
    c.refused-then-r-all.ensures.told ∙ record-better G D (heard a.far.now) a.ends.from a.ends.to (sym f ∙ not-false c.no_better.result c.if-not-no_better.false-raw) (sym t ∙ not-false c.no_better-2.result c.if-not-no_better-2.false-raw) c.first_unfair-r.result c.first_unfair-r.ensures c.if-r-all.true

pub returns : goal.returns
returns c =
    let a = c.args in
    let w = a.walks.now in
    let h = a.hops.now in
    let G = net_of 65536 w h a.all a.ends in
    let D = a.all.allowed.0 in
    let f = from-test w h a.all a.ends a.far.now D 65536 c.no_better.result c.no_better.ensures in
    let t = to-test w h a.all a.ends a.far.now D 65536 c.requires.from_bound.2 c.no_better-2.result c.no_better-2.ensures in
    all_fair G D (heard a.far.now) a.ends.from a.ends.to (sym f ∙ not-false c.no_better.result c.if-not-no_better.false-raw) (sym t ∙ not-false c.no_better-2.result c.if-not-no_better-2.false-raw) c.first_unfair-r.result c.first_unfair-r.ensures c.if-r-all.false
