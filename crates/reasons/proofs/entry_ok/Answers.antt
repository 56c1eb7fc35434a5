-- `reasons::entry_ok` meets its contract: each return is the first of the tests that fails. Assumes nothing.
use mathlib.Core.Path.{◌∙◌}
use borrow.Author.Tests.{not-true, not-false}
use Rattle.entries.specs.Noted.{heard}
use Rattle.reasons.specs.Rows.{net_of}
use Rattle.reasons.proofs.OnePass.{old-by, late_by, reason-by}
use Rattle.reasons.proofs.Reasons.{backs-any}
use Rattle.reasons.proofs.entry_ok.Goals as goal

pub returns-then-not-is_new : goal.returns-then-not-is_new
returns-then-not-is_new c =
    let a = c.args in
    let n = c.is_new in
    old-by (net_of a.vertices a.walks.now a.hops.now a.all a.ends) a.all.allowed.0 (heard a.far.now) a.v a.d a.r n.result n.ensures (not-true n.result c.if-not-is_new.true-raw)

pub returns-then-all-d : goal.returns-then-all-d
returns-then-all-d c =
    let a = c.args in
    let n = c.is_new in
    late_by (net_of a.vertices a.walks.now a.hops.now a.all a.ends) a.all.allowed.0 (heard a.far.now) a.v a.d a.r n.result n.ensures c.if-all-d.true

pub returns : goal.returns
returns c =
    let a = c.args in
    let n = c.is_new in
    reason-by (net_of a.vertices a.walks.now a.hops.now a.all a.ends) a.all.allowed.0 (heard a.far.now) a.v a.d a.r n.result n.ensures (not-false n.result c.if-not-is_new.false-raw) c.if-all-d.false c.reason_ok.result
    (c.reason_ok.ensures ∙ backs-any a.walks.now a.hops.now a.all a.ends a.vertices (heard a.far.now) a.v a.d a.r)
