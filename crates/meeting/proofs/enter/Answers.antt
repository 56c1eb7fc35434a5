-- `meeting::enter` meets its contract: who is hopeless with its only record stays absent, and anybody else gets an entry. Assumes nothing.
use Prim.Native.Nat.{ℕ, ◌-◌}
use mathlib.Core.Path.{sym, ap, ◌∙◌}
use Rattle.worktable.specs.Map.{known, put, swept}
use Rattle.worktable.specs.Table.{map_of}
use Rattle.worktable.proofs.MapLaws.{swept-spent, swept_kept}
use Rattle.directed.specs.Directed.{due_of}
use Rattle.meeting.specs.Passing.{futile}
use Rattle.meeting.proofs.Leading as le
use Rattle.meeting.proofs.enter.Goals as goal

pub returns-then-hopeless : goal.returns-then-hopeless
returns-then-hopeless c =
    let a = c.args in
    let gone = swept-spent a.row.arriving.allowed.0 (known a.offer.0 0 (due_of a.vertices.now a.row a.u - 1))
    (ap (futile a.row.arriving.allowed.0 a.offer.0) (sym c.due_at-due.ensures.0) ∙ sym c.hopeless.ensures ∙ c.if-hopeless.true) in
    le.leads-here c.requires.in_order.0.order (le.stays_put (map_of a.t a.held.now) a.u _ (c.requires.in_order.1 ∙ sym gone))

pub returns : goal.returns
returns c =
    let a = c.args in
    let n = c.due_at-due in
    let kept = swept_kept a.row.arriving.allowed.0 (known a.offer.0 0 (n.result - 1)) (sym c.hopeless.ensures ∙ c.if-hopeless.false) in
    le.leads-gives c.insert.ensures
    (ap (put (map_of a.t a.held.now) a.u) (sym kept ∙ ap (λ (k : ℕ). swept a.row.arriving.allowed.0 (known a.offer.0 0 (k - 1))) n.ensures.0))
