-- `blocks::sweep_one` meets its contract: only a spent entry goes. Assumes nothing.
use mathlib.Core.Path.{sym, ap, ◌∙◌}
use Prim.Native.Nat.{◌/◌}
use borrow.Author.Tests.{eq-eqb, ne_eqb}
use Rattle.journeys.proofs.Tests.{cond-true, cond-false}
use Rattle.worktable.specs.Map.{put, swept}
use Rattle.worktable.specs.Table.{map_of}
use Rattle.worktable.proofs.MapLaws.{swept-spent, swept_kept}
use Rattle.worktable.proofs.PassLaws.{passed-absent, passed-kept, passed-spent}
use Rattle.meeting.proofs.Leading as le
use Rattle.blocks.proofs.NextRecord as nx
use Rattle.blocks.proofs.sweep_one.Goals as goal

pub drop-requires : goal.drop-requires
drop-requires c =
    let a = c.args in
    (c.requires.0, (passed-spent a.allowed.0 a.t a.held.now a.u (map_of a.t a.held.now a.u) c.look.ensures c.in-Spent.is).0)

pub returns-in-Spent : goal.returns-in-Spent
returns-in-Spent c =
    let a = c.args in
    let m = map_of a.t a.held.now in
    let e = m a.u in
    let k = passed-spent a.allowed.0 a.t a.held.now a.u e c.look.ensures c.in-Spent.is in
    le.leads-gives c.drop.ensures (ap (put m a.u) (sym (cond-true (swept a.allowed.0 e) e (eq-eqb (a.u / 2048) a.block c.if-u-block.true) ∙ swept-spent a.allowed.0 e k.1)))

pub returns-in-Kept : goal.returns-in-Kept
returns-in-Kept c =
    let a = c.args in
    let m = map_of a.t a.held.now in
    let e = m a.u in
    let k = passed-kept a.allowed.0 a.t a.held.now a.u e c.look.ensures c.in-Kept.is in
    le.leads-here c.requires.0 (le.stays_put m a.u _ (sym (cond-true (swept a.allowed.0 e) e (eq-eqb (a.u / 2048) a.block c.if-u-block.true) ∙ swept_kept a.allowed.0 e k.1)))

pub returns-in-Absent : goal.returns-in-Absent
returns-in-Absent c =
    let a = c.args in
    let m = map_of a.t a.held.now in
    let e = m a.u in
    let z = passed-absent a.allowed.0 a.t a.held.now a.u e c.look.ensures c.in-Absent.is in
    le.leads-here c.requires.0 (le.stays_put m a.u _ (sym (cond-true (swept a.allowed.0 e) e (eq-eqb (a.u / 2048) a.block c.if-u-block.true) ∙ swept_kept a.allowed.0 e (nx.absent-kept a.allowed.0 z))))

pub returns : goal.returns
returns c =
    let a = c.args in
    let m = map_of a.t a.held.now in
    le.leads-here c.requires.0 (le.stays_put m a.u _ (sym (cond-false (swept a.allowed.0 (m a.u)) (m a.u) (ne_eqb (a.u / 2048) a.block c.if-u-block.false))))
