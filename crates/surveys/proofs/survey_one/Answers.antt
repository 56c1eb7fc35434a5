-- `surveys::survey_one` meets its contract: a new vertex is noted, and a spent one is going to be dropped. Assumes nothing.
use mathlib.Core.Path.{sym, ap, ◌∙◌}
use mathlib.Core.Bool.{◌&&◌}
use Prim.Native.Nat.{◌/◌, ◌%◌}
use lib.Dec.{eqb}
use lib.ListN.{get_or}
use borrow.Author.Tests.{eq-eqb, ne_eqb}
use Rattle.directed.specs.Directed.{due_of}
use Rattle.journeys.proofs.Tests.{cond-true, cond-false, and_left, and_right}
use Rattle.worktable.specs.Map.{put, touched}
use Rattle.worktable.specs.Table.{map_of}
use Rattle.worktable.proofs.MapLaws.{touched-absent, spent-held}
use Rattle.worktable.proofs.PassLaws.{passed-absent, passed-kept, passed-spent}
use Rattle.meeting.specs.Passing.{missing}
use Rattle.meeting.proofs.Entries.{absent-missing}
use Rattle.meeting.proofs.Leading as le
use Rattle.blocks.specs.Block.{in_block}
use Rattle.surveys.specs.Survey.{tallied}
use Rattle.surveys.proofs.TallyIsGrowth as ta
use Rattle.surveys.proofs.survey_one.Goals as goal

pub note_and_tally-requires : goal.note_and_tally-requires
note_and_tally-requires c =
    let a = c.args in
    let x = a.offer.0 in
    let e = map_of a.t a.held.now a.u in
    let p = c.pass in
    let z = touched-absent x e (passed-absent a.row.arriving.allowed.0 a.t p.new.b a.u (touched x e) p.ensures.passed_is c.in-Absent.is) in
    (c.requires.in_order.1, (c.requires.nonzero c.if-u-block.true).1 z, c.requires.in_order.4, c.requires.in_order.5, c.requires.in_order.6)

pub returns-in-Absent : goal.returns-in-Absent
returns-in-Absent c =
    let a = c.args in
    let D = a.row.arriving.allowed.0 in
    let x = a.offer.0 in
    let m = map_of a.t a.held.now in
    let e = m a.u in
    let d = due_of a.vertices.now a.row a.u in
    let k₀ = get_or a.counters.now (a.u % 2048) 0 in
    let p = c.pass in
    let z = touched-absent x e (passed-absent D a.t p.new.b a.u (touched x e) p.ensures.passed_is c.in-Absent.is) in
    let t = eq-eqb (a.u / 2048) a.block c.if-u-block.true in
    let new = absent-missing e z in
    let n = c.note_and_tally.ensures in record {
      leads = le.leads-gives p.ensures.gives (ap (put m a.u) (sym (cond-true (touched x e) e t)));
      value = n.value ∙ ap (tallied D x d k₀ a.tally) (sym z) ∙ sym (cond-true (tallied D x d k₀ a.tally e) a.tally t);
      by_index = λ k h. n.by_index k h ∙ sym (rw (t, new));
    }

pub returns-in-Kept : goal.returns-in-Kept
returns-in-Kept c =
    let a = c.args in
    let D = a.row.arriving.allowed.0 in
    let x = a.offer.0 in
    let m = map_of a.t a.held.now in
    let e = m a.u in
    let d = due_of a.vertices.now a.row a.u in
    let k₀ = get_or a.counters.now (a.u % 2048) 0 in
    let p = c.pass in
    let z = passed-kept D a.t p.new.b a.u (touched x e) p.ensures.passed_is c.in-Kept.is in
    let t = eq-eqb (a.u / 2048) a.block c.if-u-block.true in record {
      leads = le.leads-gives p.ensures.gives (ap (put m a.u) (sym (cond-true (touched x e) e t)));
      value = ta.tally-kept D x d k₀ a.tally e z.0 z.1 ∙ sym (cond-true (tallied D x d k₀ a.tally e) a.tally t);
      by_index = λ k h. sym (cond-false _ (get_or a.counters.now k 0) (and_right (in_block a.block a.u) (and_left (eqb (a.u % 2048) k) (ta.held-known x e z.0))));
    }

pub returns-in-Spent : goal.returns-in-Spent
returns-in-Spent c =
    let a = c.args in
    let D = a.row.arriving.allowed.0 in
    let x = a.offer.0 in
    let m = map_of a.t a.held.now in
    let e = m a.u in
    let d = due_of a.vertices.now a.row a.u in
    let k₀ = get_or a.counters.now (a.u % 2048) 0 in
    let p = c.pass in
    let z = passed-spent D a.t p.new.b a.u (touched x e) p.ensures.passed_is c.in-Spent.is in
    let t = eq-eqb (a.u / 2048) a.block c.if-u-block.true in record {
      leads = le.leads-gives p.ensures.gives (ap (put m a.u) (sym (cond-true (touched x e) e t)));
      value = ta.tally-spent D x d k₀ a.tally e z.1 ∙ sym (cond-true (tallied D x d k₀ a.tally e) a.tally t);
      by_index = λ k h. sym (cond-false _ (get_or a.counters.now k 0) (and_right (in_block a.block a.u) (and_left (eqb (a.u % 2048) k) (ta.held-known x e (spent-held D z.1)))));
    }

pub returns : goal.returns
returns c =
    let a = c.args in
    let D = a.row.arriving.allowed.0 in
    let x = a.offer.0 in
    let m = map_of a.t a.held.now in
    let e = m a.u in
    let d = due_of a.vertices.now a.row a.u in
    let k₀ = get_or a.counters.now (a.u % 2048) 0 in
    let f = ne_eqb (a.u / 2048) a.block c.if-u-block.false in record {
      leads = le.leads-here c.requires.in_order.0 (le.stays_put m a.u _ (sym (cond-false (touched x e) e f)));
      value = sym (cond-false (tallied D x d k₀ a.tally e) a.tally f);
      by_index = λ k h. sym (cond-false _ (get_or a.counters.now k 0) (and_left (missing e && eqb (a.u % 2048) k) f));
    }
