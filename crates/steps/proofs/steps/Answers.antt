use mathlib.Core.Path.{refl, subst}
use native.Mathlib.Omega.{arith}
use Rattle.stepping.specs.Taken.{StepIs}
use Rattle.stepping.proofs.NextEntry.{next-nothing, next-found}
use Rattle.steps.proofs.LoopEnds.{table-order, counts-fit, whole, at_limit, row_is, run_fits, may-find, row_here, begins-as, step-as, one-counted, stands_on, stops}
use Rattle.steps.proofs.steps.Goals as goal

pub next-requires : goal.next-requires
next-requires c = table-order _ _ _ _ _ c.requires.valid.0 _ _ _ c.loop-p.invariant.0

pub returns-in_default : goal.returns-in_default
returns-in_default c =
    let s = c.requires in
    let a = s.valid in
    let i = c.loop-p.invariant in record {
      ends = whole _ _ _ _ _ a.0 _ _ _ i.0 _ i.1 (next-nothing _ _ _ _ a.1 _ c.next.ensures c.in_default.is);
      scratch_after = i.2;
    }

pub stretch_at-stretch-requires : goal.stretch_at-stretch-requires
stretch_at-stretch-requires c =
    let s = c.requires in
    let a = s.valid in
    let i = c.loop-p.invariant in
    let n = next-found _ _ _ _ a.1 _ c.next.ensures c.in-Some.is in
    may-find _ _ a.4 _ _ _ _ s.lists _ _ _ a.0 _ _ _ i.0 _ _ _ n

pub row_at-row-requires : goal.row_at-row-requires
row_at-row-requires c =
    let s = c.requires in
    let a = s.valid in
    let i = c.loop-p.invariant in
    let n = next-found _ _ _ _ a.1 _ c.next.ensures c.in-Some.is in
    (run_fits _ _ a.4 _ _ _ _ s.lists _ _ _ a.0 _ _ _ i.0 _ _ _ n, omega (arith, a.4))

pub step-requires : goal.step-requires
step-requires c =
    let s = c.requires in
    let a = s.valid in
    let i = c.loop-p.invariant in
    let n = next-found _ _ _ _ a.1 _ c.next.ensures c.in-Some.is in
    let e = c.stretch_at-stretch.ensures in
    let f = row_is _ _ _ _ _ _ _ _ _ a.1 e c.row_at-row.ensures in record {
      begins = (begins-as _ _ a.4 _ _ _ _ s.lists _ _ _ a.0 _ _ _ i.0 _ _ _ n _ refl c.type_inv.vertices _ e _ f, i.2);
      settled_in_bounds = counts-fit _ _ _ _ _ a.0 _ _ _ i.0;
    }

pub loop-p-smaller : goal.loop-p-smaller
loop-p-smaller c =
    let s = c.requires in
    let a = s.valid in
    let i = c.loop-p.invariant in
    let n = next-found _ _ _ _ a.1 _ c.next.ensures c.in-Some.is in
    let e = c.stretch_at-stretch.ensures in
    let f = row_is _ _ _ _ _ _ _ _ _ a.1 e c.row_at-row.ensures in
    let t = subst (StepIs _ _ _ _ _ _ _) c.in-Ok.is (step-as _ _ a.4 _ _ _ _ s.lists _ _ _ a.0 _ _ _ i.0 _ _ _ n _ refl _ _ _ e _ f _ c.step.ensures.step_made) in
    omega (arith, one-counted _ _ _ _ _ a.0 _ _ _ i.0 _ _ _ n _ _ (row_here _ _ a.4 _ _ _ _ s.lists _ _ _ a.0 _ _ _ i.0 _ _ _ n _ refl) _ _ _ t, c.loop-p-test.true)

pub loop-p-preserved : goal.loop-p-preserved
loop-p-preserved c =
    let s = c.requires in
    let a = s.valid in
    let i = c.loop-p.invariant in
    let n = next-found _ _ _ _ a.1 _ c.next.ensures c.in-Some.is in
    let e = c.stretch_at-stretch.ensures in
    let f = row_is _ _ _ _ _ _ _ _ _ a.1 e c.row_at-row.ensures in
    let t = subst (StepIs _ _ _ _ _ _ _) c.in-Ok.is (step-as _ _ a.4 _ _ _ _ s.lists _ _ _ a.0 _ _ _ i.0 _ _ _ n _ refl _ _ _ e _ f _ c.step.ensures.step_made) in (
      stands_on _ _ _ _ _ a.0 _ _ _ i.0 _ _ _ n _ _ (row_here _ _ a.4 _ _ _ _ s.lists _ _ _ a.0 _ _ _ i.0 _ _ _ n _ refl) _ _ _ t,
      omega (arith, one-counted _ _ _ _ _ a.0 _ _ _ i.0 _ _ _ n _ _ (row_here _ _ a.4 _ _ _ _ s.lists _ _ _ a.0 _ _ _ i.0 _ _ _ n _ refl) _ _ _ t, c.loop-p-test.true),
      c.step.ensures.scratch_after,
      omega (arith, i.3, c.held-1.given),
      omega (arith, i.4, c.settled-1.given),
      omega (arith, i.5, c.scratch-1.given),
    )

pub returns-in-Err : goal.returns-in-Err
unfolding StepIs
returns-in-Err c =
    let s = c.requires in
    let a = s.valid in
    let i = c.loop-p.invariant in
    let n = next-found _ _ _ _ a.1 _ c.next.ensures c.in-Some.is in
    let e = c.stretch_at-stretch.ensures in
    let f = row_is _ _ _ _ _ _ _ _ _ a.1 e c.row_at-row.ensures in
    let t = subst (StepIs _ _ _ _ _ _ _) c.in-Err.is (step-as _ _ a.4 _ _ _ _ s.lists _ _ _ a.0 _ _ _ i.0 _ _ _ n _ refl _ _ _ e _ f _ c.step.ensures.step_made) in record {
      ends = stops _ _ _ _ _ a.0 _ _ _ i.0 _ _ _ n _ _ (row_here _ _ a.4 _ _ _ _ s.lists _ _ _ a.0 _ _ _ i.0 _ _ _ n _ refl) _ _ _ _ c.loop-p-test.true (t.0, omega (arith, t.1));
      scratch_after = c.step.ensures.scratch_after;
    }

pub waits-requires : goal.waits-requires
waits-requires c = table-order _ _ _ _ _ c.requires.valid.0 _ _ _ c.loop-p.invariant.0

pub returns : goal.returns
returns c =
    let s = c.requires in
    let a = s.valid in
    let i = c.loop-p.invariant in record {
      ends = at_limit _ _ _ _ _ a.0 _ _ _ i.0 _ a.1 _ c.waits.ensures _ (omega (arith, i.1, c.loop-p-test.false));
      scratch_after = i.2;
    }
