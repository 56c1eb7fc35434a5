-- `job::read` meets its contract. The invariant: the records passed are sound, and are so many vertices, walks and hops. Assumes nothing.
use native.Mathlib.Omega.{arith}
use mathlib.Core.Path.{refl, sym, ap, subst, ◌∙◌}
use Prim.Native.Nat.{◌+◌, ◌/◌}
use lib.ListN.{length}
use Rattle.job.proofs.Scan.{Passed, none_passed, next-as, vertex-passed, walk-passed, hop-passed, at-query, at-fault, at-end, query-laid, ended-laid}
use Rattle.std.proofs.lemmas.Result.{err_from_is_err_and}
use Rattle.std.specs.Prelude.{Ok}
use Rattle.job.specs.Job.{job_of}
use Rattle.job.specs.declared.Item.TheVariants.{Vertex, Walk, Hop, Query}
use Rattle.job.specs.declared.Counts.{Counts}
use Rattle.job.proofs.read.Goals as goal
use Rattle.job.proofs.read.Goals.{in-Vertex, in-Walk, in-Hop}

pub loop-i-init : goal.loop-i-init
loop-i-init c = (none_passed _ _, omega arith, refl)

pub loop-i-preserved : goal.loop-i-preserved
loop-i-preserved c =
    let L = c.loop-i in
    let P = L.invariant.0 in
    let l = c.loop-i-test.true in
    let is = sym c.item_at.ensures ∙ c.in_ok-item.was in
    let at_counts = λ (x : Counts). Passed c.args.s.now (length c.args.s.now / 20) (L.i + 1) x.vertices x.walks x.hops in (
      elim c.match-item.branch [
        | in-Vertex w ↦ subst at_counts (sym w.passed-is) (vertex-passed P l (next-as P (Ok Vertex) (is ∙ ap Ok w.in-Vertex.is)))
        | in-Walk w ↦ subst at_counts (sym w.passed-is) (walk-passed P l (next-as P (Ok Walk) (is ∙ ap Ok w.in-Walk.is)))
        | in-Hop w ↦ subst at_counts (sym w.passed-is) (hop-passed P l (next-as P (Ok Hop) (is ∙ ap Ok w.in-Hop.is)))
      ],
      omega (arith, l),
      refl,
    )

pub returns-in-Query : goal.returns-in-Query
unfolding job_of
returns-in-Query c =
    let L = c.loop-i in
    let s = c.args.s.now in
    let l = c.loop-i-test.true in
    let N = next-as L.invariant.0 (Ok Query) (sym c.item_at.ensures ∙ c.in_ok-item.was ∙ ap Ok c.in-Query.is) in record {
      result_value = c.ended.ensures ∙ at-query L.invariant.0 l N refl;
      laid_out = ended-laid s L.i L.passed.vertices L.passed.walks L.passed.hops c.ended.result c.ended.ensures (query-laid L.invariant.0 l N);
    }

pub returns-in_err-item : goal.returns-in_err-item
unfolding job_of
returns-in_err-item c =
    let L = c.loop-i in
    let l = c.loop-i-test.true in
    let N = next-as L.invariant.0 _ (sym c.item_at.ensures ∙ c.in_err-item.was) in
    let p = err_from_is_err_and c.from_residual.result c.from_residual.ensures.1 in record {
      result_value = rw (p.1, p.2) (at-fault L.invariant.0 _ l N);
      laid_out = rw p.1 tt;
    }

pub returns : goal.returns
unfolding job_of
returns c = record {
  result_value = at-end c.loop-i.invariant.0 c.loop-i-test.false c.loop-i.invariant.1;
  laid_out = tt;
}
