-- `job::load` meets its contract: the tables lie one behind the other, so that each is one copy. Assumes nothing.
use mathlib.Core.Path.{sym, ap, ◌∙◌}
use Rattle.job.specs.Job.{told, table_of, question}
use Rattle.std.proofs.lemmas.Result.{err_from_is_err_and}
use Rattle.job.proofs.Bodies.{laid_of, table_taken, table_kept}
use Rattle.job.proofs.load.Goals as goal

pub returns-in_err-job : goal.returns-in_err-job
returns-in_err-job c =
    let a = c.args in
    let s = a.s.now in
    let n = c.in_err-job.field-0.0 in
    let e = ap told (sym c.in_err-job.was) ∙ c.read.ensures.result_value in
    let p = err_from_is_err_and c.from_residual.result c.from_residual.ensures.1 in record {
      result_value = rw (p.1, p.2) e;
      laid_out = rw p.1 tt;
      vertices_after = table_kept s (table_of s 1 12) n a.vertices.now e;
      walks_after = table_kept s (table_of s 2 16) n a.walks.now e;
      hops_after = table_kept s (table_of s 3 16) n a.hops.now e;
    }

pub returns : goal.returns
returns c =
    let a = c.args in
    let s = a.s.now in
    let j = c.in_ok-job.job in
    let n = j.counts in
    let q = question j.asked in
    let e = ap told (sym c.in_ok-job.was) ∙ c.read.ensures.result_value in
    let l = laid_of c.in_ok-job.was c.read.ensures.laid_out in record {
      result_value = e;
      laid_out = l;
      vertices_after = table_taken s (table_of s 1 12) _ n.vertices n.walks n.hops q e l.vertex_table c.copy_table.ensures;
      walks_after = table_taken s (table_of s 2 16) _ n.vertices n.walks n.hops q e l.walk_table c.copy_table-2.ensures;
      hops_after = table_taken s (table_of s 3 16) _ n.vertices n.walks n.hops q e l.hop_table c.copy_table-3.ensures;
    }
