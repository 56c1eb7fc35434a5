-- `stepping::hops_at` meets its contract: the part is cut from the first to the end as they are read. Assumes nothing.
use native.Mathlib.Omega.{arith}
use Rattle.records.specs.Arriving.{table_of, size_of}
use Rattle.stepping.proofs.NextEntry.{hops-are, all-hops}
use Rattle.stepping.proofs.hops_at.Goals as goal

pub arriving-requires : goal.arriving-requires
unfolding table_of size_of
arriving-requires c =
    let wide = c.requires.1 in
    let s = c.requires.0 in
    (omega arith, omega (arith, c.first_arriving-first.ensures, c.end_arriving-end.ensures, s.hops), omega (arith, c.end_arriving-end.ensures, s.hops_end))

pub returns-then-courier : goal.returns-then-courier
returns-then-courier c = all-hops _ _ _ _ c.if-courier.true

pub returns : goal.returns
returns c =
    let a = c.args in hops-are a.size a.vertices.now a.walks.now a.hops.now a.x _ _ c.if-courier.false c.first_arriving-first.ensures c.end_arriving-end.ensures c.arriving.ensures
