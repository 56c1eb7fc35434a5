-- `stepping::walks_at` meets its contract: the part is cut from the first to the end as they are read. Assumes nothing.
use native.Mathlib.Omega.{arith}
use Rattle.records.specs.Arriving.{table_of, size_of}
use Rattle.stepping.proofs.NextEntry.{walks-are, all-walks}
use Rattle.stepping.proofs.walks_at.Goals as goal

pub arriving-requires : goal.arriving-requires
unfolding table_of size_of
arriving-requires c =
    let wide = c.requires.1 in
    let s = c.requires.0 in
    (omega arith, omega (arith, c.first_arriving-first.ensures, c.end_arriving-end.ensures, s.walks), omega (arith, c.end_arriving-end.ensures, s.walks_end))

pub returns-then-courier : goal.returns-then-courier
returns-then-courier c = all-walks _ _ _ c.if-courier.true

pub returns : goal.returns
returns c =
    let a = c.args in walks-are a.size a.vertices.now a.walks.now a.hops.now a.x _ _ c.if-courier.false c.first_arriving-first.ensures c.end_arriving-end.ensures c.arriving.ensures
