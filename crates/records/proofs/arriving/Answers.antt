-- `records::arriving` meets its contract: each arm gives the run of its table. Assumes nothing.
use Rattle.records.specs.Arriving.{table_of, size_of}
use native.Mathlib.Omega.{arith}
use Rattle.records.proofs.arriving.Goals as goal

pub part_of-requires : goal.part_of-requires
unfolding table_of size_of
part_of-requires c =
    let p = c.requires in
    (omega arith, p.1, rw c.in-Walks.is at p.2)

pub part_of-requires-in-Hops : goal.part_of-requires-in-Hops
unfolding table_of size_of
part_of-requires-in-Hops c =
    let p = c.requires in
    (p.0, p.1, rw c.in-Hops.is at p.2)

pub returns-in-Walks : goal.returns-in-Walks
unfolding table_of size_of
returns-in-Walks c = rw c.in-Walks.is c.part_of.ensures

pub returns-in-Hops : goal.returns-in-Hops
unfolding table_of size_of
returns-in-Hops c = rw c.in-Hops.is c.part_of-in-Hops.ensures
