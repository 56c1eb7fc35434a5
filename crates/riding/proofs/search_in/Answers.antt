-- `search_in`: the search begins as its steps ask for it. Assumes nothing.
use mathlib.Core.Path.{refl}
use native.Mathlib.Omega.{arith}
use Prim.Native.Nat.{ℕ}
use lib.ListN.{length-replicate}
use Rattle.arranging.proofs.RunsOfTables.{runs}
use Rattle.marking.specs.Setting.{tables, query, mode}
use Rattle.riding.proofs.Opened.{opened}
use Rattle.riding.proofs.search_in.Goals as goal

pub arrange-requires : goal.arrange-requires
arrange-requires c =
    let a = c.args in record {
      runs = runs a.a.size a.vertices.now a.walks.now a.hops.now c.requires.0.valid.tables c.requires.0.wide;
      hops_in_bounds = c.requires.1;
    }

pub steps-requires : goal.steps-requires
steps-requires c =
    let a = c.args in
    let seeds = c.seeds-table.ensures in record {
      judged = (c.requires.0, record { room = omega (arith, c.requires.1, c.scratch-1.given); arranged = c.arrange.ensures.arranged });
      opened = opened (tables a.vertices.now a.walks.now a.hops.now a.a) (query a.a) (mode a.hops.now a.a) c.requires.0.valid _ _ _ _ _ seeds.0 seeds.1 refl refl refl (length-replicate {A = ℕ} 16384 0);
    }
