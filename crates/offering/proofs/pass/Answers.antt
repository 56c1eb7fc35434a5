-- `offering::pass` meets its contract: first the walks, then the hops. Assumes nothing.
use Rattle.marking.specs.Setting.{tables, query, mode}
use Rattle.offering.proofs.Along.{passes_on, passes-all}
use Rattle.offering.proofs.pass.Goals as goal

pub returns : goal.returns
returns c =
    let a = c.args in
    let w = c.pass_walks-walked in
    let h = c.pass_hops in (
      h.ensures.ready,
      passes-all (tables a.vertices.now a.walks.now a.hops.now a.a) (query a.a) (mode a.hops.now a.a) c.requires.0.valid a.set.now a.marks.now a.x a.d
          (passes_on (tables a.vertices.now a.walks.now a.hops.now a.a) (query a.a) (mode a.hops.now a.a) c.requires.0.valid a.set.now a.marks.now a.x a.d w.ensures h.ensures),
    )
