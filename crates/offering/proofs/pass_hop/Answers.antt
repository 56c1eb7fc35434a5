-- `offering::pass_hop` meets its contract. Assumes nothing.
use mathlib.Core.Path.{sym, ◌∙◌}
use Rattle.marks.specs.Marks.{bit}
use Rattle.improving.specs.Figures.{figures}
use Rattle.marking.specs.Setting.{tables, query, mode}
use Rattle.marking.specs.Carried.{offered_by}
use Rattle.offering.proofs.Along.{back_is}
use Rattle.offering.proofs.pass_hop.Goals as goal

pub returns : goal.returns
returns c =
    let a = c.args in
    let v = c.release in (
      v.ensures.0,
      v.ensures.1 ∙ back_is (bit a.marks.now a.j) (offered_by (tables a.vertices.now a.walks.now a.hops.now a.a) (query a.a) (mode a.hops.now a.a) (bit a.set.now) a.j (figures a.t a.table.now)) (figures a.t a.table.now)
          (sym c.member.ensures ∙ c.if-not-member.false),
    )
