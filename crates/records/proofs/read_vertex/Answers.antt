-- `records::read_vertex` meets its contract: its tests are those of the definition. Assumes nothing.
use mathlib.Core.Path.{◌≡◌, ◌∙◌}
use mathlib.Core.Bool.{true}
use Rattle.journeys.specs.Tables.{tables_of}
use Rattle.journeys.specs.Refusals.{vertex_ok}
use Rattle.records.proofs.Judged.{vertex-ok, vertex-good, vertex-bad}
use Rattle.records.proofs.read_vertex.Goals as goal

pub returns-then-first_ok-x : goal.returns-then-first_ok-x
returns-then-first_ok-x c =
    let ok : vertex_ok (tables_of c.args.hop_size c.args.vertices.now c.args.walks.now c.args.hops.now) c.args.v ≡ true =
    vertex-ok _ _ _ _ c.args.v c.requires.v_in_bounds.0
    ∙ simp (c.first_ok.ensures, c.first_ok-2.ensures, c.requires.departs_value, c.vertex_at-x.ensures) at c.if-first_ok-x.true in
    rw c.vertex_at-x.ensures (vertex-good _ _ _ _ c.args.v c.requires.v_in_bounds.0 ok)

pub returns-else-first_ok-x : goal.returns-else-first_ok-x
returns-else-first_ok-x c =
    vertex-bad _ _ _ _ c.args.v
    (vertex-ok _ _ _ _ c.args.v c.requires.v_in_bounds.0
    ∙ simp (c.first_ok.ensures, c.first_ok-2.ensures, c.requires.departs_value, c.vertex_at-x.ensures) at c.if-first_ok-x.false)
