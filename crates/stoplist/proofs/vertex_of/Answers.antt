use Rattle.std.specs.Prelude.{◌-◌}
use Rattle.std.proofs.Common.{ap, ◌∙◌}
use Rattle.spelling.specs.Spelled.{number_at}
use Rattle.stoplist.proofs.Parts.{found_some, vertex-good, vertex-told}
use Rattle.stoplist.proofs.vertex_of.Goals as goal

pub overflow_sub-place : goal.overflow_sub-place
overflow_sub-place c =
    let p = c.requires in
    found_some 65535 _ _ _ p.k_in_bounds.0 p.list_value.0 p.list_value.1 c.listed_from-place.ensures

pub number_at-requires : goal.number_at-requires
number_at-requires c =
    let p = c.requires in
    rw c.list.view_is (vertex-good _ _ _ p.k_in_bounds.0 p.list_value.0 p.list_value.1 c.listed_from-place.ensures)

pub returns : goal.returns
returns c =
    let p = c.requires in
    vertex-told _ _ _ p.k_in_bounds.0 p.list_value.0 p.list_value.1 c.listed_from-place.ensures (c.number_at.ensures ∙ ap (λ l. number_at l (c.listed_from-place.result - 1)) c.list.view_is)
