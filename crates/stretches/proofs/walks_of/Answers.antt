-- `walks_of`: the vertex's own record tells where its numbers end, and the list where its walks do. Assumes nothing.
use mathlib.Core.Path.{◌≡◌}
use Prim.Native.Nat.{◌+◌, ◌≤◌}
use native.Mathlib.Omega.{arith}
use Rattle.listing.specs.Places.{total}
use Rattle.stretches.proofs.Halving.{end_low, middle-in, parts-there, walks-found, middle}
use Rattle.stretches.proofs.walks_of.Goals as goal
use Rattle.stretches.proofs.walks_of.Goals.{After-departing_of, After-first_hop-middle}

end-in : (c : After-departing_of) → let a = c.args in
    c.first_place-first.result + c.departing_of.result ≤ total a.hop_size a.walks.now a.hops.now
end-in c =
    end_low _ _ _ _ c.requires.sound.0 c.args.v _ _ c.first_place-first.ensures c.departing_of.ensures

-- the place that was found is where its walks end
there : (c : After-first_hop-middle) → c.first_hop-middle.result ≡ middle c.args.hop_size c.args.vertices.now c.args.walks.now c.args.hops.now c.requires.sound.0 c.args.v c.first_place-first.result c.departing_of.result c.first_place-first.ensures c.departing_of.ensures
there c =
    c.first_hop-middle.ensures _ (parts-there _ _ _ _ c.requires.sound.0 c.args.v _ _ c.first_place-first.ensures c.departing_of.ensures c.requires.right)

pub overflow_add-end : goal.overflow_add-end
overflow_add-end c = record { fits = omega (arith, end-in (goal.at.overflow_add-end c).After-departing_of, c.requires.sound.0.few) }

pub first_hop-middle-requires : goal.first_hop-middle-requires
first_hop-middle-requires c =
    (omega arith, omega (arith, end-in (goal.at.first_hop-middle-requires c).After-departing_of, c.requires.sound.1), omega (arith, end-in (goal.at.first_hop-middle-requires c).After-departing_of, c.requires.sound.0.few))

pub overflow_sub-many : goal.overflow_sub-many
overflow_sub-many c =
    omega (arith, there (goal.at.overflow_sub-many c).After-first_hop-middle, (middle-in _ _ _ _ c.requires.sound.0 c.args.v _ _ c.first_place-first.ensures c.departing_of.ensures).0)

pub returns : goal.returns
returns c =
    walks-found _ _ _ _ c.requires.sound.0 c.args.v _ _ c.first_place-first.ensures c.departing_of.ensures _ (there (goal.at.returns c).After-first_hop-middle)
