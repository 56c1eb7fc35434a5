-- `first_place`: the numbers of some vertex begin where one falls; from there by counts, else by halves. Assumes nothing.
use mathlib.Core.Path.{◌≡◌, sym, ap, ◌∙◌}
use Prim.Native.Nat.{ℕ, ◌/◌, ◌<◌, ◌≤◌}
use native.Mathlib.Omega.{arith}
use lib.ListN.{length}
use Rattle.starts.specs.Sums.{sums}
use Rattle.listing.specs.Places.{total, from_of, below}
use Rattle.listing.proofs.PlaceLaws.{below-most}
use Rattle.stretches.proofs.Halving.{here-low, falls-first}
use Rattle.stretches.proofs.first_place.Goals as goal
use Rattle.stretches.proofs.first_place.Goals.{After-from_of-w, Start, Then-i-n}

few : (c : Start) → length c.args.list.now / 4 ≤ 524288
few c = omega (arith, c.requires.sound.1, c.requires.sound.0.few)

-- the place is one of the list
place-low : (c : Then-i-n) → let a = c.args in c.fall-i.result < total a.hop_size a.walks.now a.hops.now
place-low c = omega (arith, c.if-i-n.true, c.requires.sound.1)

-- the vertex whose numbers begin there
vertex-low : (c : After-from_of-w) → c.from_of-w.result < length c.args.vertices.now / 12
vertex-low c =
    let low = c.requires.sound.0.low c.word_at.result (here-low c.requires.right _ _ (omega (arith, c.if-i-n.true, c.requires.sound.1)) c.word_at.ensures) in
    omega (arith, low, c.from_of-w.ensures)

begins : (c : After-from_of-w) → c.fall-i.result ≡ sums c.args.vertices.now c.from_of-w.result
begins c =
    let a = c.args in
    let F = from_of a.hop_size a.walks.now a.hops.now in
    let falls = c.fall-i.ensures c.if-i-n.true in
    falls-first c.requires.right c.fall-i.result c.word_at.result c.word_at.ensures (omega (arith, c.if-i-n.true, c.requires.sound.1)) falls.0 falls.1
    ∙ ap (λ (w : ℕ). below F w (total a.hop_size a.walks.now a.hops.now)) (sym c.from_of-w.ensures)
    ∙ sym (c.requires.sound.0.counted c.from_of-w.result)

pub from_of-w-requires : goal.from_of-w-requires
from_of-w-requires c =
    (c.requires.sound.0.wide, here-low c.requires.right _ _ (place-low (goal.at.from_of-w-requires c).Then-i-n) c.word_at.ensures)

pub overflow_add-w : goal.overflow_add-w
overflow_add-w c =
    record { fits = omega (arith, vertex-low (goal.at.overflow_add-w c).After-from_of-w, c.requires.sound.0.small) }

pub moved-requires : goal.moved-requires
moved-requires c =
    let a = c.args in (
      omega (arith, vertex-low (goal.at.moved-requires c).After-from_of-w),
      omega (arith, c.if-v-many.true),
      begins (goal.at.moved-requires c).After-from_of-w,
      λ u. omega (arith, c.requires.sound.0.counted u, below-most (from_of a.hop_size a.walks.now a.hops.now) u (total a.hop_size a.walks.now a.hops.now), c.requires.sound.0.few),
    )
