-- `begins_at`: where the list falls the numbers of a vertex begin, and the record there tells which. Assumes nothing.
use borrow.Author.Tests.{eqb-true}
use mathlib.Core.Path.{sym, ap, ◌∙◌}
use Prim.Native.Nat.{ℕ, ◌<◌}
use native.Mathlib.Omega.{arith}
use Rattle.listing.specs.Places.{total, from_of, below}
use Rattle.stretches.proofs.Halving.{here-low, falls-first}
use Rattle.stretches.proofs.begins_at.Goals as goal
use Rattle.stretches.proofs.begins_at.Goals.{Else-list-place}

-- the place is one of the list
place-low : (c : Else-list-place) → let a = c.args in a.place < total a.hop_size a.walks.now a.hops.now
place-low c = omega (arith, c.if-list-place.false, c.requires.le_hop_size.2)

pub from_of-requires : goal.from_of-requires
from_of-requires c =
    (c.requires.le_hop_size.0, here-low c.requires.right _ _ (place-low (goal.at.from_of-requires c).Else-list-place) c.word_at-x.ensures)

pub returns : goal.returns
returns c = λ e.
    let x = c.word_at-x in
    let a = c.args in
    let F = from_of a.hop_size a.walks.now a.hops.now in
    falls-first c.requires.right a.place x.result x.ensures (place-low (goal.at.returns c).Else-list-place) (omega (arith, c.if-place-lt1.false)) (omega (arith, x.ensures, c.word_at.ensures, c.if-word_at-x.false))
    ∙ ap (λ (w : ℕ). below F w (total a.hop_size a.walks.now a.hops.now)) (sym c.from_of.ensures ∙ eqb-true c.from_of.result a.v e)
