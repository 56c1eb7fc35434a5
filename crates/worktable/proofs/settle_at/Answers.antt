-- `settle_at`: the first field becomes 1, and the tree is played again. The word told what remains.
use native.Mathlib.Omega.{arith}
use mathlib.Core.Path.{◌≡◌, refl, sym, ap, ◌∙◌}
use Prim.Native.Nat.{ℕ, ◌<◌}
use lib.Dec.{eqb}
use Rattle.table_records.specs.Fields.{state_in, distance_in, remaining_in}
use Rattle.journeys.specs.Counting.{none}
use Rattle.worktable.proofs.WordLaws.{known_is, settled-fits, settled-used, settled-vertex, settled-entry}
use Rattle.worktable.proofs.TableLaws.{place-distance, place-state, place-remaining, gives-changed}
use Rattle.worktable.proofs.settle_at.Goals as goal

pub overflow_add-w : goal.overflow_add-w
overflow_add-w c =
    let ew = c.word-w.ensures in
    let unsettled : state_in c.word-w.result ≡ 0 = sym (place-state c.requires.0 c.requires.1 ew) ∙ c.requires.2 in
    let some : distance_in c.word-w.result < none = omega (arith, c.requires.3, place-distance c.requires.0 c.requires.1 ew) in
    omega (arith, settled-fits c.word-w.result unsettled some)

pub returns : goal.returns
unfolding remaining_in
returns c =
    let o = c.requires.0 in
    let p = c.requires.1 in
    let w = c.word-w.result in
    let ew = c.word-w.ensures in
    let unsettled : state_in w ≡ 0 = sym (place-state o p ew) ∙ c.requires.2 in
    let some : distance_in w < none = omega (arith, c.requires.3, place-distance o p ew) in
    let g = gives-changed o p ew (settled-used w unsettled some) (settled-vertex w unsettled some)
    (settled-entry w unsettled some ∙ sym (known_is (place-distance o p ew) refl (place-remaining o p ew)))
    c.change_word.ensures c.change_word.auto.b in
    (g, ap (λ (n : ℕ). eqb n 0) (sym (place-remaining o p ew)))
