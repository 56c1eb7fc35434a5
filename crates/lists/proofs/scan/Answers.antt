-- `lists::scan` meets its contract: the marks are the vertices of the half that earlier entries name. Assumes nothing.
use mathlib.Core.Path.{◌≡◌, refl, sym, ◌∙◌}
use mathlib.Core.Bool.{true, ◌&&◌}
use Prim.Native.Nat.{suc, ◌+◌, ◌*◌}
use native.Mathlib.Omega.{arith}
use lib.Dec.{ltb}
use borrow.Author.Tests.{not-true, not-false}
use Rattle.journeys.proofs.Counting.{below_suc}
use Rattle.marks.specs.Marks.{bit}
use Rattle.marks.proofs.Bits.{zero_bit}
use Rattle.journeys.specs.Lists.{allows, vertex_in, distance_at}
use Rattle.lists.specs.Passes.{half_ok}
use Rattle.lists.proofs.Entries.{judged-by-marks, marks-more, none_named}
use Rattle.lists.proofs.scan.Goals as goal

pub loop-i-init : goal.loop-i-init
loop-i-init c = (
  omega arith,
  refl,
  λ k h. absurd (omega arith),
  λ b h. zero_bit c.args.marks.now c.requires.marks_value b h ∙ none_named c.args.size c.args.list.now (32768 * c.args.half + b),
)

pub returns-then-not-entry_ok : goal.returns-then-not-entry_ok
unfolding half_ok
returns-then-not-entry_ok c =
    let L = c.loop-i in
    let a = c.args in
    let q = c.entry_ok.ensures.value ∙ judged-by-marks a.size a.list.now a.half (bit L.marks) L.i L.invariant.3 (ltb (vertex_in a.size a.list.now L.i) a.vertices && allows a.most (distance_at a.size a.list.now L.i)) in
    record { within = L.invariant.0; before = L.invariant.2; fails = λ _. sym q ∙ not-true c.entry_ok.result c.if-not-entry_ok.true-raw }

pub loop-i-preserved : goal.loop-i-preserved
unfolding half_ok
loop-i-preserved c =
    let L = c.loop-i in
    let a = c.args in
    let l = a.list.now in
    let q = c.entry_ok.ensures.value ∙ judged-by-marks a.size l a.half (bit L.marks) L.i L.invariant.3 (ltb (vertex_in a.size l L.i) a.vertices && allows a.most (distance_at a.size l L.i)) in
    let good = not-false c.entry_ok.result c.if-not-entry_ok.false-raw in
    let one : L.i + 1 ≡ suc L.i = omega arith in (
      omega (arith, c.loop-i-test.true),
      c.entry_ok.auto.marks ∙ L.invariant.1,
      λ k h. below_suc {P = λ k. half_ok a.size a.vertices a.most l a.half k ≡ true} L.i L.invariant.2 (sym q ∙ good) k (omega arith),
      λ b h. c.entry_ok.ensures.i_after good b h ∙ marks-more a.size l a.half (bit L.marks) L.i L.invariant.3 b h,
    )
