-- `surveys::survey_all` meets its contract: the blocks below the one to come are surveyed, and the start is behind the highest sum so far. Assumes nothing.
use mathlib.Core.Path.{◌≡◌, refl, sym, ap, subst, ◌∙◌}
use mathlib.Core.Bool.{cond}
use Prim.Native.Nat.{ℕ, suc, ◌+◌, ◌-◌, ◌*◌, ◌≤◌, ◌<◌, max}
use native.Mathlib.Numerals.{add-one}
use native.Mathlib.Omega.{arith}
use lib.Dec.{ltb}
use Rattle.passing.specs.Row.{Row, passes}
use Rattle.directed.specs.Directed.{row_in}
use Rattle.directed.proofs.Either.{numbered, few}
use Rattle.worktable.specs.Map.{Map, size}
use Rattle.worktable.specs.Table.{map_of}
use Rattle.meeting.specs.Passing.{goes, left, leaving, passed}
use Rattle.meeting.proofs.Leading.{leads-here, leads-same}
use Rattle.meeting.proofs.Loops.{from_low}
use Rattle.surveys.specs.Survey.{touches_in, meets_in, touched_to}
use Rattle.surveys.proofs.Mixed.{size-most, size_small}
use Rattle.surveys.proofs.BlockByBlock as bb
use Rattle.surveys.proofs.BlockByBlock.{Stands}
use Rattle.surveys.proofs.survey_all.Goals as goal

-- the tally is told of the map as it is
next-stands : (R : Row) (n : ℕ) (m : Map) (b total best start tally : ℕ) {M : Map} → M ≡ touched_to R n b m → b < 32 → tally + size M ≡ n + size (goes R.from (meets_in R b) n M) → Stands R n m b total best start
    → (n ≤ total + tally) × Stands R n m (suc b) ((total + tally) - n) (max best ((total + tally) - n)) (cond (ltb best ((total + tally) - n)) (suc b) start)
next-stands R n m b total best start tally {M} e l t s =
    bb.stands-next R n m b total best start tally l (subst (λ (K : Map). tally + size K ≡ n + size (goes R.from (meets_in R b) n K)) e t) s

pub loop-block-init : goal.loop-block-init
loop-block-init c =
    let a = c.args in
    let R = row_in a.vertices.now a.walks.now a.hops.now a.list.now a.row in
    let n = passes a.row.arriving in
    let m = map_of a.t a.held.now in
    let x = c.next_block-block.ensures in
    let r = c.next_block-block.result in
    let none = bb.gap-none a.vertices.now a.walks.now a.hops.now a.list.now a.row 0 r x.2 in
    (x.1, leads-here c.requires.0.order (sym (bb.touched_none R n m) ∙ bb.touched-gap R n m 0 r (omega arith) none), c.requires.1, bb.stands-gap R n m 0 r 65536 65536 0 (omega arith) none (bb.stands-first R n m), refl, refl)

pub survey-tally-requires : goal.survey-tally-requires
survey-tally-requires c =
    let a = c.args in
    let y = c.requires.0 in
    let L = c.loop-block in
    let R = row_in a.vertices.now a.walks.now a.hops.now a.list.now a.row in
    let n = passes a.row.arriving in
    let w = L.invariant.1 in
    (record { order = w.holds.order; sound = y.sound; near = y.near; enough = λ u q. subst (λ (M : Map). leaving R u n ≤ left (R.departing u) (M u)) (sym w.holds.map) (bb.enough-in R n (map_of a.t a.held.now) y.enough L.block u q); few = λ u q z. bb.few-in R n (map_of a.t a.held.now) y.few L.block u q (ap (λ (M : Map). M u) (sym w.holds.map) ∙ z) }, L.invariant.2)

pub overflow_sub-total : goal.overflow_sub-total
overflow_sub-total c =
    let a = c.args in
    let L = c.loop-block in
    let R = row_in a.vertices.now a.walks.now a.hops.now a.list.now a.row in
    (next-stands R (passes a.row.arriving) (map_of a.t a.held.now) L.block L.total L.best L.start c.survey-tally.result L.invariant.1.holds.map c.loop-block-test.true c.survey-tally.ensures.0.tallied L.invariant.3).0

pub overflow_add-total : goal.overflow_add-total
overflow_add-total c =
    let a = c.args in
    let L = c.loop-block in
    let R = row_in a.vertices.now a.walks.now a.hops.now a.list.now a.row in
    let n = passes a.row.arriving in
    let m = map_of a.t a.held.now in
    record { fits = omega (arith, L.invariant.3.here, size-most (2048 * L.block) (passed R n m), L.invariant.0, c.survey-tally.ensures.0.tallied, size_small (goes R.from (meets_in R L.block) n (map_of a.t L.held)), few (numbered c.requires.0.sound), c.well_formed) }

pub loop-block-preserved : goal.loop-block-preserved
loop-block-preserved c =
    let a = c.args in
    let L = c.loop-block in
    let l = c.loop-block-test.true in
    let R = row_in a.vertices.now a.walks.now a.hops.now a.list.now a.row in
    let n = passes a.row.arriving in
    let m = map_of a.t a.held.now in
    let b = L.block in
    let v = c.survey-tally in
    let x = c.next_block-block-in-loop-block.ensures in
    let r = c.next_block-block-in-loop-block.result in
    let total = (L.total + v.result) - n in
    let none : (u : ℕ) → 2048 * suc b ≤ u → u < 2048 * r → leaving R u n ≡ 0 =
    λ u p q. bb.gap-none a.vertices.now a.walks.now a.hops.now a.list.now a.row (b + 1) r x.2 u (omega arith) q in
    let step : suc b ≤ r = omega (arith, x.0) in
    let i = L.invariant.1.holds.map in
    let stood = (next-stands R n m b L.total L.best L.start v.result i l v.ensures.0.tallied L.invariant.3).1 in
    let on = bb.stands-gap R n m (suc b) r total (max L.best total) (cond (ltb L.best total) (suc b) L.start) step none stood in
    let e = c.better-start.ensures ∙ ap (λ (k : ℕ). cond (ltb L.best total) k L.start) (add-one b) in (
      x.1,
      leads-same v.ensures.0.touched (ap (goes R.from (touches_in R b) n) i ∙ bb.touched-next R n m b ∙ bb.touched-gap R n m (suc b) r step none),
      v.ensures.1,
      subst (λ (z : ℕ). Stands R n m r total z c.better-start.result) (sym c.max-best.ensures) (subst (λ (z : ℕ). Stands R n m r total (max L.best total) z) (sym e) on),
      v.auto.held ∙ L.invariant.4,
      v.auto.counters ∙ L.invariant.5,
    )

pub returns : goal.returns
returns c =
    let a = c.args in
    let L = c.loop-block in
    let R = row_in a.vertices.now a.walks.now a.hops.now a.list.now a.row in
    let n = passes a.row.arriving in
    let m = map_of a.t a.held.now in
    let e : L.block ≡ 32 = omega (arith, L.invariant.0, c.loop-block-test.false) in
    let low = from_low a.vertices.now a.walks.now a.hops.now a.list.now a.row c.requires.0.near in (
      record {
        touched = leads-same L.invariant.1 (ap (λ (k : ℕ). touched_to R n k m) e ∙ bb.touched-all R n m low);
        low = omega (arith, L.invariant.3.below, e);
        best = λ i h. L.invariant.3.most i (omega (arith, e));
      },
      L.invariant.2,
    )
