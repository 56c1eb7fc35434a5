-- `fault`: vertex after vertex; all places before the stretch of v are right.
use mathlib.Core.Path.{◌≡◌, sym, ap, ◌∙◌}
use Prim.Native.Nat.{ℕ, suc, ◌+◌, ◌*◌, ◌<◌, ◌≤◌}
use native.Mathlib.Omega.{arith}
use lib.ListN.{length}
use Rattle.journeys.proofs.Decoding.{vertex-count}
use Rattle.listing.specs.Places.{total, from_of, below, same, Sound}
use Rattle.listing.proofs.PlaceLaws.{below_none, below_next, below-most}
use Rattle.listing.proofs.Froms.{sound, total-is, departs}
use Rattle.listed.proofs.Judging.{found_none, found-more, all_found, first-wrong}
use Rattle.listed.proofs.fault.Goals as goal
use Rattle.listed.proofs.fault.Goals.{After-departing_of, In-loop-v, Start}

long : (c : Start) → length c.args.list.now ≡ 4 * total c.args.hop_size c.args.walks.now c.args.hops.now
long c = let a = c.args in c.requires.list_len ∙ ap (λ (n : ℕ). 4 * n) (total-is a.hop_size a.vertices.now a.walks.now a.hops.now)

good : (c : Start) → Sound c.args.hop_size c.args.vertices.now c.args.walks.now c.args.hops.now
good c = let a = c.args in sound a.hop_size a.vertices.now a.walks.now a.hops.now c.requires.le_hop_size.1 c.requires.le_hop_size.0

-- where the stretch of v ends
ends : (c : After-departing_of)
    → let a = c.args in
    c.loop-v.first + c.departing_of.result ≡ c.loop-v.first + same (from_of a.hop_size a.walks.now a.hops.now) c.loop-v.v (total a.hop_size a.walks.now a.hops.now)
ends c =
    let a = c.args in
    ap (λ (x : ℕ). c.loop-v.first + x) (c.departing_of.ensures ∙ departs a.hop_size a.vertices.now a.walks.now a.hops.now c.requires.le_hop_size.1 c.loop-v.v)

-- and there the next begins
next-begins : (c : After-departing_of)
    → let a = c.args in
    c.loop-v.first + c.departing_of.result ≡ below (from_of a.hop_size a.walks.now a.hops.now) (c.loop-v.v + 1) (total a.hop_size a.walks.now a.hops.now)
next-begins c =
    let a = c.args in
    let F = from_of a.hop_size a.walks.now a.hops.now in
    let n : ℕ = total a.hop_size a.walks.now a.hops.now in
    let v = c.loop-v.v in
    let z : suc v ≡ v + 1 = omega arith in
    ends c ∙ ap (λ (x : ℕ). x + same F v n) c.loop-v.invariant.0 ∙ sym (below_next F v n) ∙ ap (λ (u : ℕ). below F u n) z

end_low : (c : After-departing_of)
    → let a = c.args in c.loop-v.first + c.departing_of.result ≤ total a.hop_size a.walks.now a.hops.now
end_low c =
    let a = c.args in
    omega (arith, next-begins c, below-most (from_of a.hop_size a.walks.now a.hops.now) (c.loop-v.v + 1) (total a.hop_size a.walks.now a.hops.now))

few : (c : In-loop-v) → c.loop-v.v < 65536
few c =
    let a = c.args in
    omega (arith, c.loop-v-test.true, vertex-count a.hop_size a.vertices.now a.walks.now a.hops.now, c.requires.le_hop_size.1.vertices_few)

pub loop-v-init : goal.loop-v-init
loop-v-init c = (sym (below_none _ _), found_none _ _ _)

pub overflow_add-end : goal.overflow_add-end
overflow_add-end c = record { fits = omega (arith, end_low (goal.at.overflow_add-end c).After-departing_of, (good (goal.at.overflow_add-end c).Start).few) }

pub overflow_cast-v : goal.overflow_cast-v
overflow_cast-v c = record { fits = omega (arith, few (goal.at.overflow_cast-v c).In-loop-v) }

pub wrong_in-at-requires : goal.wrong_in-at-requires
wrong_in-at-requires c = record {
  fits = record {
    hop_fits = c.requires.le_hop_size.0;
    few = (good (goal.at.wrong_in-at-requires c).Start).few;
    long = long (goal.at.wrong_in-at-requires c).Start;
    within = end_low (goal.at.wrong_in-at-requires c).After-departing_of;
  };
  stretch = record { begins = c.loop-v.invariant.0; ends = ends (goal.at.wrong_in-at-requires c).After-departing_of };
}

pub overflow_cast-at : goal.overflow_cast-at
overflow_cast-at c =
    record { fits = omega (arith, c.if-at-end.true, end_low (goal.at.overflow_cast-at c).After-departing_of, (good (goal.at.overflow_cast-at c).Start).few) }

pub returns-then-at-end : goal.returns-then-at-end
returns-then-at-end c =
    let a = c.args in
    c.refused.ensures.told
    ∙ first-wrong a.hop_size a.vertices.now a.walks.now a.hops.now a.list.now (good (goal.at.returns-then-at-end c).Start) c.loop-v.invariant.0 (ends (goal.at.returns-then-at-end c).After-departing_of) c.loop-v.invariant.1 c.if-at-end.true c.wrong_in-at.ensures

pub loop-v-preserved : goal.loop-v-preserved
loop-v-preserved c =
    (next-begins (goal.at.loop-v-preserved c).After-departing_of, found-more c.loop-v.invariant.0 (ends (goal.at.loop-v-preserved c).After-departing_of) c.loop-v.invariant.1 c.if-at-end.false c.wrong_in-at.ensures)

pub returns : goal.returns
returns c =
    let a = c.args in
    all_found a.hop_size a.vertices.now a.walks.now a.hops.now a.list.now (good (goal.at.returns c).Start) c.loop-v-test.false c.loop-v.invariant.1
