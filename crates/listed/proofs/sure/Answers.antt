-- `sure`: one stretch more that rises, its hops waiting; at last all that wait leave, and there are as many numbers as records.
use mathlib.Core.Path.{◌≡◌, sym, ap, ap₂, ◌∙◌}
use Prim.Native.Nat.{ℕ, suc, ◌+◌, ◌/◌}
use native.Mathlib.Omega.{arith}
use lib.ListN.{length}
use borrow.Author.Tests.{eqb-true, not-false}
use Rattle.records.specs.Columns.{records_in, from_at}
use Rattle.starts.specs.Sums.{sums}
use Rattle.starts.proofs.SumLaws.{sums-zero, sums-step}
use Rattle.listing.specs.Places.{total, from_of}
use Rattle.listing.proofs.Froms.{of-walk}
use Rattle.listed.specs.Stretches.{Rising}
use Rattle.listed.proofs.Counting.{Climbed, climbed-more, counts-right, found_all}
use Rattle.listed.proofs.WaitLaws.{rising-among, is-many}
use Rattle.listed.proofs.sure.Goals as goal
use Rattle.listed.proofs.sure.Goals.{After-departing_of, At-loop-v}

-- the scratch is as long as it was
long : (c : At-loop-v) → length c.loop-v.scratch ≡ length c.args.scratch.now
long c = c.loop-v.invariant.4 ∙ sym c.requires.4

end_is : (c : After-departing_of) → c.loop-v.first + c.departing_of.result ≡ sums c.args.vertices.now (c.loop-v.v + 1)
end_is c =
    let t = c.args.vertices.now in
    let e : suc c.loop-v.v ≡ c.loop-v.v + 1 = omega arith in
    ap₂ (λ (x y : ℕ). x + y) c.loop-v.invariant.2 c.departing_of.ensures ∙ sums-step t c.loop-v.v ∙ ap (sums t) e

pub loop-v-init : goal.loop-v-init
loop-v-init c = (omega arith, omega arith, sym (sums-zero c.args.vertices.now), omega arith, c.requires.4, λ all u l. absurd (omega arith))

pub loop-v-preserved : goal.loop-v-preserved
loop-v-preserved c =
    let a = c.args in
    let F = from_of a.hop_size a.walks.now a.hops.now in
    let n = total a.hop_size a.walks.now a.hops.now in
    let v = c.loop-v.v in
    let list = a.list.now in
    let waits = is-many a.hop_size a.walks.now a.hops.now v c.walks_rise-middle.result (c.loop-v.first + c.departing_of.result) list c.loop-v.scratch c.loop-v.k _ _ _ c.in-Some.is c.hops_wait.ensures in
    let walks : Rising F n v c.loop-v.first c.walks_rise-middle.result (records_in 16 a.walks.now) list =
    rising-among (from_at 16 a.walks.now) F (records_in 16 a.walks.now) (λ x l. of-walk a.hop_size a.walks.now a.walks.now a.hops.now x l) v (omega arith) c.walks_rise-middle.ensures.2 in (
      omega (arith, c.loop-v-test.true),
      c.if-many-end.false,
      end_is (goal.at.loop-v-preserved c).After-departing_of,
      waits.few,
      c.scratch-1.given ∙ c.loop-v.invariant.4,
      λ all. climbed-more F n a.vertices.now list v (c.loop-v.invariant.5 (waits.before all)) c.loop-v.invariant.2 (end_is (goal.at.loop-v-preserved c).After-departing_of) (waits.risen all c.loop-v.first walks),
    )

pub returns : goal.returns
returns c =
    let a = c.args in
    let F = from_of a.hop_size a.walks.now a.hops.now in
    let n = total a.hop_size a.walks.now a.hops.now in
    let t = a.vertices.now in
    let e : c.loop-v.v ≡ length t / 12 = omega (arith, c.loop-v.invariant.0, c.loop-v-test.false) in
    let all : Climbed F n t a.list.now (length t / 12) = rw e at (c.loop-v.invariant.5 (c.all_leave.ensures (not-false _ c.if-not-all_leave.false-raw))) in
    λ z.
    let full : sums t (length t / 12) ≡ n = ap (sums t) (sym e) ∙ sym c.loop-v.invariant.2 ∙ omega (arith, eqb-true c.loop-v.first (length a.list.now / 4) z, c.requires.3) in
    record { counts = counts-right F n t a.list.now (length t / 12) all full; found = found_all F n t a.list.now (length t / 12) all full }
