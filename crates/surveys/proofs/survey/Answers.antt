-- `surveys::survey` meets its contract: the counters are those after the first j records, and the tally tells how many entries these bring or take. Assumes nothing.
use mathlib.Core.Path.{refl, ap, ◌∙◌}
use mathlib.Core.Bool.{cond, ◌&&◌}
use Prim.Native.Nat.{◌-◌, ◌%◌}
use native.Mathlib.Omega.{arith}
use lib.Dec.{eqb}
use lib.ListN.{get_or}
use Rattle.passing.specs.Row.{passes}
use Rattle.directed.specs.Directed.{row_in}
use Rattle.directed.proofs.Either.{numbered, allowed-low, few}
use Rattle.worktable.specs.Map.{put, touched}
use Rattle.worktable.specs.Table.{map_of}
use Rattle.meeting.specs.Passing.{missing, goes}
use Rattle.meeting.proofs.Leading as le
use Rattle.meeting.proofs.Loops as lo
use Rattle.blocks.specs.Block.{in_block, chance, noting}
use Rattle.blocks.proofs.NextRecord as nx
use Rattle.surveys.specs.Survey.{tallied}
use Rattle.surveys.proofs.TallyIsGrowth as ta
use Rattle.surveys.proofs.survey.Goals as goal

pub loop-j-init : goal.loop-j-init
unfolding goes noting
loop-j-init c =
    (lo.went-none c.requires.0.order, refl, λ k h. nx.zero-counter c.args.counters.now c.requires.1 k h, refl, omega arith, omega arith)

pub survey_one-tally-requires : goal.survey_one-tally-requires
survey_one-tally-requires c =
    let a = c.args in
    let y = c.requires.0 in
    let L = c.loop-j in
    let l = c.loop-j-test.true in
    let q = c.near_at-u.ensures in
    let R = row_in a.vertices.now a.walks.now a.hops.now a.list.now a.row in
    let i = L.invariant.0.leads in record {
      in_order = (i.holds.order, rw q (y.near.low L.j l), c.offer_in-offer.ensures.1, omega (arith, allowed-low y.sound), L.invariant.1 ∙ nx.zero-length c.requires.1, omega (arith, L.invariant.4, l), omega (arith, L.invariant.5, l, few (numbered y.sound), c.well_formed));
      nonzero = ta.survey-some R (passes a.row.arriving) a.block (map_of a.t a.held.now) y.enough L.j l q i.holds.map;
    }

pub loop-j-preserved : goal.loop-j-preserved
loop-j-preserved c =
    let a = c.args in
    let y = c.requires.0 in
    let L = c.loop-j in
    let R = row_in a.vertices.now a.walks.now a.hops.now a.list.now a.row in
    let q = c.near_at-u.ensures in
    let b = c.offer_in-offer.ensures.0 in
    let l = c.loop-j-test.true in
    let i = L.invariant.0.leads.holds.map in
    let m = map_of a.t a.held.now in
    let n = passes a.row.arriving in
    let x = c.survey_one-tally in
    let u = c.near_at-u.result in
    let e = map_of a.t L.held u in
    let near = ta.tallied-near (in_block a.block u) a.row.arriving.allowed.0 c.offer_in-offer.result.0 (R.departing u) (get_or L.counters (u % 2048) 0) L.tally (map_of a.t L.held u) (omega (arith, L.invariant.4)) in (
      lo.went_on R.from R.offer (λ v z e. cond (in_block a.block v) (touched z e) e) L.invariant.0 l x.auto.held (le.leads-same x.ensures.leads (ap (put (map_of a.t L.held) u) (nx.in-offer a.block u (λ z. touched z e) e b))) q refl,
      x.auto.counters ∙ L.invariant.1,
      λ k h. ta.survey-noting R n a.block m y.enough L.j l q i k refl (L.invariant.2 k h) (x.ensures.by_index k h ∙ nx.in-offer-and a.block u (λ z. chance R.allowed z (R.departing u) (get_or L.counters k 0)) (get_or L.counters k 0) (missing e && eqb (u % 2048) k) b),
      ta.tally-more R n a.block m y.enough L.j l q i y.few L.tally x.result (omega (arith, L.invariant.4)) (lo.from_low a.vertices.now a.walks.now a.hops.now a.list.now a.row y.near L.j l) L.counters refl L.invariant.2 (x.ensures.value ∙ nx.in-offer a.block u (λ z. tallied R.allowed z (R.departing u) (get_or L.counters (u % 2048) 0) L.tally e) L.tally b) L.invariant.3,
      omega (arith, x.ensures.value, near.0, L.invariant.4),
      omega (arith, x.ensures.value, near.1, L.invariant.5),
    )
