-- `patients::hold` meets its contract: the arrivals before j are through. Assumes nothing.
use mathlib.Core.Path.{◌≡◌, refl, sym, ap, subst, ◌∙◌}
use Prim.Native.Nat.{ℕ, ◌+◌, ◌*◌, ◌/◌, ◌≤◌}
use native.Mathlib.Omega.{arith}
use lib.ListN.{length, replicate}
use Rattle.journeys.specs.Query as query
use Rattle.journeys.specs.Answers.{early}
use Rattle.audit.proofs.Whole.{sizes}
use Rattle.records.specs.Asked.{query_of}
use Rattle.intake.specs.Lending.{lent}
use Rattle.evening.specs.Asked.{arriving}
use Rattle.evening.proofs.Judged.{lengths-fine, tables-fine, report-long, patients-long, patients-low, few-arrivals, arrival-good, early-at}
use Rattle.patients.proofs.Evenings.{ongoing-start, can-report, ongoing-next, ongoing-late, ongoing-end, allowed-as}
use Rattle.patients.proofs.hold.Goals as goal
use Rattle.patients.proofs.hold.Goals.{After-asked_at-t, Start}

-- the figures so far and the one to come are inside the report
room : (c : Start) → (length c.args.report.now ≡ 4 * (length c.args.vertices.now / 12 + c.args.arrivals + 1)) × (length c.args.vertices.now / 12 ≤ 65536) × (c.args.arrivals ≤ 96)
room a =
    let f = lengths-fine (lent a.args.vertices.now a.args.walks.now a.args.hops.now a.args.hop_size a.args.held.now a.args.settled.now) (query_of a.args.q) a.args.gap a.args.arrivals a.args.patients.now a.args.report.now a.requires.report_value in
    (report-long (lent a.args.vertices.now a.args.walks.now a.args.hops.now a.args.hop_size a.args.held.now a.args.settled.now) (query_of a.args.q) a.args.gap a.args.arrivals a.args.patients.now a.args.report.now f, (sizes _ _ _ _ (tables-fine (lent a.args.vertices.now a.args.walks.now a.args.hops.now a.args.hop_size a.args.held.now a.args.settled.now) (query_of a.args.q) a.args.gap a.args.arrivals a.args.patients.now a.args.report.now f)).vertices_most, (few-arrivals (lent a.args.vertices.now a.args.walks.now a.args.hops.now a.args.hop_size a.args.held.now a.args.settled.now) (query_of a.args.q) a.args.gap a.args.arrivals a.args.patients.now a.args.report.now a.requires.report_value).1)

-- the query of the arrival
asked : (c : After-asked_at-t) → query_of c.asked_at-t.result ≡ arriving (query_of c.args.q) c.args.gap c.loop-j.j
asked c =
    c.asked_at-t.ensures
    ∙ ap (λ (t : ℕ). record { walk = c.args.q.walk; offset = c.args.q.offset.0; arrival = t; duration = c.args.q.duration; speed = c.args.q.speed }) c.later.ensures

pub loop-j-init : goal.loop-j-init
loop-j-init c =
    (omega arith, refl, refl, refl, c.requires.scratch_value, refl, ongoing-start c.args.vertices.now c.args.walks.now c.args.hops.now c.args.hop_size c.args.held.now c.args.settled.now (query_of c.args.q) c.args.gap c.args.arrivals c.args.patients.now c.args.report.now c.requires.report_value _ _ c.zero.ensures)

pub overflow_mul-gap : goal.overflow_mul-gap
overflow_mul-gap c =
    let L = c.loop-j in
    let g = arrival-good (lent c.args.vertices.now c.args.walks.now c.args.hops.now c.args.hop_size c.args.held.now c.args.settled.now) (query_of c.args.q) c.args.gap c.args.arrivals c.args.patients.now c.args.report.now c.requires.report_value L.j c.loop-j-test.true in
    record { fits = omega (arith, g.0, g.1) }

pub later-requires : goal.later-requires
later-requires c =
    let L = c.loop-j in
    let g = arrival-good (lent c.args.vertices.now c.args.walks.now c.args.hops.now c.args.hop_size c.args.held.now c.args.settled.now) (query_of c.args.q) c.args.gap c.args.arrivals c.args.patients.now c.args.report.now c.requires.report_value L.j c.loop-j-test.true in
    (g.0, omega (arith, g.1))

pub one_arrival-a-requires : goal.one_arrival-a-requires
one_arrival-a-requires c =
    let L = c.loop-j in
    let below = c.loop-j-test.true in
    let z = room (goal.at.one_arrival-a-requires c).Start in record {
      q_value = subst (λ (x : query.Query). (early (lent c.args.vertices.now c.args.walks.now c.args.hops.now c.args.hop_size L.held L.settled) x).number ≡ 0) (sym (asked (goal.at.one_arrival-a-requires c).After-asked_at-t))
          (early-at (lent c.args.vertices.now c.args.walks.now c.args.hops.now c.args.hop_size c.args.held.now c.args.settled.now) (query_of c.args.q) c.args.gap c.args.arrivals c.args.patients.now c.args.report.now c.requires.report_value L.j below L.held L.settled L.invariant.1 L.invariant.2);
      scratch_value = (L.invariant.4, omega (arith, z.0, z.1, z.2, below, L.invariant.3, c.report-1.given), can-report c.args.vertices.now c.args.walks.now c.args.hops.now c.args.hop_size c.args.held.now c.args.settled.now (query_of c.args.q) c.args.gap c.args.arrivals c.args.patients.now c.args.report.now c.requires.report_value L.j below L.a L.held L.settled L.report L.invariant.6);
    }

pub returns-then-a-ne0 : goal.returns-then-a-ne0
returns-then-a-ne0 c =
    let L = c.loop-j in
    let below = c.loop-j-test.true in
    let one = c.one_arrival-a in
    let A = allowed-as _ _ (asked (goal.at.returns-then-a-ne0 c).After-asked_at-t) one.ensures.allowed in record {
      held = ongoing-late c.args.vertices.now c.args.walks.now c.args.hops.now c.args.hop_size c.args.held.now c.args.settled.now (query_of c.args.q) c.args.gap c.args.arrivals c.args.patients.now c.args.report.now c.requires.report_value L.j below L.a L.held L.settled L.report L.invariant.1 L.invariant.2 L.invariant.6 one.result _ _ A c.if-a-ne0.true _
          (c.zero-then-a-ne0.ensures ∙ ap (λ (k : ℕ). replicate k 0) (c.report-in-loop-j-1.given ∙ L.invariant.3 ∙ c.report-1.given));
      parts_value = one.ensures.parts_value.0;
    }

pub loop-j-preserved : goal.loop-j-preserved
loop-j-preserved c =
    let L = c.loop-j in
    let below = c.loop-j-test.true in
    let one = c.one_arrival-a in
    let A = allowed-as _ _ (asked (goal.at.loop-j-preserved c).After-asked_at-t) one.ensures.allowed in (
      omega arith,
      c.held-1.given ∙ L.invariant.1,
      c.settled-1.given ∙ L.invariant.2,
      c.report-in-loop-j-1.given ∙ L.invariant.3,
      one.ensures.scratch_after,
      one.ensures.parts_value.0,
      ongoing-next c.args.vertices.now c.args.walks.now c.args.hops.now c.args.hop_size c.args.held.now c.args.settled.now (query_of c.args.q) c.args.gap c.args.arrivals c.args.patients.now c.args.report.now c.requires.report_value L.j below L.a L.held L.settled L.report L.invariant.1 L.invariant.2 L.invariant.6 one.result _ _ A c.if-a-ne0.false _ (one.ensures.parts_value.1 c.if-a-ne0.false),
    )

pub all_patients-total-requires : goal.all_patients-total-requires
all_patients-total-requires c =
    (omega (arith, patients-long (lent c.args.vertices.now c.args.walks.now c.args.hops.now c.args.hop_size c.args.held.now c.args.settled.now) (query_of c.args.q) c.args.gap c.args.arrivals c.args.patients.now c.args.report.now (lengths-fine (lent c.args.vertices.now c.args.walks.now c.args.hops.now c.args.hop_size c.args.held.now c.args.settled.now) (query_of c.args.q) c.args.gap c.args.arrivals c.args.patients.now c.args.report.now c.requires.report_value)), (room (goal.at.all_patients-total-requires c).Start).1, patients-low (lent c.args.vertices.now c.args.walks.now c.args.hops.now c.args.hop_size c.args.held.now c.args.settled.now) (query_of c.args.q) c.args.gap c.args.arrivals c.args.patients.now c.args.report.now c.requires.report_value)

pub put_word-requires : goal.put_word-requires
put_word-requires c = let z = room (goal.at.put_word-requires c).Start in let L = c.loop-j in omega (arith, z.0, z.1, z.2, L.invariant.3, c.report-1.given)

pub returns : goal.returns
returns c =
    let L = c.loop-j in
    let e : L.j ≡ c.args.arrivals = omega (arith, L.invariant.0, c.loop-j-test.false) in record {
      held = ongoing-end c.args.vertices.now c.args.walks.now c.args.hops.now c.args.hop_size c.args.held.now c.args.settled.now (query_of c.args.q) c.args.gap c.args.arrivals c.args.patients.now c.args.report.now c.requires.report_value L.j e L.a L.held L.settled L.report L.invariant.6 _ c.all_patients-total.ensures _ c.put_word.ensures;
      parts_value = L.invariant.5;
    }
