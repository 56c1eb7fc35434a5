-- `patients::one_arrival` meets its contract: the run of the arrival, and the tally of its list. Assumes nothing.
use mathlib.Core.Path.{◌≡◌, sym, ap, ap₂, ◌∙◌}
use mathlib.Core.List.{List}
use Prim.Native.Nat.{ℕ, ◌*◌, ◌/◌}
use native.Mathlib.Omega.{arith}
use lib.ListN.{length, take}
use lib.Seq.{length-take-le}
use Rattle.journeys.specs.Bytes.{word}
use Rattle.words.specs.Written.{written}
use Rattle.records.specs.Asked.{query_of}
use Rattle.evening.specs.Tallied.{tallied, listed_patients}
use Rattle.patients.proofs.Arrival.{own, can-tally}
use Rattle.patients.proofs.one_arrival.Goals as goal

pub slice_bounds-tally-end : goal.slice_bounds-tally-end
slice_bounds-tally-end c =
    let r = c.run_judged-a in
    let L = own c.args.vertices.now c.args.walks.now c.args.hops.now c.args.hop_size c.args.held.now c.args.settled.now (query_of c.args.q) c.requires.q_value r.result _ _ r.ensures.allowed c.if-a-ne0.false in
    omega (arith, L.count, L.room, c.settled-1.given)

pub slice_bounds-tally-end-2 : goal.slice_bounds-tally-end-2
slice_bounds-tally-end-2 c =
    let r = c.run_judged-a in
    let L = own c.args.vertices.now c.args.walks.now c.args.hops.now c.args.hop_size c.args.held.now c.args.settled.now (query_of c.args.q) c.requires.q_value r.result _ _ r.ensures.allowed c.if-a-ne0.false in
    sym (length-take-le _ _ (omega (arith, L.count, L.room, c.settled-1.given)))

pub tally-covered-requires : goal.tally-covered-requires
tally-covered-requires c =
    let r = c.run_judged-a in
    let L = own c.args.vertices.now c.args.walks.now c.args.hops.now c.args.hop_size c.args.held.now c.args.settled.now (query_of c.args.q) c.requires.q_value r.result _ _ r.ensures.allowed c.if-a-ne0.false in let all = can-tally c.args.vertices.now c.args.walks.now c.args.hops.now c.args.hop_size c.args.held.now c.args.settled.now (query_of c.args.q) c.requires.q_value _ c.args.patients.now c.args.report.now L.bytes c.requires.scratch_value.2 in record { list_len_bound = all.0; by_index = all.1 }

pub returns : goal.returns
returns c =
    let r = c.run_judged-a in
    let L = own c.args.vertices.now c.args.walks.now c.args.hops.now c.args.hop_size c.args.held.now c.args.settled.now (query_of c.args.q) c.requires.q_value r.result _ _ r.ensures.allowed c.if-a-ne0.false in
    let t = c.tally-covered in
    let long = length-take-le (8 * r.result.settled) r.new.settled (omega (arith, L.count, L.room, c.settled-1.given)) in
    let e : length (take (8 * r.result.settled) r.new.settled) / 8 ≡ r.result.settled = omega (arith, long) in
    let list = take (8 * r.result.settled) r.new.settled in record {
      allowed = r.ensures.allowed;
      parts_value = (
        r.ensures.parts_value,
        λ _.
            c.put_word.ensures
            ∙ ap₂ (λ (x : List ℕ) (y : ℕ). written x c.args.at (word y))
            (t.ensures.report_after ∙ ap (tallied c.args.report.now list) e)
            (t.ensures.value ∙ ap (listed_patients c.args.patients.now list) e),
      );
      scratch_after = r.ensures.scratch_after;
    }
