-- Bought lists in bytes: what `siltbrow_judge` accepts is our settled set with our distances, and it accepts the list of every finished run, with any records that
-- tell where its distances come from. All is said of a call that has completed as its contract says, and each theorem says in one sentence what it means. Assumes nothing.
use mathlib.Core.Path.{◌≡◌, sym, ap, ap₂, subst, ◌∙◌}
use mathlib.Core.Logic.{inl, inr, ◌↔◌, ◌≢◌}
use mathlib.Core.Bool.{true}
use mathlib.Core.List.{List, [], ◌∷◌, ◌++◌, flat_map}
use Prim.Native.Nat.{ℕ, ◌-◌, ◌*◌, ◌%◌, ◌≤◌, ◌<◌}
use native.Mathlib.Omega.{arith}
use lib.ListN.{length, take, get_or, replicate}
use lib.Seq.{take_at}
use borrow.Author.Tests.{eq-eqb}
use Rattle.journeys.specs.Counting.{none}
use Rattle.journeys.specs.Bytes.{filled}
use Rattle.journeys.specs.Query.{Query, allowed}
use Rattle.journeys.specs.Journeys.{Distance}
use Rattle.journeys.specs.Order.{Settled, settled}
use Rattle.journeys.specs.Records.{network}
use Rattle.journeys.specs.Refusals.{Refusal, fine, table_lengths, buffer_lengths, contents, query_refusal, whole_of}
use Rattle.journeys.specs.Lists.{settled_in}
use Rattle.journeys.specs.Answers.{Lent, early, settled_bytes}
use Rattle.journeys.specs.VendorLists.{Reason, Right, with_records, JudgeLent, judge_refusal}
use Rattle.journeys.proofs.Refusals.{or-fine}
use Rattle.journeys.proofs.VendorLists.{own-reasons-exist}
use Rattle.covering.proofs.OwnList.{own-length, settled_back}
use Rattle.vendors.specs.Lending.{judge_lent}
use Rattle.vendors.proofs.OwnBytes as own
use Rattle.vendors.proofs.Accepted.{nothing-refused, accepted-right, accepted-settled, accepted-no-circle}
use Rattle.siltbrow.specs.Packed.{packed}
use Rattle.siltbrow.specs.Call.{Call, Completed, refusal, settled_count, finished, read, S}
use Rattle.siltbrow.specs.JudgeCall.{JudgeCall, JudgeCompleted, judge_read, judge_count, vertex_word, distance_word, record_word, own_entries, Tells, Handed}
use Rattle.siltbrow.proofs.Demands.{valid, the_order, is_order, settled-are, finished-whole, accepted-exactly}

-- what is packed to 0 refuses nothing
unpacked : (r : Refusal) → packed r ≡ 0 → r.number ≡ 0
unfolding packed
unpacked r e = omega arith

packed-fine : packed fine ≡ 0
unfolding packed
packed-fine = omega arith

-- ---- what the call accepts
module _ (j : JudgeCall) (E : JudgeCompleted j) (accepted : j.returned ≡ 0) where
  fine-number : (judge_refusal j.lent j.query).number ≡ 0
  fine-number = unpacked (judge_refusal j.lent j.query) (sym E ∙ accepted)

  -- Where 0 is returned an entry names a vertex with a figure exactly if that figure is the arrival hour less the latest start of a journey from there, and within
  -- the allowed time: the list is our settled set with our distances.
  pub passing-is-settled : (v d : ℕ)
      → ((i : ℕ) × (i < judge_count j) × (vertex_word j i ≡ v) × (distance_word j i ≡ d)) ↔ (Distance (judge_read j) j.query v d × (d ≤ allowed j.query))
  passing-is-settled = accepted-settled j.lent j.query fine-number

  -- It names no vertex twice.
  pub passing-once : (i k : ℕ) → i < judge_count j → k < i → vertex_word j k ≢ vertex_word j i
  passing-once = (accepted-right j.lent j.query fine-number).differ

  -- Two entries whose records lead to each other's vertex, as rides both ways at one moment do, never pass.
  pub passing-no-circle : (i k : ℕ) → i < judge_count j → k < judge_count j → record_word j i ≢ none → record_word j k ≢ none
      → (network (judge_read j) j.query).to (record_word j i) ≡ vertex_word j k → (network (judge_read j) j.query).to (record_word j k) ≡ vertex_word j i → ⊥
  passing-no-circle = accepted-no-circle j.lent j.query fine-number

-- ---- the list of a finished run
module _ (c : Call) (E : Completed c) (accepted : refusal c ≡ 0) (done : finished c ≡ 1) where
  abbrev b : Lent
  b = c.lent

  abbrev Q : Query
  Q = c.query

  abbrev l : List Settled
  l = the_order c E accepted

  -- the settled bytes are the whole order
  whole : (settled_count c ≡ length l) × (c.settled ≡ filled b.settled (flat_map settled_bytes l))
  whole =
      subst (λ (s : List Settled). (settled_count c ≡ length s) × (c.settled ≡ filled b.settled (flat_map settled_bytes s))) (finished-whole c E accepted l (is_order c E accepted) done)
      (settled-are c E accepted l (is_order c E accepted))

  -- and its counted records read back
  entries-are : own_entries c ≡ l
  unfolding filled
  entries-are =
      let bytes = flat_map settled_bytes l in
      let n : length bytes ≡ 8 * settled_count c = omega (arith, own-length l, whole.0) in
      ap settled_in (ap (take (8 * settled_count c)) whole.1 ∙ take_at bytes (replicate (length b.settled - length bytes) 0) (8 * settled_count c) n) ∙ settled_back l

  told : (records : ℕ → ℕ) → Tells c records → (i : ℕ) → i < length l → Reason (network (read c) Q) (λ i. get_or l i (settled 0 0)) i (records i)
  told records t i h = subst (λ (s : List Settled). Reason (network (read c) Q) (λ i. get_or s i (settled 0 0)) i (records i)) entries-are (t i (omega (arith, whole.0)))

  -- There are records that tell where each distance of a finished run comes from: FFFFFFFF for a seed, else a record into an earlier vertex of the list.
  pub own-records-exist : (records : ℕ → ℕ) × Tells c records
  own-records-exist =
      let x = own-reasons-exist (read c) Q (valid c E accepted) (is_order c E accepted) in (
        x.0,
        λ i h. subst (λ (s : List Settled). Reason (network (read c) Q) (λ i. get_or s i (settled 0 0)) i (x.0 i)) (sym entries-are) (x.1 i (omega (arith, whole.0))),
      )

  even : (records : ℕ → ℕ) → whole_of 12 (with_records l records) ≡ true
  unfolding whole_of
  even records = eq-eqb (length (with_records l records) % 12) 0 (omega (arith, own.own-whole l records))

  -- The list of a finished run passes, in the order of the run, with any records that tell where its distances come from.
  pub own-list-passes : (records : ℕ → ℕ) → Tells c records → (j : JudgeCall) → JudgeCompleted j → Handed c records j → j.returned ≡ 0
  unfolding early
  own-list-passes records t j J h =
      let x = or-fine (table_lengths b.hop_size b.vertices b.walks b.hops) _ ((accepted-exactly c E).0 accepted).0 in
      let y = or-fine (buffer_lengths b.held b.settled) _ x.1 in
      let z = or-fine (contents (read c)) _ y.1 in
      let lent : JudgeLent = judge_lent b.vertices b.walks b.hops b.hop_size (with_records l records) in
      let is : j.lent ≡ lent = h.lent ∙ ap (λ (s : List Settled). judge_lent b.vertices b.walks b.hops b.hop_size (with_records s records)) entries-are in
      let passes = own.own-list-passes (read c) Q (valid c E accepted) (is_order c E accepted) records (told records t) in
      J ∙ ap packed (ap₂ judge_refusal is h.query ∙ nothing-refused lent Q x.0 (even records) z.0 z.1 passes) ∙ packed-fine
