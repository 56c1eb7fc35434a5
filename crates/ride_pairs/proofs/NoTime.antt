-- With a boarding time of 0 an accepted call of `siltbrow_run` and the call with the boarding time leave the same settled list, byte for byte, whatever the trips are;
-- and so the same parts. Assumes nothing.
use mathlib.Core.Path.{◌≡◌, sym, ap, ap₂, subst, ◌∙◌}
use mathlib.Core.List.{List}
use Prim.Native.Nat.{ℕ, ◌*◌}
use lib.ListN.{take}
use Rattle.journeys.specs.Bytes.{be32}
use Rattle.journeys.specs.Query.{Query}
use Rattle.journeys.specs.Answers.{Answer, Allowed}
use Rattle.journeys.specs.PartAnswers.{PartsLent, PartsAnswer, parts_answer}
use Rattle.boarding.specs.RideAnswers.{RideLent, RideAllowed}
use Rattle.boarding.proofs.SameList.{with_scratch, no-time-answer}
use Rattle.covering.specs.Lending.{parts_lent}
use Rattle.answered.specs.PartsOver.{parts_answer_bytes}
use Rattle.answered.proofs.Answers.{refusal-read, settled-read, finished-read}
use Rattle.ride_demands.specs.RideCall as ride
use Rattle.ride_demands.specs.RideCall.{RideCall, RideCompleted}
use Rattle.ride_demands.proofs.Demands.{given, allowed-is, numbers-are}
use Rattle.siltbrow.specs.Ran.{answer_bytes}
use Rattle.siltbrow.specs.Call.{Call, Completed, refusal, settled_count, finished}
use Rattle.siltbrow.specs.PartsCall.{PartsCall, PartsCompleted}
use Rattle.siltbrow.specs.Pair.{Follows}
use Rattle.ride_pairs.specs.RideBeside.{RideFollows, NoBoarding}

module _ (c : Call) (r : RideCall) (E : Completed c) (R : RideCompleted r) (at_once : NoBoarding c r) (accepted : refusal c ≡ 0) where
  abbrev a : Answer
  a = (E.0.answered E.1).1.0

  A : Allowed c.lent c.query c.limit a
  A = (E.0.answered E.1).1.1

  -- the number at i of the ordinary answer
  number : (i : ℕ) → be32 c.answer i ≡ be32 (answer_bytes a) i
  number i = ap (λ (l : List ℕ). be32 l i) (E.0.answered E.1).1.4

  same : r.lent ≡ with_scratch c.lent r.lent.scratch
  same = rw (at_once.vertices, at_once.walks, at_once.hops, at_once.hop_size, at_once.settled)

  -- the answer of the second call is one for the first call's tables, query and limit
  C : RideAllowed (with_scratch c.lent r.lent.scratch) c.query 0 c.limit (given r R)
  C =
      subst (λ (n : ℕ). RideAllowed (with_scratch c.lent r.lent.scratch) c.query 0 n (given r R)) at_once.limit
      (subst (λ (n : ℕ). RideAllowed (with_scratch c.lent r.lent.scratch) c.query n r.limit (given r R)) at_once.boarding
      (subst (λ (Q : Query). RideAllowed (with_scratch c.lent r.lent.scratch) Q r.boarding r.limit (given r R)) at_once.query
      (subst (λ (b : RideLent). RideAllowed b r.query r.boarding r.limit (given r R)) same (allowed-is r R))))

  -- What the run accepts is accepted, and its list is the same: the count, whether it is finished, and every byte.
  pub same_bytes : (ride.refusal r ≡ 0) × (ride.settled_count r ≡ settled_count c) × (ride.finished r ≡ finished c) × (r.settled ≡ c.settled)
  same_bytes =
      let x = no-time-answer c.lent r.lent.scratch c.query c.limit a A (sym (refusal-read a) ∙ sym (number 0) ∙ accepted) at_once.enough (given r R) C in
      let n = numbers-are r R in (
        n.0 ∙ x.0,
        n.2 ∙ x.1 ∙ sym (number 8 ∙ settled-read a),
        n.5 ∙ x.2 ∙ sym (number 20 ∙ finished-read a),
        (R.0.answered R.1).1.2 ∙ x.3 ∙ sym (E.0.answered E.1).1.3,
      )

  -- So are the parts that are made of the two lists, in equal part buffers.
  pub same_parts : (p q : PartsCall) → PartsCompleted p → PartsCompleted q → Follows c p → RideFollows r q → q.lent.parts ≡ p.lent.parts → (q.parts ≡ p.parts) × (q.answer ≡ p.answer)
  same_parts p q P P' own own' buffers =
      let s = same_bytes in
      let list : take (8 * ride.settled_count r) r.settled ≡ take (8 * settled_count c) c.settled = ap₂ (λ (n : ℕ) (l : List ℕ). take (8 * n) l) s.1 s.3 in
      let tables : (l parts : List ℕ) → parts_lent r.lent.vertices r.lent.walks r.lent.hops r.lent.hop_size l parts ≡ parts_lent c.lent.vertices c.lent.walks c.lent.hops c.lent.hop_size l parts =
      λ l parts. ap (λ (b : RideLent). parts_lent b.vertices b.walks b.hops b.hop_size l parts) same in
      let lent : q.lent ≡ p.lent =
      own'.lent
      ∙ ap₂ (λ (l parts : List ℕ). parts_lent r.lent.vertices r.lent.walks r.lent.hops r.lent.hop_size l parts) list buffers
      ∙ tables (take (8 * settled_count c) c.settled) p.lent.parts
      ∙ sym own.lent in
      let alike : parts_answer q.lent q.query ≡ parts_answer p.lent p.query = ap₂ parts_answer lent (own'.query ∙ at_once.query ∙ sym own.query) in (
        (P'.0.answered P'.1).1 ∙ ap (λ (x : PartsAnswer). x.parts) alike ∙ sym (P.0.answered P.1).1,
        (P'.0.answered P'.1).2 ∙ ap (λ (x : PartsAnswer). parts_answer_bytes x) alike ∙ sym (P.0.answered P.1).2,
      )
