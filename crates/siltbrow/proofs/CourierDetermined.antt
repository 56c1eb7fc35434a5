-- Any two answers that the courier's three calls may give to one input are equal, and so is every byte of the written slices after them. Assumes nothing.
use mathlib.Core.Path.{◌≡◌, sym, ◌∙◌}
use Prim.Native.Nat.{ℕ}
use lib.ListN.{length}
use contract.Lifetimes.{Lfts}
use borrow.Fn.World.{ArgsD}
use borrow.Fn.Kinds.{ended_of}
use denote.Triple.Clauses.{AtExit}
use Rattle.journeys.specs.CourierAnswers.{CourierAllowed}
use Rattle.journeys.proofs.CourierAnswers.{courier-unique}
use Rattle.records.specs.Asked.{query_by}
use Rattle.courier_intake.specs.Lending.{courier_lent}
use Rattle.covering.specs.Lending.{courier_parts_lent}
use Rattle.answered.proofs.OneAnswer.{answers_one}
use Rattle.siltbrow.specs.Ran.{answer_bytes}
use Rattle.siltbrow.specs.CourierCall.{CourierPartsCall, CourierPartsCompleted}
use Rattle.siltbrow.specs.CourierRun.{CourierCall, CourierCompleted}
use Rattle.siltbrow.proofs.PartsDetermined.{ran-one}
use Rattle.siltbrow.specs.contracts.dispatch.siltbrow_courier as siltbrow_courier
use Rattle.siltbrow.proofs.dispatch.siltbrow_courier.Kinds as run_kinds
use Rattle.siltbrow.proofs.dispatch.siltbrow_courier.Reads as siltbrow-courier
use Rattle.siltbrow.specs.contracts.dispatch.siltbrow_courier_parts as siltbrow_courier_parts
use Rattle.siltbrow.proofs.dispatch.siltbrow_courier_parts.Kinds as kinds
use Rattle.siltbrow.proofs.dispatch.siltbrow_courier_parts.Reads as siltbrow-courier-parts
use Rattle.siltbrow.proofs.dispatch.siltbrow_courier_list.Reads as siltbrow-courier-list

pub one-siltbrow-courier-list : (κs : _) (a : _) (z z' : _) (e e' : _) → siltbrow-courier-list.Post κs a z e → siltbrow-courier-list.Post κs a z' e' → (z ≡ z') × (e.1.1.1.1.0.now ≡ e'.1.1.1.1.0.now)
one-siltbrow-courier-list κs a z z' e e' p q = (p.0 ∙ sym q.0, p.1 ∙ sym q.1)

-- the call that the contract of `siltbrow_courier_parts` speaks of: its thirteen arguments, what it returns, and its slices at the exit, in the order of its signature
module _ (κs : Lfts 7) (args : ArgsD siltbrow_courier_parts.signature κs) (returned : ℕ) (exit : AtExit (ended_of 7 kinds.ps kinds.r) κs) where
  abbrev pub courier_called : CourierPartsCall
  courier_called =
      record {
        lent = courier_parts_lent args.0.now args.1.0.now args.1.1.0.now args.1.1.1.0 args.1.1.1.1.0.now args.1.1.1.1.1.1.1.1.1.1.0.now args.1.1.1.1.1.1.1.1.1.1.1.0.now;
        query = query_by args.1.1.1.1.1.0 args.1.1.1.1.1.1.0 args.1.1.1.1.1.1.1.0 args.1.1.1.1.1.1.1.1.0 args.1.1.1.1.1.1.1.1.1.0;
        slice = args.1.1.1.1.1.1.1.1.1.1.1.1.0.now;
        parts = exit.1.1.1.1.1.1.1.1.1.1.1.0.now;
        answer = exit.1.1.1.1.1.1.1.1.1.1.1.1.0.now;
        returned = returned;
      }

-- What is said of a call that has completed (`CourierPartsCompleted`) is said of every call of `siltbrow_courier_parts` with an answer slice of 12 bytes.
pub courier-call-completed : (κs : _) (a : _) (z : _) (e : _) → siltbrow-courier-parts.Post κs a z e → length (courier_called κs a z e).slice ≡ 12 → CourierPartsCompleted (courier_called κs a z e)
courier-call-completed κs a z e p whole = (p, whole)

-- Two calls with the same arguments return the same and leave the same bytes in both slices.
pub one-siltbrow-courier-parts : (κs : _) (a : _) (z z' : _) (e e' : _) → siltbrow-courier-parts.Post κs a z e → siltbrow-courier-parts.Post κs a z' e'
    → let c = courier_called κs a z e in let c' = courier_called κs a z' e' in
    (z ≡ z') × (c.parts ≡ c'.parts) × (c.answer ≡ c'.answer)
one-siltbrow-courier-parts κs a z z' e e' p q = ran-one _ _ _ _ _ _ _ z z' p q

-- the call that the contract of `siltbrow_courier` speaks of: its fourteen arguments, what it returns, and its slices at the exit, in the order of its signature
module _ (κs : Lfts 6) (args : ArgsD siltbrow_courier.signature κs) (returned : ℕ) (exit : AtExit (ended_of 6 run_kinds.ps run_kinds.r) κs) where
  abbrev pub courier_run_called : CourierCall
  courier_run_called =
      record {
        lent = courier_lent args.0.now args.1.0.now args.1.1.0.now args.1.1.1.0 args.1.1.1.1.0.now args.1.1.1.1.1.1.1.1.1.1.1.0.now args.1.1.1.1.1.1.1.1.1.1.1.1.0.now;
        query = query_by args.1.1.1.1.1.0 args.1.1.1.1.1.1.0 args.1.1.1.1.1.1.1.0 args.1.1.1.1.1.1.1.1.0 args.1.1.1.1.1.1.1.1.1.0;
        limit = args.1.1.1.1.1.1.1.1.1.1.0;
        slice = args.1.1.1.1.1.1.1.1.1.1.1.1.1.0.now;
        held = exit.1.1.1.1.1.1.1.1.1.1.1.0.now;
        settled = exit.1.1.1.1.1.1.1.1.1.1.1.1.0.now;
        answer = exit.1.1.1.1.1.1.1.1.1.1.1.1.1.0.now;
        returned = returned;
      }

-- What is said of a call that has completed (`CourierCompleted`) is said of every call of `siltbrow_courier` with an answer slice of 24 bytes.
pub courier-run-completed : (κs : _) (a : _) (z : _) (e : _) → siltbrow-courier.Post κs a z e → length (courier_run_called κs a z e).slice ≡ 24 → CourierCompleted (courier_run_called κs a z e)
courier-run-completed κs a z e p whole = (p, whole)

-- Two calls with the same arguments return the same and leave the same bytes in all three slices.
pub one-siltbrow-courier : (κs : _) (a : _) (z z' : _) (e e' : _) → siltbrow-courier.Post κs a z e → siltbrow-courier.Post κs a z' e'
    → let c = courier_run_called κs a z e in let c' = courier_run_called κs a z' e' in
    (z ≡ z') × (c.held ≡ c'.held) × (c.settled ≡ c'.settled) × (c.answer ≡ c'.answer)
one-siltbrow-courier κs a z z' e e' p q =
    let c = courier_run_called κs a z e in
    answers_one (λ a. a.held) (λ a. a.settled) answer_bytes (CourierAllowed c.lent c.query c.limit) (courier-unique c.lent c.query c.limit) _ _ _ _ _ _ _ _ _ z z' p q
