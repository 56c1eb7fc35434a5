-- Any two answers that the run with a boarding time may give to one input are equal, and so is every byte of the written slices after them. Assumes nothing.
use mathlib.Core.Path.{◌≡◌}
use Prim.Native.Nat.{ℕ}
use lib.ListN.{length}
use contract.Lifetimes.{Lfts}
use borrow.Fn.World.{ArgsD}
use borrow.Fn.Kinds.{ended_of}
use denote.Triple.Clauses.{AtExit}
use Rattle.boarding.specs.RideAnswers.{RideAllowed}
use Rattle.boarding.proofs.RideAnswers.{ride-unique}
use Rattle.records.specs.Asked.{query_by}
use Rattle.riding.specs.Lending.{ride_lent}
use Rattle.answered.proofs.OneAnswer.{answers_one}
use Rattle.ride_demands.specs.RideRan.{ride_answer_bytes}
use Rattle.ride_demands.specs.RideCall.{RideCall, RideCompleted}
use Rattle.siltbrow.specs.contracts.changing.siltbrow_run_boarding as siltbrow_run_boarding
use Rattle.siltbrow.proofs.changing.siltbrow_run_boarding.Kinds as kinds
use Rattle.siltbrow.proofs.changing.siltbrow_run_boarding.Reads as siltbrow-run-boarding

-- the call that the contract of `siltbrow_run_boarding` speaks of: its fourteen arguments, what it returns, and its slices at the exit, in the order of its signature
module _ (κs : Lfts 6) (args : ArgsD siltbrow_run_boarding.signature κs) (returned : ℕ) (exit : AtExit (ended_of 6 kinds.ps kinds.r) κs) where
  abbrev pub ride_called : RideCall
  ride_called =
      record {
        lent = ride_lent args.0.now args.1.0.now args.1.1.0.now args.1.1.1.0 args.1.1.1.1.1.1.1.1.1.1.1.0.now args.1.1.1.1.1.1.1.1.1.1.1.1.0.now;
        query = query_by args.1.1.1.1.0 args.1.1.1.1.1.0 args.1.1.1.1.1.1.0 args.1.1.1.1.1.1.1.0 args.1.1.1.1.1.1.1.1.0;
        boarding = args.1.1.1.1.1.1.1.1.1.0;
        limit = args.1.1.1.1.1.1.1.1.1.1.0;
        slice = args.1.1.1.1.1.1.1.1.1.1.1.1.1.0.now;
        settled = exit.1.1.1.1.1.1.1.1.1.1.1.0.now;
        scratch = exit.1.1.1.1.1.1.1.1.1.1.1.1.0.now;
        answer = exit.1.1.1.1.1.1.1.1.1.1.1.1.1.0.now;
        returned = returned;
      }

-- What is said of a call that has completed (`RideCompleted`) is said of every call of `siltbrow_run_boarding` with an answer slice of 24 bytes.
pub ride-call-completed : (κs : _) (a : _) (z : _) (e : _) → siltbrow-run-boarding.Post κs a z e → length (ride_called κs a z e).slice ≡ 24 → RideCompleted (ride_called κs a z e)
ride-call-completed κs a z e p whole = (p, whole)

-- Two calls with the same arguments return the same and leave the same bytes in all three slices.
pub one-siltbrow-run-boarding : (κs : _) (a : _) (z z' : _) (e e' : _) → siltbrow-run-boarding.Post κs a z e → siltbrow-run-boarding.Post κs a z' e'
    → let c = ride_called κs a z e in let c' = ride_called κs a z' e' in
    (z ≡ z') × (c.settled ≡ c'.settled) × (c.scratch ≡ c'.scratch) × (c.answer ≡ c'.answer)
one-siltbrow-run-boarding κs a z z' e e' p q =
    let c = ride_called κs a z e in
    answers_one (λ x. x.settled) (λ x. x.scratch) ride_answer_bytes (RideAllowed c.lent c.query c.boarding c.limit) (ride-unique c.lent c.query c.boarding c.limit) _ _ _ _ _ _ _ _ _ z z' p q
