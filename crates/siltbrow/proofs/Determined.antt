-- Any two answers that the contract allows are equal. Assumes nothing.
use mathlib.Core.Path.{◌≡◌, sym, ◌∙◌}
use mathlib.Core.List.{List}
use Prim.Native.Nat.{ℕ}
use lib.ListN.{length}
use contract.Lifetimes.{Lfts}
use borrow.Fn.World.{ArgsD}
use borrow.Fn.Kinds.{ended_of}
use denote.Triple.Clauses.{AtExit}
use Rattle.journeys.specs.Query.{Query}
use Rattle.journeys.specs.Answers.{Lent, Allowed}
use Rattle.journeys.proofs.Determined.{answer-unique}
use Rattle.records.specs.Asked.{query_by}
use Rattle.intake.specs.Lending.{lent}
use Rattle.answered.proofs.OneAnswer.{answers_one}
use Rattle.siltbrow.specs.Ran.{answer_bytes, Ran}
use Rattle.siltbrow.specs.Call.{Call, Completed}
use Rattle.siltbrow.specs.contracts.siltbrow_run as siltbrow_run
use Rattle.siltbrow.proofs.siltbrow_run.Kinds as kinds
use Rattle.siltbrow.proofs.siltbrow_check.Reads as siltbrow-check
use Rattle.siltbrow.proofs.siltbrow_run.Reads as siltbrow-run

pub one-siltbrow-check : (κs : _) (a : _) (z z' : _) (e e' : _) → siltbrow-check.Post κs a z e → siltbrow-check.Post κs a z' e' → z ≡ z'
one-siltbrow-check κs a z z' e e' p q = p ∙ sym q

-- the call that the contract of `siltbrow_run` speaks of: its thirteen arguments, what it returns, and its slices at the exit, in the order of its signature
module _ (κs : Lfts 5) (args : ArgsD siltbrow_run.signature κs) (returned : ℕ) (exit : AtExit (ended_of 5 kinds.ps kinds.r) κs) where
  abbrev pub called : Call
  called =
      record {
        lent = lent args.0.now args.1.0.now args.1.1.0.now args.1.1.1.0 args.1.1.1.1.1.1.1.1.1.1.0.now args.1.1.1.1.1.1.1.1.1.1.1.0.now;
        query = query_by args.1.1.1.1.0 args.1.1.1.1.1.0 args.1.1.1.1.1.1.0 args.1.1.1.1.1.1.1.0 args.1.1.1.1.1.1.1.1.0;
        limit = args.1.1.1.1.1.1.1.1.1.0;
        slice = args.1.1.1.1.1.1.1.1.1.1.1.1.0.now;
        held = exit.1.1.1.1.1.1.1.1.1.1.0.now;
        settled = exit.1.1.1.1.1.1.1.1.1.1.1.0.now;
        answer = exit.1.1.1.1.1.1.1.1.1.1.1.1.0.now;
        returned = returned;
      }

-- What is said of a call that has completed (`Completed`) is said of every call of `siltbrow_run` with an answer slice of 24 bytes.
pub call-completed : (κs : _) (a : _) (z : _) (e : _) → siltbrow-run.Post κs a z e → length (called κs a z e).slice ≡ 24 → Completed (called κs a z e)
call-completed κs a z e p whole = (p, whole)

pub ran-one : (b : Lent) (Q : Query) (limit : ℕ) (slice h s a h' s' a' : List ℕ) (r r' : ℕ) → Ran b Q limit slice h s a r → Ran b Q limit slice h' s' a' r'
    → (r ≡ r') × (h ≡ h') × (s ≡ s') × (a ≡ a')
ran-one b Q limit = answers_one (λ a. a.held) (λ a. a.settled) answer_bytes (Allowed b Q limit) (answer-unique b Q limit) b.held b.settled

-- Two calls with the same arguments return the same and leave the same bytes in all three slices.
pub one-siltbrow-run : (κs : _) (a : _) (z z' : _) (e e' : _) → siltbrow-run.Post κs a z e → siltbrow-run.Post κs a z' e'
    → let c = called κs a z e in let c' = called κs a z' e' in
    (z ≡ z') × (c.held ≡ c'.held) × (c.settled ≡ c'.settled) × (c.answer ≡ c'.answer)
one-siltbrow-run κs a z z' e e' p q = ran-one _ _ _ _ _ _ _ _ _ _ z z' p q
