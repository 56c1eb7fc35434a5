-- Any two answers that `siltbrow_parts` may give to one input are equal, and so is every byte of both written slices after them. Assumes nothing.
use mathlib.Core.Path.{◌≡◌, sym, ◌∙◌}
use mathlib.Core.List.{List}
use Prim.Native.Nat.{ℕ}
use native.Mathlib.Decide.{ℕ_discrete}
use lib.ListN.{length}
use contract.Lifetimes.{Lfts}
use borrow.Fn.World.{ArgsD}
use borrow.Fn.Kinds.{ended_of}
use denote.Triple.Clauses.{AtExit}
use Rattle.journeys.specs.PartAnswers.{PartsAnswer}
use Rattle.records.specs.Asked.{query_by}
use Rattle.covering.specs.Lending.{parts_lent}
use Rattle.siltbrow.specs.PartsRan.{PartsLeft}
use Rattle.siltbrow.specs.PartsCall.{PartsCall, PartsCompleted}
use Rattle.siltbrow.specs.contracts.streets.siltbrow_parts as siltbrow_parts
use Rattle.siltbrow.proofs.streets.siltbrow_parts.Kinds as kinds
use Rattle.siltbrow.proofs.streets.siltbrow_parts.Reads as siltbrow-parts

-- the call that the contract of `siltbrow_parts` speaks of: its twelve arguments, what it returns, and its slices at the exit, in the order of its signature
module _ (κs : Lfts 6) (args : ArgsD siltbrow_parts.signature κs) (returned : ℕ) (exit : AtExit (ended_of 6 kinds.ps kinds.r) κs) where
  abbrev pub called : PartsCall
  called =
      record {
        lent = parts_lent args.0.now args.1.0.now args.1.1.0.now args.1.1.1.0 args.1.1.1.1.1.1.1.1.1.0.now args.1.1.1.1.1.1.1.1.1.1.0.now;
        query = query_by args.1.1.1.1.0 args.1.1.1.1.1.0 args.1.1.1.1.1.1.0 args.1.1.1.1.1.1.1.0 args.1.1.1.1.1.1.1.1.0;
        slice = args.1.1.1.1.1.1.1.1.1.1.1.0.now;
        parts = exit.1.1.1.1.1.1.1.1.1.1.0.now;
        answer = exit.1.1.1.1.1.1.1.1.1.1.1.0.now;
        returned = returned;
      }

-- What is said of a call that has completed (`PartsCompleted`) is said of every call of `siltbrow_parts` with an answer slice of 12 bytes.
pub call-completed : (κs : _) (a : _) (z : _) (e : _) → siltbrow-parts.Post κs a z e → length (called κs a z e).slice ≡ 12 → PartsCompleted (called κs a z e)
call-completed κs a z e p whole = (p, whole)

-- the answers for one slice of any length
pub ran-one : (A : PartsAnswer) (buffer slice p a p' a' : List ℕ) (r r' : ℕ) → PartsLeft A buffer slice p a r → PartsLeft A buffer slice p' a' r'
    → (r ≡ r') × (p ≡ p') × (a ≡ a')
ran-one A buffer slice p a p' a' r r' x y = go (ℕ_discrete (length slice) 12)
  where
    go : Dec (length slice ≡ 12) → (r ≡ r') × (p ≡ p') × (a ≡ a')
    go (yes e) =
        let f = x.answered e in
        let g = y.answered e in
        (f.0 ∙ sym g.0, f.1 ∙ sym g.1, f.2 ∙ sym g.2)
    go (no n) =
        let f = x.untouched n in
        let g = y.untouched n in
        (f.0 ∙ sym g.0, f.1 ∙ sym g.1, f.2 ∙ sym g.2)

-- Two calls with the same arguments return the same and leave the same bytes in both slices.
pub one-siltbrow-parts : (κs : _) (a : _) (z z' : _) (e e' : _) → siltbrow-parts.Post κs a z e → siltbrow-parts.Post κs a z' e'
    → let c = called κs a z e in let c' = called κs a z' e' in
    (z ≡ z') × (c.parts ≡ c'.parts) × (c.answer ≡ c'.answer)
one-siltbrow-parts κs a z z' e e' p q = ran-one _ _ _ _ _ _ _ z z' p q
