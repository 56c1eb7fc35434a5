-- No call from C asks for the trip: over hop tables that say the same hops (`Alike`), each of its own record size, a call returns the same and leaves the same
-- bytes. A table and the same moved forward are such tables (`moved-alike`), and so are tables that differ in trips alone (`trips-alike`). Assumes nothing.
use mathlib.Core.Path.{◌≡◌, ap, subst}
use mathlib.Core.List.{List}
use Prim.Native.Nat.{ℕ}
use Rattle.journeys.specs.Query.{Query}
use Rattle.journeys.specs.Refusals.{check}
use Rattle.journeys.specs.PartAnswers as answers
use Rattle.journeys.specs.VendorLists.{judge_refusal}
use Rattle.intake.specs.Lending.{lent}
use Rattle.covering.specs.Lending.{parts_lent}
use Rattle.vendors.specs.Lending.{judge_lent}
use Rattle.moves.specs.Alike.{Alike}
use Rattle.moves.proofs.TripsIgnored.{same_check, same-run, same_parts, same-judge}
use Rattle.siltbrow.specs.Packed.{packed}
use Rattle.siltbrow.specs.Ran.{Ran}
use Rattle.siltbrow.specs.PartsRan.{PartsRan, parts_answer_bytes}
use Rattle.siltbrow.proofs.Determined as run
use Rattle.siltbrow.proofs.PartsDetermined as covered

module _ (s s' : ℕ) (v w h h' : List ℕ) (same : Alike s s' h h') where
  -- The check.
  pub check-alike : packed (check s v w h) ≡ packed (check s' v w h')
  check-alike = ap packed (same_check s s' v w h h' same)

  -- The judge of bought lists, with the same list and query.
  pub judge-alike : (list : List ℕ) (Q : Query) → packed (judge_refusal (judge_lent v w h s list) Q) ≡ packed (judge_refusal (judge_lent v w h' s' list) Q)
  judge-alike list Q = ap packed (same-judge s s' v w h h' same list Q)

  -- The run, with the same buffers, query, limit and answer slice.
  pub run-alike : (held settled : List ℕ) (Q : Query) (limit : ℕ) (slice x y z x' y' z' : List ℕ) (r r' : ℕ)
      → Ran (lent v w h s held settled) Q limit slice x y z r → Ran (lent v w h' s' held settled) Q limit slice x' y' z' r'
      → (r ≡ r') × (x ≡ x') × (y ≡ y') × (z ≡ z')
  run-alike held settled Q limit slice x y z x' y' z' r r' p q = run.ran-one (lent v w h' s' held settled) Q limit slice x y z x' y' z' r r' carried q
    where
      carried : Ran (lent v w h' s' held settled) Q limit slice x y z r
      carried =
          record {
            untouched = p.untouched;
            answered = λ e.
                let f = p.answered e in
                (f.0, (f.1.0, same-run s s' v w h h' same held settled Q limit f.1.0 f.1.1, f.1.2, f.1.3, f.1.4));
          }

  -- The parts, with the same list, part buffer, query and answer slice.
  pub parts-alike : (list parts : List ℕ) (Q : Query) (slice x y x' y' : List ℕ) (r r' : ℕ)
      → PartsRan (parts_lent v w h s list parts) Q slice x y r → PartsRan (parts_lent v w h' s' list parts) Q slice x' y' r'
      → (r ≡ r') × (x ≡ x') × (y ≡ y')
  parts-alike list parts Q slice x y x' y' r r' p q = covered.ran-one (answers.parts_answer (parts_lent v w h' s' list parts) Q) parts slice x y x' y' r r' carried q
    where
      carried : PartsRan (parts_lent v w h' s' list parts) Q slice x y r
      carried =
          record {
            untouched = p.untouched;
            answered = λ e.
                subst (λ (a : answers.PartsAnswer). (r ≡ 0) × (x ≡ a.parts) × (y ≡ parts_answer_bytes a)) (same_parts s s' v w h h' same list parts Q) (p.answered e);
          }
