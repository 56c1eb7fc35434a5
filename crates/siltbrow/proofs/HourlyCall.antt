-- Patients per hour in the answer slice, and that the call is determined. Assumes nothing.
use mathlib.Core.Path.{◌≡◌, refl, sym, ap, subst, ◌∙◌}
use mathlib.Core.List.{List, ◌++◌}
use Prim.Native.Nat.{ℕ}
use native.Mathlib.Decide.{ℕ_discrete}
use lib.IntN.{ℤ}
use lib.ListN.{length}
use Rattle.journeys.specs.Bytes.{word}
use Rattle.journeys.specs.Query.{Query}
use Rattle.journeys.specs.Answers.{Lent, Answer}
use Rattle.records.specs.Asked.{query_by}
use Rattle.search.specs.Outcome.{answer_of}
use Rattle.records.specs.declared.Answer as search
use Rattle.calls.specs.CallBytes.{answer_bytes}
use Rattle.patients.specs.EveningAnswers.{EveningAllowed}
use Rattle.patients.proofs.Determined.{evening-one}
use Rattle.siltbrow.specs.HourlyCall.{HourlyRan}
use Rattle.siltbrow.proofs.hourly.siltbrow_patients.Reads as siltbrow-patients

-- z is the arrival as it stands in the query
pub hourly-ran : (b : Lent) (walk offset : ℕ) (arrival z : ℤ) (duration speed gap n : ℕ) (patients report slice held settled report' slice' : List ℕ) (x : search.Answer) → z ≡ arrival → length slice ≡ 24
    → EveningAllowed b (query_by walk offset z duration speed) gap n patients report (answer_of x held settled) report' × (x.parts ≡ 0)
    → slice' ≡ word x.refusal ++ word x.place ++ word x.settled ++ word x.parts ++ word x.held ++ word x.finished
    → HourlyRan b (query_by walk offset arrival duration speed) gap n patients report slice held settled report' slice' 0
hourly-ran b walk offset arrival z duration speed gap n patients report slice held settled report' slice' x q long A e =
    record {
      untouched = λ m. absurd (m long);
      answered = λ _. (
        refl,
        (
          answer_of x held settled,
          subst (λ (y : ℤ). EveningAllowed b (query_by walk offset y duration speed) gap n patients report (answer_of x held settled) report') q A.0,
          refl,
          refl,
          e ∙ ap (λ (m : ℕ). word x.refusal ++ word x.place ++ word x.settled ++ word m ++ word x.held ++ word x.finished) A.1,
        ),
      );
    }

module _ (b : Lent) (Q : Query) (gap n : ℕ) (patients report slice : List ℕ) where
  pub hourly-one : (h s t a h' s' t' a' : List ℕ) (r r' : ℕ) → HourlyRan b Q gap n patients report slice h s t a r → HourlyRan b Q gap n patients report slice h' s' t' a' r'
      → (r ≡ r') × (h ≡ h') × (s ≡ s') × (t ≡ t') × (a ≡ a')
  hourly-one h s t a h' s' t' a' r r' x y = go (ℕ_discrete (length slice) 24)
    where
      go : Dec (length slice ≡ 24) → (r ≡ r') × (h ≡ h') × (s ≡ s') × (t ≡ t') × (a ≡ a')
      go (yes e) =
          let f = x.answered e in
          let g = y.answered e in
          let z = evening-one b Q gap n patients report f.1.0 g.1.0 t t' f.1.1 g.1.1 in (
            f.0 ∙ sym g.0,
            f.1.2 ∙ ap (λ (w : Answer). w.held) z.0 ∙ sym g.1.2,
            f.1.3 ∙ ap (λ (w : Answer). w.settled) z.0 ∙ sym g.1.3,
            z.1,
            f.1.4 ∙ ap answer_bytes z.0 ∙ sym g.1.4,
          )
      go (no q) =
          let f = x.untouched q in
          let g = y.untouched q in
          (f.0 ∙ sym g.0, f.1 ∙ sym g.1, f.2 ∙ sym g.2, f.3 ∙ sym g.3, f.4 ∙ sym g.4)

-- Two calls with the same arguments return the same and leave the same bytes in all four slices.
pub one-siltbrow-patients : (κs : _) (a : _) (z z' : _) (e e' : _) → siltbrow-patients.Post κs a z e → siltbrow-patients.Post κs a z' e'
    → (z ≡ z') × (e.1.1.1.1.1.1.1.1.1.1.1.1.0.now ≡ e'.1.1.1.1.1.1.1.1.1.1.1.1.0.now) × (e.1.1.1.1.1.1.1.1.1.1.1.1.1.0.now ≡ e'.1.1.1.1.1.1.1.1.1.1.1.1.1.0.now)
    × (e.1.1.1.1.1.1.1.1.1.1.1.1.1.1.0.now ≡ e'.1.1.1.1.1.1.1.1.1.1.1.1.1.1.0.now) × (e.1.1.1.1.1.1.1.1.1.1.1.1.1.1.1.0.now ≡ e'.1.1.1.1.1.1.1.1.1.1.1.1.1.1.1.0.now)
one-siltbrow-patients κs a z z' e e' p q = hourly-one _ _ _ _ _ _ _ _ _ _ _ _ _ _ _ z z' p q
