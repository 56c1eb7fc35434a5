-- Any two results that the run's contract allows are equal: the six numbers and every byte of both buffers. Assumes nothing.
use mathlib.Core.Path.{◌≡◌, sym, ap, ap₂, ◌∙◌}
use mathlib.Core.List.{List}
use Prim.Native.Nat.{ℕ}
use Rattle.journeys.specs.Query.{Query}
use Rattle.journeys.specs.Answers as answers
use Rattle.journeys.specs.Answers.{Lent, Allowed}
use Rattle.journeys.proofs.Determined.{answer-unique}
use Rattle.journeys.proofs.CourierAnswers.{courier-unique}
use Rattle.search.specs.Outcome.{answer_of}
use Rattle.records.specs.declared.Answer.{Answer}
use Rattle.search.proofs.run.Reads as run
use Rattle.search.proofs.courier.Reads as courier
use Rattle.search.proofs.run_judged.Reads as run-judged

-- the six numbers again
numbers : answers.Answer → ℕ → Answer
numbers a parts = record { refusal = a.refusal; place = a.place; settled = a.settled_count; parts = parts; held = a.held_count; finished = a.finished }

same_numbers : (r r' : Answer) (h s h' s' : List ℕ) → answer_of r h s ≡ answer_of r' h' s' → r.parts ≡ r'.parts → (r ≡ r') × (h ≡ h') × (s ≡ s')
unfolding numbers
same_numbers r r' h s h' s' e p = (ap₂ numbers e p, ap (λ (a : answers.Answer). a.held) e, ap (λ (a : answers.Answer). a.settled) e)

allowed-one : (b : Lent) (Q : Query) (limit : ℕ) (r r' : Answer) (h s h' s' : List ℕ) → Allowed b Q limit (answer_of r h s) × (r.parts ≡ 0) → Allowed b Q limit (answer_of r' h' s') × (r'.parts ≡ 0)
    → (r ≡ r') × (h ≡ h') × (s ≡ s')
allowed-one b Q limit r r' h s h' s' x y = same_numbers r r' h s h' s' (answer-unique b Q limit (answer_of r h s) (answer_of r' h' s') x.0 y.0) (x.1 ∙ sym y.1)

pub one-run : (κs : _) (a : _) (z z' : _) (e e' : _) → run.Post κs a z e → run.Post κs a z' e'
    → (z ≡ z') × (e.1.1.1.1.0.now ≡ e'.1.1.1.1.0.now) × (e.1.1.1.1.1.0.now ≡ e'.1.1.1.1.1.0.now)
one-run κs a z z' e e' p q = allowed-one _ _ _ z z' _ _ _ _ p q

-- the same of the run behind refusals 1 to 7, and of its scratch
pub one-run-judged : (κs : _) (a : _) (z z' : _) (e e' : _) → run-judged.Post κs a z e → run-judged.Post κs a z' e'
    → (z ≡ z') × (e.1.1.1.1.0.now ≡ e'.1.1.1.1.0.now) × (e.1.1.1.1.1.0.now ≡ e'.1.1.1.1.1.0.now) × (e.1.1.1.1.1.1.0.now ≡ e'.1.1.1.1.1.1.0.now)
one-run-judged κs a z z' e e' p q = let f = allowed-one _ _ _ z z' _ _ _ _ (p.0, p.1.0) (q.0, q.1.0) in (f.0, f.1, f.2, p.1.1 ∙ sym q.1.1)

-- and of the courier's run
pub one-courier : (κs : _) (a : _) (z z' : _) (e e' : _) → courier.Post κs a z e → courier.Post κs a z' e'
    → (z ≡ z') × (e.1.1.1.1.1.0.now ≡ e'.1.1.1.1.1.0.now) × (e.1.1.1.1.1.1.0.now ≡ e'.1.1.1.1.1.1.0.now)
one-courier κs a z z' e e' p q = same_numbers z z' _ _ _ _ (courier-unique _ _ _ (answer_of z _ _) (answer_of z' _ _) p.0 q.0) (p.1 ∙ sym q.1)
