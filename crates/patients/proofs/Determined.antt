-- Any two results that the contract allows are equal: the six numbers, every byte of both buffers and of the report. Assumes nothing.
use mathlib.Core.Path.{◌≡◌, refl, sym, ap, ap₂, ◌∙◌}
use mathlib.Core.Logic.{◌⊎◌, inl, inr}
use mathlib.Core.Bool.{Bool, true, false, cond}
use mathlib.Core.List.{List, ◌++◌}
use Prim.Native.Nat.{ℕ, zero, suc, ◌+◌, ◌-◌, ◌/◌, ◌<◌, ◌≤◌}
use native.Mathlib.Omega.{arith}
use native.Mathlib.Decide.{ℕ_discrete}
use lib.ListN.{length}
use Rattle.journeys.specs.Bytes.{word}
use Rattle.journeys.specs.Tables.{Tables, vertex_count}
use Rattle.journeys.specs.Query.{Query}
use Rattle.journeys.specs.Refusals.{Refusal, or_else, first_from}
use Rattle.journeys.specs.Answers.{Lent, Answer, tables, refused_late}
use Rattle.journeys.proofs.Tests.{split, never}
use Rattle.journeys.proofs.Counting.{count_same}
use Rattle.journeys.proofs.Decoding.{vertex-count}
use Rattle.journeys.proofs.Determined.{answer-unique}
use Rattle.records.specs.declared.Answer as records
use Rattle.evening.specs.Patients.{patients_of, all_patients}
use Rattle.evening.specs.Asked.{arriving, evening_refusal}
use Rattle.patients.specs.Evening.{Reaches, times_settled, covered, report_bytes}
use Rattle.patients.specs.EveningAnswers.{first_late, Held, EveningAllowed}
use Rattle.evening.proofs.Sums.{sum_same}
use Rattle.evening.proofs.Figures.{figures-same}
use Rattle.evening.proofs.Judged.{few-arrivals}
use Rattle.patients.proofs.evening.Reads as evening

-- who is reached is told by journeys, so two tellers agree
module _ (N : Tables) (Q : Query) (gap n : ℕ) (r r' : ℕ → ℕ → Bool) (R : Reaches N Q gap n r) (R' : Reaches N Q gap n r') where
  pub reached-one : (j v : ℕ) → j < n → v < vertex_count N → r j v ≡ r' j v
  reached-one j v h l = go (split (r j v)) (split (r' j v))
    where
      go : (r j v ≡ true) ⊎ (r j v ≡ false) → (r' j v ≡ true) ⊎ (r' j v ≡ false) → r j v ≡ r' j v
      go (inl t) u = t ∙ sym ((R'.exactly j v h l).1 ((R.exactly j v h l).0 t))
      go (inr t) (inl u) = absurd (never ((R.exactly j v h l).1 ((R'.exactly j v h l).0 u)) t)
      go (inr t) (inr u) = t ∙ sym u

  pub report-one : (patients : List ℕ) (m : ℕ) → m ≡ vertex_count N → report_bytes r patients m n ≡ report_bytes r' patients m n
  unfolding report_bytes
  report-one patients m e =
      ap₂ (λ (a b : List ℕ). a ++ b ++ word (all_patients patients m))
      (figures-same (times_settled r patients m n) (times_settled r' patients m n) m (λ v l. count_same (λ j. r j v) (λ j. r' j v) n (λ j h. reached-one j v h (omega (arith, e)))))
      (figures-same (covered r patients m n) (covered r' patients m n) n (λ j h. sum_same _ _ m (λ v l. ap (λ (b : Bool). cond b (patients_of patients v) 0) (reached-one j v h (omega (arith, e))))))

pub from-as : (f g : ℕ → Refusal) (n i : ℕ) → ((k : ℕ) → i ≤ k → k < i + n → f k ≡ g k) → first_from f n i ≡ first_from g n i
unfolding first_from
from-as f g zero i h = refl
from-as f g (suc n) i h = ap₂ or_else (h i (omega arith) (omega arith)) (from-as f g n (i + 1) (λ k a b. h k (omega arith) (omega arith)))

module _ (b : Lent) (Q : Query) (gap n : ℕ) (patients report : List ℕ) where
  held_one : (evening_refusal b Q gap n patients report).number ≡ 0 → (a a' : Answer) (s s' : List ℕ) → Held b Q gap n patients report a s → Held b Q gap n patients report a' s' → (a ≡ a') × (s ≡ s')
  held_one fine a a' s s' H H' = go (ℕ_discrete (first_late H.run n).number 0)
    where
      runs : (j : ℕ) → j < n → H.run j ≡ H'.run j
      runs j h = answer-unique b (arriving Q gap j) _ (H.run j) (H'.run j) (H.each j h) (H'.each j h)

      first : first_late H.run n ≡ first_late H'.run n
      first = from-as _ _ n 0 (λ k l h. ap (λ (x : Answer). record { number = x.refusal; place = x.place }) (runs k (omega arith)))

      go : Dec ((first_late H.run n).number ≡ 0) → (a ≡ a') × (s ≡ s')
      go (yes e) =
          let x = H.done e in
          let y = H'.done (ap (λ (r : Refusal). r.number) (sym first) ∙ e) in
          let some = (few-arrivals b Q gap n patients report fine).0 in (
            x.0 ∙ runs (n - 1) (omega (arith, some)) ∙ sym y.0,
            x.1.2 ∙ report-one (tables b) Q gap n x.1.0 y.1.0 x.1.1 y.1.1 patients (length b.vertices / 12) (sym (vertex-count b.hop_size b.vertices b.walks b.hops)) ∙ sym y.1.2,
          )
      go (no q) =
          let x = H.late q in
          let y = H'.late (λ z. q (ap (λ (r : Refusal). r.number) first ∙ z)) in
          (x.0 ∙ ap (refused_late b) first ∙ sym y.0, x.1 ∙ sym y.1)

  pub evening-one : (a a' : Answer) (s s' : List ℕ) → EveningAllowed b Q gap n patients report a s → EveningAllowed b Q gap n patients report a' s' → (a ≡ a') × (s ≡ s')
  evening-one a a' s s' x y = go (ℕ_discrete (evening_refusal b Q gap n patients report).number 0)
    where
      go : Dec ((evening_refusal b Q gap n patients report).number ≡ 0) → (a ≡ a') × (s ≡ s')
      go (yes e) = held_one e a a' s s' (x.accepted e) (y.accepted e)
      go (no q) = let f = x.refused q in let g = y.refused q in (f.0 ∙ sym g.0, f.1 ∙ sym g.1)

-- the six numbers again
numbers : Answer → ℕ → records.Answer
numbers a parts = record { refusal = a.refusal; place = a.place; settled = a.settled_count; parts = parts; held = a.held_count; finished = a.finished }

pub one-evening : (κs : _) (a : _) (z z' : _) (e e' : _) → evening.Post κs a z e → evening.Post κs a z' e'
    → (z ≡ z') × (e.1.1.1.1.0.now ≡ e'.1.1.1.1.0.now) × (e.1.1.1.1.1.0.now ≡ e'.1.1.1.1.1.0.now) × (e.1.1.1.1.1.1.1.0.now ≡ e'.1.1.1.1.1.1.1.0.now)
unfolding numbers
one-evening κs a z z' e e' p q =
    let f = evening-one _ _ _ _ _ _ _ _ _ _ p.0 q.0 in
    (ap₂ numbers f.0 (p.1 ∙ sym q.1), ap (λ (x : Answer). x.held) f.0, ap (λ (x : Answer). x.settled) f.0, f.1)
