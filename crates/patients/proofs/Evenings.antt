-- An evening from arrival to arrival, and its end. Assumes nothing.
use mathlib.Core.Path.{◌≡◌, refl, sym, ap, subst, ◌∙◌}
use mathlib.Core.Logic.{◌⊎◌, inl, inr, ◌≢◌}
use mathlib.Core.Bool.{Bool}
use mathlib.Core.List.{List}
use Prim.Native.Nat.{ℕ, ◌+◌, ◌-◌, ◌*◌, ◌/◌, ◌≤◌, ◌<◌}
use native.Mathlib.Omega.{arith}
use lib.ListN.{length, replicate}
use Rattle.journeys.specs.Counting.{none}
use Rattle.journeys.specs.Bytes.{word, cleared}
use Rattle.journeys.specs.Query.{Query}
use Rattle.journeys.specs.Refusals.{Refusal}
use Rattle.journeys.specs.Answers.{Lent, Answer, Allowed, tables, refused_early, refused_late}
use Rattle.journeys.specs.Lists.{vertex_in}
use Rattle.journeys.specs.Valid.{Valid}
use Rattle.journeys.proofs.Tests.{le-or-lt}
use Rattle.journeys.proofs.Decoding.{vertex-count}
use Rattle.journeys.proofs.Refusals.{from-none, from_first}
use Rattle.words.specs.Written.{written}
use Rattle.records.specs.declared.Answer as records
use Rattle.intake.specs.Lending.{lent}
use Rattle.search.specs.Outcome.{answer_of}
use Rattle.evening.specs.Patients.{all_patients, figures}
use Rattle.evening.specs.Asked.{arriving, evening_refusal}
use Rattle.std.specs.Prelude.{⊤, Result, Ok, Err}
use Rattle.words.specs.Told.{number_of, told}
use Rattle.words.proofs.Chains as chains
use Rattle.words.specs.Refusal as words
use Rattle.records.specs.Meaning.{refusal_of}
use Rattle.patients.specs.EveningAnswers.{first_late, Held, EveningAllowed}
use Rattle.evening.specs.Tallied.{reported}
use Rattle.patients.specs.Reporting.{CanReport}
use Rattle.evening.proofs.Judged.{lengths-fine, patients-long, report-long, patients-low, few-arrivals, early-at, valid-at}
use Rattle.patients.proofs.Arrival.{the_list, reaches, reaches-exactly, entry-low, once, the_run, run-allowed, run_is, run-late, Own, own}
use Rattle.evening.proofs.Tallying.{names}
use Rattle.patients.proofs.Stages.{stage, stage-start, stage-low, stage-next, stage-end}

module _ (v w h : List ℕ) (hop : ℕ) (held₀ settled₀ : List ℕ) (Q : Query) (gap n : ℕ) (patients : List ℕ) where
  abbrev b : Lent
  b = lent v w h hop held₀ settled₀

  abbrev m : ℕ
  m = length v / 12

  abbrev at : ℕ → Query
  at j = arriving Q gap j

  abbrev reached : ℕ → ℕ → Bool
  reached j x = reaches (tables b) (at j) x

  -- j arrivals are through
  pub record Ongoing (j : ℕ) (a : records.Answer) (held settled report : List ℕ) : Type 0 where
    pub none-late : (k : ℕ) → k < j → (the_run b (at k)).refusal ≡ 0
    pub are : report ≡ figures (stage reached patients m n j) (m + n + 1)
    pub last : 0 < j → answer_of a held settled ≡ the_run b (at (j - 1))

  module _ (report₀ : List ℕ) (fine : (evening_refusal b Q gap n patients report₀).number ≡ 0) where
    abbrev sized : length report₀ ≡ 4 * (m + n + 1)
    sized = report-long b Q gap n patients report₀ (lengths-fine b Q gap n patients report₀ fine)

    pub ongoing-start : (a : records.Answer) (report : List ℕ) → report ≡ replicate (length report₀) 0 → Ongoing 0 a held₀ settled₀ report
    ongoing-start a report e =
        record {
          none-late = λ k l. absurd (omega arith);
          are = e ∙ ap (λ (k : ℕ). replicate k 0) sized ∙ stage-start reached patients m n (m + n + 1);
          last = λ l. absurd (omega arith);
        }

    pub can-report : (j : ℕ) → j < n → (a : records.Answer) (held settled report : List ℕ) → Ongoing j a held settled report → CanReport m patients report
    can-report j h a held settled report O =
        record {
          counted = λ x l. (omega (arith, patients-long b Q gap n patients report₀ (lengths-fine b Q gap n patients report₀ fine)), patients-low b Q gap n patients report₀ fine x l);
          figure = stage reached patients m n j;
          places = m + n + 1;
          are = O.are;
          enough = omega arith;
          low = λ x l. stage-low reached patients m n j x l (omega (arith, (few-arrivals b Q gap n patients report₀ fine).1));
        }

    -- the run of the arrival j as the code has it
    module _ (j : ℕ) (below : j < n) (a : records.Answer) (held settled report : List ℕ) (lh : length held ≡ length held₀) (ls : length settled ≡ length settled₀) (O : Ongoing j a held settled report)
        (r : records.Answer) (held' settled' : List ℕ) (A : Allowed (lent v w h hop held settled) (at j) none (answer_of r held' settled')) where
      is-run : answer_of r held' settled' ≡ the_run b (at j)
      is-run =
          run_is v w h hop held₀ settled₀ (at j) (early-at b Q gap n patients report₀ fine j below held₀ settled₀ refl refl) held settled (answer_of r held' settled') lh ls
          (early-at b Q gap n patients report₀ fine j below held settled lh ls) A

      number_is : (the_run b (at j)).refusal ≡ r.refusal
      number_is = ap (λ (x : Answer). x.refusal) (sym is-run)

      pub ongoing-next : r.refusal ≡ 0 → (report' : List ℕ) → report' ≡ reported report patients settled' r.settled (4 * (m + j)) → Ongoing (j + 1) r held' settled' report'
      ongoing-next z report' e =
          record {
            none-late = λ k l. earlier k l (le-or-lt j k);
            are = e ∙ stage-next reached patients m n j (the_list (tables b) (at j)) r.settled low (λ x. ap (λ (k : ℕ). names (the_list (tables b) (at j)) k x) L.count ∙ once (tables b) (at j) ok x) report settled' O.are L.bytes below;
            last = λ l. is-run ∙ ap (λ (k : ℕ). the_run b (at k)) (let q : j ≡ j + 1 - 1 = omega arith in q);
          }
        where
          ok : Valid (tables b) (at j)
          ok = valid-at b Q gap n patients report₀ fine j below

          L : Own v w h hop held settled (at j) (early-at b Q gap n patients report₀ fine j below held settled lh ls) r settled'
          L = own v w h hop held settled (at j) (early-at b Q gap n patients report₀ fine j below held settled lh ls) r held' settled' A z

          low : (k : ℕ) → k < r.settled → vertex_in 8 (the_list (tables b) (at j)) k < m
          low k l = omega (arith, entry-low (tables b) (at j) ok k (omega (arith, L.count)), vertex-count hop v w h)

          earlier : (k : ℕ) → k < j + 1 → (j ≤ k) ⊎ (k < j) → (the_run b (at k)).refusal ≡ 0
          earlier k l (inl q) = let e : j ≡ k = omega arith in subst (λ (i : ℕ). (the_run b (at i)).refusal ≡ 0) e (number_is ∙ z)
          earlier k l (inr q) = O.none-late k q

      pub ongoing-late : r.refusal ≢ 0 → (report' : List ℕ) → report' ≡ replicate (length report₀) 0 → Held b Q gap n patients report₀ (answer_of r held' settled') report'
      unfolding cleared
      ongoing-late q report' e =
          record {
            run = λ k. the_run b (at k);
            each = λ k l. run-allowed v w h hop held₀ settled₀ (at k) (early-at b Q gap n patients report₀ fine k l held₀ settled₀ refl refl);
            late = λ _. (is-run ∙ run-late v w h hop held₀ settled₀ (at j) (early-at b Q gap n patients report₀ fine j below held₀ settled₀ refl refl) (λ z. q (sym number_is ∙ z)) ∙ ap (refused_late b) (sym first), e);
            done = λ z. absurd (q (sym number_is ∙ sym (ap (λ (x : Refusal). x.number) first) ∙ z));
          }
        where
          first : first_late (λ k. the_run b (at k)) n ≡ record { number = (the_run b (at j)).refusal; place = (the_run b (at j)).place }
          first =
              from_first (λ k. record { number = (the_run b (at k)).refusal; place = (the_run b (at k)).place }) n 0 j (omega arith) (omega arith) (λ z. q (sym number_is ∙ z))
              (λ k l g. O.none-late k g)

    pub ongoing-end : (j : ℕ) → j ≡ n → (a : records.Answer) (held settled report : List ℕ) → Ongoing j a held settled report → (total : ℕ) → total ≡ all_patients patients m
        → (report' : List ℕ) → report' ≡ written report (4 * (m + n)) (word total) → Held b Q gap n patients report₀ (answer_of a held settled) report'
    ongoing-end j e a held settled report O total t report' f =
        record {
          run = λ k. the_run b (at k);
          each = λ k l. run-allowed v w h hop held₀ settled₀ (at k) (early-at b Q gap n patients report₀ fine k l held₀ settled₀ refl refl);
          late = λ q. absurd (q (ap (λ (x : Refusal). x.number) quiet));
          done = λ _. (
            O.last (omega (arith, e, (few-arrivals b Q gap n patients report₀ fine).0)) ∙ ap (λ (k : ℕ). the_run b (at (k - 1))) e,
            (
              reached,
              record { exactly = λ k x l g. reaches-exactly (tables b) (at k) (valid-at b Q gap n patients report₀ fine k l) x },
              f ∙ stage-end reached patients m n report total (O.are ∙ ap (λ (k : ℕ). figures (stage reached patients m n k) (m + n + 1)) e) t,
            ),
          );
        }
      where
        quiet : first_late (λ k. the_run b (at k)) n ≡ record { number = 0; place = 0 }
        quiet = from-none (λ k. record { number = (the_run b (at k)).refusal; place = (the_run b (at k)).place }) n 0 (λ k l g. O.none-late k (omega (arith, e)))

-- the same query, as the code has it
pub allowed-as : {Q Q' : Query} (b : Lent) (a : Answer) → Q ≡ Q' → Allowed b Q none a → Allowed b Q' none a
allowed-as b a e = subst (λ (x : Query). Allowed b x none a) e

-- ---- the whole operation
module _ (b : Lent) (Q : Query) (gap n : ℕ) (patients report : List ℕ) (fault : Result ⊤ words.Refusal) (F : told fault ≡ evening_refusal b Q gap n patients report) where
  pub passed : {x : ⊤} → fault ≡ Ok x → (evening_refusal b Q gap n patients report).number ≡ 0
  passed f = chains.passes f F

  -- Refusals 1 to 7, 19 and 20: nothing lent is changed.
  pub evening-refused : (why : words.Refusal) → fault ≡ Err why → (r : records.Answer) → r ≡ refusal_of (number_of why.reason) why.place → EveningAllowed b Q gap n patients report (answer_of r b.held b.settled) report × (r.parts ≡ 0)
  unfolding refused_early
  evening-refused why f r e = (
    record {
      refused = λ _. (ap (λ (x : records.Answer). answer_of x b.held b.settled) e ∙ ap (refused_early b) (sym (ap told f) ∙ F), refl);
      accepted = λ z. absurd (chains.refuses f F z);
    },
    ap (λ (x : records.Answer). x.parts) e,
  )

  pub evening-held : {x : ⊤} → fault ≡ Ok x → (a : Answer) (report' : List ℕ) → Held b Q gap n patients report a report' → EveningAllowed b Q gap n patients report a report'
  evening-held f a report' H = record { refused = λ q. absurd (q (passed f)); accepted = λ _. H }
