-- The table of evenings holds, computed from the definitions: in each row whatever answer the definitions allow shows what is wanted. Assumes nothing.
use mathlib.Core.Path.{◌≡◌, refl, sym, ap, ap₂, ◌∙◌}
use mathlib.Core.Logic.{◌⊎◌, inl, inr}
use mathlib.Core.Bool.{true, false, cond}
use mathlib.Core.List.{List, [], ◌∷◌, map}
use Prim.Native.Nat.{ℕ, ◌-◌, ◌/◌, ◌<◌}
use native.Mathlib.Omega.{arith}
use lib.Dec.{eqb}
use lib.ListN.{length}
use borrow.Author.Tests.{eqb-true, eqb-false}
use Rattle.journeys.specs.Bytes.{cleared}
use Rattle.journeys.specs.Counting.{In, none}
use Rattle.journeys.specs.Query.{Query}
use Rattle.journeys.proofs.Decoding.{vertex-count}
use Rattle.journeys.proofs.Determined.{answer-unique}
use Rattle.journeys.specs.Refusals.{Refusal}
use Rattle.journeys.specs.Answers.{Lent, Answer, tables, refused_early, refused_late, late_for}
use Rattle.journeys.specs.Marked.{words}
use Rattle.journeys.proofs.Tests.{split, cond-true, cond-false}
use Rattle.journeys.proofs.Cases.{tested}
use Rattle.journeys.proofs.Refusals.{from-fine}
use Rattle.evening.specs.Patients.{sum}
use Rattle.evening.specs.Asked.{arriving, evening_refusal, evening_lengths, report_lengths, patients_ok, evening_ok}
use Rattle.patients.specs.Evening.{report_bytes}
use Rattle.patients.specs.EveningAnswers.{first_late, Held, EveningAllowed}
use Rattle.patients.specs.Rows.{Row, view, rows}
use Rattle.evening.proofs.Judged.{few-arrivals, early-at, valid-at}
use Rattle.patients.proofs.Arrival.{the_run, reaches, reaches-exactly, run-allowed, run-listed}
use Rattle.patients.proofs.Determined.{from-as, report-one}

-- what a row shows, computed
abbrev pub shown : Row → List ℕ
shown r =
    let refusal = evening_refusal r.lent r.query r.gap r.arrivals r.patients r.report in
    let short = first_late (λ j. the_run r.lent (arriving r.query r.gap j)) r.arrivals in
    cond (eqb refusal.number 0)
    (cond (eqb short.number 0)
    (0 ∷ 0 ∷ words (report_bytes (λ j v. reaches (tables r.lent) (arriving r.query r.gap j) v) r.patients (length r.lent.vertices / 12) r.arrivals))
    (short.number ∷ short.place ∷ words (cleared r.report)))
    (refusal.number ∷ refusal.place ∷ words r.report)

-- The runs of an evening are the ones computed, and so is the first that lacks room.
runs-are : (r : Row) (a : Answer) (report' : List ℕ) → (evening_refusal r.lent r.query r.gap r.arrivals r.patients r.report).number ≡ 0
    → (H : Held r.lent r.query r.gap r.arrivals r.patients r.report a report')
    → ((j : ℕ) → j < r.arrivals → H.run j ≡ the_run r.lent (arriving r.query r.gap j))
    × (first_late H.run r.arrivals ≡ first_late (λ j. the_run r.lent (arriving r.query r.gap j)) r.arrivals)
runs-are r a report' fine H = (one, from-as _ _ r.arrivals 0 (λ k l h. ap (λ (x : Answer). record { number = x.refusal; place = x.place }) (one k (omega arith))))
  where
    one : (j : ℕ) → j < r.arrivals → H.run j ≡ the_run r.lent (arriving r.query r.gap j)
    one j h =
        answer-unique r.lent (arriving r.query r.gap j) none (H.run j) (the_run r.lent (arriving r.query r.gap j)) (H.each j h)
        (run-allowed r.lent.vertices r.lent.walks r.lent.hops r.lent.hop_size r.lent.held r.lent.settled (arriving r.query r.gap j) (early-at r.lent r.query r.gap r.arrivals r.patients r.report fine j h r.lent.held r.lent.settled refl refl))

-- Whatever answer the definitions allow shows that.
pub shown-is : (r : Row) (a : Answer) (report' : List ℕ) → EveningAllowed r.lent r.query r.gap r.arrivals r.patients r.report a report' → view a report' ≡ shown r
unfolding refused_early late_for
shown-is r a report' E = go (split (eqb (evening_refusal r.lent r.query r.gap r.arrivals r.patients r.report).number 0))
  where
    b : Lent
    b = r.lent

    at : ℕ → Query
    at j = arriving r.query r.gap j

    n : ℕ
    n = r.arrivals

    done : (evening_refusal r.lent r.query r.gap r.arrivals r.patients r.report).number ≡ 0 → Held r.lent r.query r.gap r.arrivals r.patients r.report a report'
        → (eqb (first_late (λ j. the_run r.lent (arriving r.query r.gap j)) r.arrivals).number 0 ≡ true) ⊎ (eqb (first_late (λ j. the_run r.lent (arriving r.query r.gap j)) r.arrivals).number 0 ≡ false)
        → view a report'
        ≡ cond (eqb (first_late (λ j. the_run r.lent (arriving r.query r.gap j)) r.arrivals).number 0)
        (0 ∷ 0 ∷ words (report_bytes (λ j v. reaches (tables r.lent) (arriving r.query r.gap j) v) r.patients (length r.lent.vertices / 12) r.arrivals))
        ((first_late (λ j. the_run r.lent (arriving r.query r.gap j)) r.arrivals).number ∷ (first_late (λ j. the_run r.lent (arriving r.query r.gap j)) r.arrivals).place ∷ words (cleared r.report))
    done fine H (inl t) =
        let e = runs-are r a report' fine H in
        let some = (few-arrivals r.lent r.query r.gap r.arrivals r.patients r.report fine).0 in
        let z = eqb-true _ 0 t in
        let x = H.done (ap (λ (y : Refusal). y.number) e.1 ∙ z) in
        let h : n - 1 < n = omega (arith, some) in
        let p = early-at r.lent r.query r.gap r.arrivals r.patients r.report fine (n - 1) h b.held b.settled refl refl in
        let quiet : (the_run b (at (n - 1))).refusal ≡ 0 = from-fine (λ j. record { number = (the_run b (at j)).refusal; place = (the_run b (at j)).place }) n 0 z (n - 1) (omega arith) (omega (arith, some)) in
        let L = run-listed b.vertices b.walks b.hops b.hop_size b.held b.settled (at (n - 1)) p quiet in
        let a-is : a ≡ the_run b (at (n - 1)) = x.0 ∙ e.0 (n - 1) h in
        let report-is = x.1.2 ∙ report-one (tables b) r.query r.gap n x.1.0 (λ j v. reaches (tables b) (at j) v) x.1.1 (record { exactly = λ i v g k. reaches-exactly (tables b) (at i) (valid-at r.lent r.query r.gap r.arrivals r.patients r.report fine i g) v }) r.patients (length b.vertices / 12) (sym (vertex-count b.hop_size b.vertices b.walks b.hops)) in
        let number : a.refusal ≡ 0 = ap (λ (y : Answer). y.refusal) a-is ∙ quiet in
        let place : a.place ≡ 0 = ap (λ (y : Answer). y.place) a-is ∙ L.no_place in
        ap (λ (y : ℕ). y ∷ a.place ∷ words report') number ∙ ap (λ (y : ℕ). 0 ∷ y ∷ words report') place ∙ ap (λ (y : List ℕ). 0 ∷ 0 ∷ words y) report-is ∙ sym (cond-true _ _ t)
    done fine H (inr t) =
        let e = runs-are r a report' fine H in
        let q = eqb-false _ 0 t in
        let x = H.late (λ z. q (sym (ap (λ (y : Refusal). y.number) e.1) ∙ z)) in
        ap₂ view (x.0 ∙ ap (refused_late b) e.1) x.1 ∙ sym (cond-false _ _ t)

    go : (eqb (evening_refusal r.lent r.query r.gap r.arrivals r.patients r.report).number 0 ≡ true) ⊎ (eqb (evening_refusal r.lent r.query r.gap r.arrivals r.patients r.report).number 0 ≡ false) → view a report' ≡ shown r
    go (inl t) = let fine = eqb-true _ 0 t in done fine (E.accepted fine) (split _) ∙ sym (cond-true _ _ t)
    go (inr t) = let x = E.refused (eqb-false _ 0 t) in ap₂ view x.0 x.1 ∙ sym (cond-false _ _ t)

unfoldable pub rows_show : Type 0
unfolding tested rows evening_refusal evening_lengths report_lengths patients_ok evening_ok report_bytes sum
rows_show = map shown rows ≡ map (λ (r : Row). r.want) rows

rows-computed : rows_show
unfolding rows_show
rows-computed = refl

head : List (List ℕ) → List ℕ
head [] = []
head (x ∷ l) = x

tail : List (List ℕ) → List (List ℕ)
tail [] = []
tail (x ∷ l) = l

each : (f g : Row → List ℕ) (l : List Row) → map f l ≡ map g l → (r : Row) → In r l → f r ≡ g r
unfolding head tail
each f g [] e r i = absurd i
each f g (x ∷ l) e r (inl q) = ap f q ∙ ap head e ∙ sym (ap g q)
each f g (x ∷ l) e r (inr i) = each f g l (ap tail e) r i

-- Every row of the table holds.
pub rows-hold : (r : Row) → In r rows → (a : Answer) (report' : List ℕ) → EveningAllowed r.lent r.query r.gap r.arrivals r.patients r.report a report' → view a report' ≡ r.want
unfolding rows_show
rows-hold r i a report' E = shown-is r a report' E ∙ each shown (λ (x : Row). x.want) rows rows-computed r i
