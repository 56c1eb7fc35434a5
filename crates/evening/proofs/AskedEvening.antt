-- Refusals 1 (places 6 and 7) and 20: each return is the first test that fails. Assumes nothing.
use mathlib.Core.Path.{◌≡◌, sym, ◌∙◌}
use mathlib.Core.Bool.{Bool, true, false, ◌&&◌}
use mathlib.Core.List.{List}
use Prim.Native.Nat.{ℕ, ◌+◌, ◌-◌, ◌*◌, ◌/◌, ◌≤◌}
use native.Mathlib.Omega.{arith}
use native.Mathlib.Nat.{mul-le-mul}
use lib.Dec.{eqb, leb}
use lib.ListN.{length}
use borrow.Author.Tests.{eq-eqb, ne_eqb, leb-true}
use Rattle.journeys.specs.Bytes.{midnight}
use Rattle.journeys.specs.Query.{Query}
use Rattle.journeys.specs.Refusals.{fine}
use Rattle.journeys.proofs.Tests.{and_both}
use Rattle.intake.proofs.FirstFault.{failed, passed, last, last-failed}
use Rattle.evening.specs.Asked.{report_lengths, evening_ok}

module _ (v patients : List ℕ) (n : ℕ) (report : List ℕ) where
  pub patients-cut : (length patients ≡ 4 * (length v / 12) → ⊥) → record { number = 1; place = 6 } ≡ report_lengths v patients n report
  unfolding report_lengths
  patients-cut q = sym (failed (eqb (length patients) (4 * (length v / 12))) 1 6 _ (omega arith) (ne_eqb _ _ q))

  pub report-cut : length patients ≡ 4 * (length v / 12) → (length report ≡ 4 * (length v / 12 + n + 1) → ⊥) → record { number = 1; place = 7 } ≡ report_lengths v patients n report
  unfolding report_lengths
  report-cut p q = sym (passed (eqb (length patients) (4 * (length v / 12))) 1 6 _ (eq-eqb _ _ p) ∙ last-failed (eqb (length report) (4 * (length v / 12 + n + 1))) 1 7 (ne_eqb _ _ q))

  pub none-cut : length patients ≡ 4 * (length v / 12) → length report ≡ 4 * (length v / 12 + n + 1) → fine ≡ report_lengths v patients n report
  unfolding report_lengths
  none-cut p q = sym (passed (eqb (length patients) (4 * (length v / 12))) 1 6 _ (eq-eqb _ _ p) ∙ last (eqb (length report) (4 * (length v / 12 + n + 1))) 1 7 (eq-eqb _ _ q))

module _ (Q : Query) (gap n : ℕ) where
  abbrev pub gap_ok : Bool
  gap_ok = leb 1 gap && leb gap 3600

  abbrev pub many_ok : Bool
  many_ok = leb 1 n && leb n 96

  abbrev pub last_ok : Bool
  last_ok = leb (Q.arrival + gap * (n - 1)) (midnight + 172800)

  pub gap-fault : gap_ok ≡ false → record { number = 20; place = 0 } ≡ evening_ok Q gap n
  unfolding evening_ok
  gap-fault e = sym (failed gap_ok 20 0 _ (omega arith) e)

  pub many-fault : gap_ok ≡ true → many_ok ≡ false → record { number = 20; place = 1 } ≡ evening_ok Q gap n
  unfolding evening_ok
  many-fault g e = sym (passed gap_ok 20 0 _ g ∙ failed many_ok 20 1 _ (omega arith) e)

  pub last-fault : gap_ok ≡ true → many_ok ≡ true → last_ok ≡ false → record { number = 20; place = 2 } ≡ evening_ok Q gap n
  unfolding evening_ok
  last-fault g m e = sym (passed gap_ok 20 0 _ g ∙ passed many_ok 20 1 _ m ∙ last-failed last_ok 20 2 e)

  pub evening-good : gap_ok ≡ true → many_ok ≡ true → last_ok ≡ true → fine ≡ evening_ok Q gap n
  unfolding evening_ok
  evening-good g m e = sym (passed gap_ok 20 0 _ g ∙ passed many_ok 20 1 _ m ∙ last last_ok 20 2 e)

  pub within-hour : gap_ok ≡ true → gap ≤ 3600
  within-hour g = leb-true gap 3600 (and_both (leb 1 gap) (leb gap 3600) g).1

  pub some-arrivals : many_ok ≡ true → (1 ≤ n) × (n ≤ 96)
  some-arrivals m = let z = and_both (leb 1 n) (leb n 96) m in (leb-true 1 n z.0, leb-true n 96 z.1)

  -- the last arrival is some four days after the first at most
  pub short : gap_ok ≡ true → many_ok ≡ true → gap * (n - 1) ≤ 342000
  short g m =
      let few : n - 1 ≤ 95 = omega (arith, (some-arrivals m).1) in
      omega (arith, mul-le-mul (within-hour g) few)
