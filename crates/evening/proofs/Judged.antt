-- What an evening has that is not refused: lengths, counts, and a good query at every arrival. Assumes nothing.
use mathlib.Core.Path.{◌≡◌, refl, ap, ap₂, ◌∙◌}
use mathlib.Core.Bool.{true, ◌&&◌}
use mathlib.Core.List.{List}
use Prim.Native.Nat.{ℕ, ◌+◌, ◌-◌, ◌*◌, ◌/◌, ◌%◌, ◌≤◌, ◌<◌}
use native.Mathlib.Omega.{arith}
use native.Mathlib.Nat.{mul-le-mul_left}
use lib.Dec.{eqb, leb, ltb}
use lib.ListN.{length}
use borrow.Author.Tests.{eqb-true, leb-true, le-leb}
use Rattle.journeys.specs.Bytes.{midnight}
use Rattle.journeys.specs.Tables.{walk_count}
use Rattle.journeys.specs.Query.{Query, asked}
use Rattle.journeys.specs.Refusals.{Refusal, unless, or_else, first_bad, whole_of, table_lengths, buffer_lengths, contents, query_refusal}
use Rattle.journeys.specs.Answers.{Lent, tables, early}
use Rattle.journeys.specs.Valid.{Valid}
use Rattle.journeys.proofs.Tests.{and_both, and-true}
use Rattle.journeys.proofs.Refusals.{or-fine, or-next, unless-fine, bad-fine}
use Rattle.journeys.proofs.Valid.{early-valid}
use Rattle.intake.specs.Lending.{lent}
use Rattle.intake.proofs.FirstFault.{passed, last}
use Rattle.evening.specs.Patients.{patients_of}
use Rattle.evening.specs.Asked.{arriving, patients_ok, report_lengths, evening_ok, evening_lengths, evening_refusal}
use Rattle.evening.proofs.AskedEvening.{gap_ok, many_ok, last_ok, some-arrivals}

abbrev number_of : Refusal → ℕ
number_of r = r.number

-- the buffers are asked for their lengths alone
buffers-as : (held held' settled settled' : List ℕ) → length held ≡ length held' → length settled ≡ length settled' → buffer_lengths held settled ≡ buffer_lengths held' settled'
unfolding buffer_lengths whole_of
buffers-as held held' settled settled' e f = ap₂ (λ (m n : ℕ). or_else (unless (eqb (m % 16) 0) 1 3) (unless (eqb (n % 8) 0) 1 4)) e f

module _ (b : Lent) (Q : Query) (gap n : ℕ) (patients report : List ℕ) where
  abbrev pub size : ℕ
  size = length b.vertices / 12

  -- the lengths
  module _ (fine : (evening_lengths b n patients report).number ≡ 0) where
    pub tables-fine : (table_lengths b.hop_size b.vertices b.walks b.hops).number ≡ 0
    unfolding evening_lengths
    tables-fine = (or-fine (table_lengths b.hop_size b.vertices b.walks b.hops) _ fine).0

    buffers-fine : ((buffer_lengths b.held b.settled).number ≡ 0) × ((report_lengths b.vertices patients n report).number ≡ 0)
    unfolding evening_lengths
    buffers-fine = or-fine (buffer_lengths b.held b.settled) _ (or-fine (table_lengths b.hop_size b.vertices b.walks b.hops) _ fine).1

    pub patients-long : length patients ≡ 4 * size
    unfolding report_lengths
    patients-long = eqb-true _ _ (unless-fine (eqb (length patients) (4 * size)) 1 6 (omega arith) (or-fine (unless (eqb (length patients) (4 * size)) 1 6) _ buffers-fine.1).0)

    pub report-long : length report ≡ 4 * (size + n + 1)
    unfolding report_lengths
    report-long = eqb-true _ _ (unless-fine (eqb (length report) (4 * (size + n + 1))) 1 7 (omega arith) (or-fine (unless (eqb (length patients) (4 * size)) 1 6) _ buffers-fine.1).1)

  pub query-window : (query_refusal (tables b) Q).number ≡ 0 → (midnight ≤ Q.arrival) × (Q.arrival ≤ midnight + 172800)
  unfolding query_refusal
  query-window e =
      let x = or-fine (unless (ltb Q.walk (walk_count (tables b))) 7 0) _ e in
      let y = or-fine (unless (leb Q.offset (asked (tables b) Q).len) 7 1) _ x.1 in
      let z = or-fine (unless (leb midnight Q.arrival && leb Q.arrival (midnight + 172800)) 7 2) _ y.1 in
      let t = and_both (leb midnight Q.arrival) (leb Q.arrival (midnight + 172800)) (unless-fine _ 7 2 (omega arith) z.0) in
      (leb-true midnight Q.arrival t.0, leb-true Q.arrival (midnight + 172800) t.1)

  module _ (fine : (evening_refusal b Q gap n patients report).number ≡ 0) where
    split-fine : ((evening_lengths b n patients report).number ≡ 0) × ((contents (tables b)).number ≡ 0) × ((query_refusal (tables b) Q).number ≡ 0)
        × ((first_bad 19 (patients_ok patients) size).number ≡ 0) × ((evening_ok Q gap n).number ≡ 0)
    unfolding evening_refusal
    split-fine =
        let x = or-fine (evening_lengths b n patients report) _ fine in
        let y = or-fine (contents (tables b)) _ x.1 in
        let z = or-fine (query_refusal (tables b) Q) _ y.1 in
        let w = or-fine (first_bad 19 (patients_ok patients) size) _ z.1 in
        (x.0, y.0, z.0, w.0, w.1)

    pub lengths-fine : (evening_lengths b n patients report).number ≡ 0
    lengths-fine = split-fine.0

    pub patients-low : (v : ℕ) → v < size → patients_of patients v ≤ 65535
    unfolding patients_ok
    patients-low v h = leb-true (patients_of patients v) 65535 (bad-fine 19 (patients_ok patients) size (omega arith) split-fine.3 v h)

    asked-good : (gap_ok Q gap n ≡ true) × (many_ok Q gap n ≡ true) × (last_ok Q gap n ≡ true)
    unfolding evening_ok
    asked-good =
        let x = or-fine (unless (gap_ok Q gap n) 20 0) _ split-fine.4 in
        let y = or-fine (unless (many_ok Q gap n) 20 1) _ x.1 in
        (unless-fine (gap_ok Q gap n) 20 0 (omega arith) x.0, unless-fine (many_ok Q gap n) 20 1 (omega arith) y.0, unless-fine (last_ok Q gap n) 20 2 (omega arith) y.1)

    pub few-arrivals : (1 ≤ n) × (n ≤ 96)
    few-arrivals = some-arrivals Q gap n asked-good.1

    -- every arrival lies within two days
    pub arrival-good : (j : ℕ) → j < n → (midnight ≤ Q.arrival) × (Q.arrival + gap * j ≤ midnight + 172800)
    arrival-good j h =
        let le : j ≤ n - 1 = omega arith in
        ((query-window split-fine.2).0, omega (arith, mul-le-mul_left gap le, leb-true (Q.arrival + gap * (n - 1)) (midnight + 172800) asked-good.2))

    query-at : (j : ℕ) → j < n → (query_refusal (tables b) (arriving Q gap j)).number ≡ 0
    unfolding query_refusal
    query-at j h =
        let x = or-fine (unless (ltb Q.walk (walk_count (tables b))) 7 0) _ split-fine.2 in
        let y = or-fine (unless (leb Q.offset (asked (tables b) Q).len) 7 1) _ x.1 in
        let z = or-fine (unless (leb midnight Q.arrival && leb Q.arrival (midnight + 172800)) 7 2) _ y.1 in
        let w = or-fine (unless (leb 1 Q.duration && leb Q.duration 86400) 7 3) _ z.1 in
        let t = arrival-good j h in
        let good : leb midnight (Q.arrival + gap * j) && leb (Q.arrival + gap * j) (midnight + 172800) ≡ true =
        and-true (le-leb midnight (Q.arrival + gap * j) (omega (arith, t.0))) (le-leb (Q.arrival + gap * j) (midnight + 172800) t.1) in
        ap number_of
        (passed (ltb Q.walk (walk_count (tables b))) 7 0 _ (unless-fine _ 7 0 (omega arith) x.0)
        ∙ passed (leb Q.offset (asked (tables b) Q).len) 7 1 _ (unless-fine _ 7 1 (omega arith) y.0)
        ∙ passed (leb midnight (Q.arrival + gap * j) && leb (Q.arrival + gap * j) (midnight + 172800)) 7 2 _ good
        ∙ passed (leb 1 Q.duration && leb Q.duration 86400) 7 3 _ (unless-fine _ 7 3 (omega arith) w.0)
        ∙ last (leb 1 Q.speed && leb Q.speed 100) 7 4 (unless-fine _ 7 4 (omega arith) w.1))

    -- The tables, the buffers as any run leaves them and the query of every arrival are good: judged once, they stay so.
    pub early-at : (j : ℕ) → j < n → (held settled : List ℕ) → length held ≡ length b.held → length settled ≡ length b.settled
        → (early (lent b.vertices b.walks b.hops b.hop_size held settled) (arriving Q gap j)).number ≡ 0
    unfolding early
    early-at j h held settled e f =
        ap number_of
        (or-next (table_lengths b.hop_size b.vertices b.walks b.hops) _ (tables-fine lengths-fine)
        ∙ or-next (buffer_lengths held settled) _ (ap number_of (buffers-as held b.held settled b.settled e f) ∙ (buffers-fine lengths-fine).0)
        ∙ or-next (contents (tables b)) _ split-fine.1)
        ∙ query-at j h

    pub valid-at : (j : ℕ) → j < n → Valid (tables b) (arriving Q gap j)
    valid-at j h = early-valid b (arriving Q gap j) (early-at j h b.held b.settled refl refl)
