-- The parts of the check joined to the definition. Assumes nothing.
use mathlib.Core.Path.{◌≡◌, refl, sym, ap, ap₂, ◌∙◌}
use mathlib.Core.Bool.{Bool, true, ◌||◌}
use mathlib.Core.List.{List, []}
use Prim.Native.Nat.{ℕ, zero, suc, ◌+◌, ◌-◌, ◌/◌, ◌≤◌, ◌<◌}
use native.Mathlib.Omega.{arith}
use lib.Dec.{eqb, leb}
use lib.ListN.{length}
use Rattle.journeys.specs.Tables.{walk_at, hop_at, tables_of, vertex_count, walk_count, hop_count}
use Rattle.journeys.specs.Refusals.{Refusal, unless, or_else, first_from, first_bad, hop_size_ok, table_of, table_lengths, ends_ok, walk_ok, hop_ok, walk_ascends, hop_ascends, vertex_ok, contents}
use Rattle.journeys.proofs.Tests.{and_both}
use Rattle.journeys.proofs.Decoding.{vertex-count, walk-count, hop-count}
use Rattle.records.specs.Columns.{records_in, ascends_at}
use Rattle.records.specs.declared.Kind.TheVariants.{Walks, Hops}
use Rattle.records.proofs.Columns.{walk-to, hop-to}
use Rattle.records.proofs.Judged.{walk-ok, hop-ok}
use Rattle.audit.specs.Judging.{Sizes, Passed, record_fault, vertex_refusals}
use Rattle.departing.specs.Scratch.{Low}
use Rattle.journeys.proofs.Refusals.{or-fine, unless-fine, bad-fine}
use Rattle.journeys.proofs.Valid.{table_fits, size_fits, ends-good}
use Rattle.audit.proofs.Scan.{refusing}

-- ---- tests that agree find the same
scan-same : (number : ℕ) (p q : ℕ → Bool) (n i : ℕ) → ((k : ℕ) → i ≤ k → k < i + n → p k ≡ q k) → first_from (refusing number p) n i ≡ first_from (refusing number q) n i
unfolding first_from
scan-same number p q zero i h = refl
scan-same number p q (suc n) i h =
    ap₂ or_else (ap (λ (b : Bool). unless b number i) (h i (omega arith) (omega arith))) (scan-same number p q n (i + 1) (λ k a b. h k (omega arith) (omega arith)))

pub bad-same : (number : ℕ) (p q : ℕ → Bool) (n : ℕ) → ((k : ℕ) → k < n → p k ≡ q k) → first_bad number p n ≡ first_bad number q n
unfolding first_bad
bad-same number p q n h = scan-same number p q n 0 (λ k a b. h k (omega arith))

-- ---- refusal 1
pub sizes : (size : ℕ) (v w h : List ℕ) → (table_lengths size v w h).number ≡ 0 → Sizes size v w h
unfolding table_lengths
sizes size v w h e =
    let a = or-fine (unless (table_of 12 1 65536 v) 1 0) _ e in
    let b = or-fine (unless (table_of 16 0 262144 w) 1 1) _ a.1 in
    record {
      vertices_most = (table_fits 12 1 65536 v (unless-fine _ 1 0 (omega arith) a.0)).1;
      walks_most = (table_fits 16 0 262144 w (unless-fine _ 1 1 (omega arith) b.0)).1;
      hops_most = (table_fits size 0 262144 h (and_both (hop_size_ok size) _ (unless-fine _ 1 2 (omega arith) b.1)).1).1;
      hop_fits = size_fits size v w h e;
    }

-- ---- refusals 2 to 6
module _ (size : ℕ) (v w h : List ℕ) where
  abbrev pub walks_bad : Refusal
  walks_bad = first_from (record_fault Walks 16 v w) (records_in 16 w) 0

  abbrev pub hops_bad : Refusal
  hops_bad = first_from (record_fault Hops size v h) (records_in size h) 0

  abbrev pub walks_fall : Refusal
  walks_fall = first_bad 4 (ascends_at 16 w) (records_in 16 w)

  abbrev pub hops_fall : Refusal
  hops_fall = first_bad 5 (ascends_at size h) (records_in size h)

  abbrev pub vertices_bad : Refusal
  vertices_bad = vertex_refusals (tables_of size v w h) (length v / 12) 0

  two : first_bad 2 (walk_ok (tables_of size v w h)) (walk_count (tables_of size v w h)) ≡ walks_bad
  unfolding first_bad record_fault
  two =
      ap (first_bad 2 (walk_ok (tables_of size v w h))) (walk-count size v w h)
      ∙ bad-same 2 (walk_ok (tables_of size v w h)) (walk_ok (tables_of 16 v w [])) (records_in 16 w) (λ i l. walk-ok size v w h i l ∙ sym (walk-ok 16 v w [] i l))

  three : first_bad 3 (hop_ok (tables_of size v w h)) (hop_count (tables_of size v w h)) ≡ hops_bad
  unfolding first_bad record_fault
  three =
      ap (first_bad 3 (hop_ok (tables_of size v w h))) (hop-count size v w h)
      ∙ bad-same 3 (hop_ok (tables_of size v w h)) (hop_ok (tables_of size v [] h)) (records_in size h) (λ j l. hop-ok size v w h j l ∙ sym (hop-ok size v [] h j l))

  walk-ascends : (i : ℕ) → i < records_in 16 w → walk_ascends (tables_of size v w h) i ≡ ascends_at 16 w i
  unfolding walk_ascends ascends_at
  walk-ascends i l = ap₂ (λ (a b : ℕ). eqb i 0 || leb a b) (walk-to size v w h (i - 1) (omega arith)) (walk-to size v w h i l)

  hop-ascends : (j : ℕ) → j < records_in size h → hop_ascends (tables_of size v w h) j ≡ ascends_at size h j
  unfolding hop_ascends ascends_at
  hop-ascends j l = ap₂ (λ (a b : ℕ). eqb j 0 || leb a b) (hop-to size v w h (j - 1) (omega arith)) (hop-to size v w h j l)

  four : first_bad 4 (walk_ascends (tables_of size v w h)) (walk_count (tables_of size v w h)) ≡ walks_fall
  four = ap (first_bad 4 (walk_ascends (tables_of size v w h))) (walk-count size v w h) ∙ bad-same 4 _ _ (records_in 16 w) walk-ascends

  five : first_bad 5 (hop_ascends (tables_of size v w h)) (hop_count (tables_of size v w h)) ≡ hops_fall
  five = ap (first_bad 5 (hop_ascends (tables_of size v w h))) (hop-count size v w h) ∙ bad-same 5 _ _ (records_in size h) hop-ascends

  six : first_bad 6 (vertex_ok (tables_of size v w h)) (vertex_count (tables_of size v w h)) ≡ vertices_bad
  unfolding first_bad vertex_refusals
  six = ap (λ (n : ℕ). first_from (refusing 6 (vertex_ok (tables_of size v w h))) n 0) (vertex-count size v w h)

  pub contents-are : contents (tables_of size v w h) ≡ or_else walks_bad (or_else hops_bad (or_else walks_fall (or_else hops_fall vertices_bad)))
  unfolding contents
  contents-are = ap₂ or_else two (ap₂ or_else three (ap₂ or_else four (ap₂ or_else five six)))

  -- ---- what holds where 2 to 5 find nothing
  pub passed : walks_bad.number ≡ 0 → hops_bad.number ≡ 0 → walks_fall.number ≡ 0 → hops_fall.number ≡ 0 → Passed size v w h
  unfolding first_bad record_fault
  passed a b c d =
      record {
        walks_good = λ i l. walk-ok size v w h i l ∙ sym (walk-ok 16 v w [] i l) ∙ bad-fine 2 (walk_ok (tables_of 16 v w [])) (records_in 16 w) (omega arith) a i l;
        hops_good = λ j l. hop-ok size v w h j l ∙ sym (hop-ok size v [] h j l) ∙ bad-fine 3 (hop_ok (tables_of size v [] h)) (records_in size h) (omega arith) b j l;
        walks_ascend = bad-fine 4 (ascends_at 16 w) (records_in 16 w) (omega arith) c;
        hops_ascend = bad-fine 5 (ascends_at size h) (records_in size h) (omega arith) d;
      }

  module _ (few : length v / 12 ≤ 65536) (ok : Passed size v w h) where
    low : (from to : ℕ) → ends_ok (length v / 12) from to ≡ true → from < 65536
    low from to e = omega (arith, (ends-good (length v / 12) from to e).0)

    pub walks-low : Low 16 w
    unfolding walk_at
    walks-low i l = low (walk_at w i).from (walk_at w i).to (and_both _ _ (and_both _ _ (and_both _ _ (sym (walk-ok size v w h i l) ∙ ok.walks_good i l)).0).0).0

    pub hops-low : Low size h
    unfolding hop_at
    hops-low j l = low (hop_at size h j).from (hop_at size h j).to (and_both _ _ (sym (hop-ok size v w h j l) ∙ ok.hops_good j l)).0
