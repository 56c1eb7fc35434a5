-- Laws of the columns "from" and "to": the tables of `journeys` have the same, and an ascending column counts by one look. Assumes nothing.
use mathlib.Core.Path.{◌≡◌, refl, sym, ap, ap₂, ◌∙◌}
use mathlib.Core.Logic.{⊎_elim}
use mathlib.Core.Bool.{Bool, true, false}
use mathlib.Core.List.{List}
use Prim.Native.Nat.{ℕ, zero, suc, ◌+◌, ◌-◌, ◌≤◌, ◌<◌}
use native.Mathlib.Omega.{arith}
use lib.Dec.{eqb, leb, ltb}
use borrow.Author.Tests.{eqb-true, leb-true, lt-ltb, le-ltb, eq-eqb, ne_eqb, lt-leb, le-leb}
use Rattle.journeys.specs.Counting.{count}
use Rattle.journeys.specs.Tables.{Walk, Hop, walk_at, hop_at, tables_of, walk, hop, walk_count, hop_count}
use Rattle.journeys.specs.Records.{walked, ridden, from, record_at, departing}
use Rattle.journeys.proofs.Tests.{or_cases, cond-true, cond-false, le-or-lt, same-or-below}
use Rattle.journeys.proofs.Counting.{is_one, count_most, count_same, count-skip, count-grows, count-append}
use Rattle.journeys.proofs.Decoding.{walk_at_lem, hop-at, walk-count, hop-count}
use Rattle.records.specs.Columns.{records_in, from_at, to_at, ascends_at, Ascending, arriving_below, leaving}

pub all-count : (p : ℕ → Bool) (n : ℕ) → ((i : ℕ) → i < n → p i ≡ true) → count p n ≡ n
unfolding count
all-count p zero h = refl
all-count p (suc n) h = omega (arith, all-count p n (λ i l. h i (omega arith)), is_one (h n (omega arith)))

-- ---- "to" ascends
step-up : (size : ℕ) (t : List ℕ) (i : ℕ) → ascends_at size t (suc i) ≡ true → to_at size t i ≤ to_at size t (suc i)
unfolding ascends_at
step-up size t i e =
    let p : suc i - 1 ≡ i = omega arith in
    ⊎_elim (λ (z : eqb (suc i) 0 ≡ true). absurd (omega (arith, eqb-true (suc i) 0 z)))
    (λ (l : leb (to_at size t (suc i - 1)) (to_at size t (suc i)) ≡ true). leb-true (to_at size t i) (to_at size t (suc i)) (rw p at l))
    (or_cases (eqb (suc i) 0) (leb (to_at size t (suc i - 1)) (to_at size t (suc i))) e)

module _ (size : ℕ) (t : List ℕ) (up : Ascending size t) where
  pub climbs : (i j : ℕ) → i ≤ j → j < records_in size t → to_at size t i ≤ to_at size t j
  climbs i zero h l =
      let e : i ≡ 0 = omega arith in
      rw e (omega arith)
  climbs i (suc j) h l =
      ⊎_elim (λ (e : i ≡ suc j). rw e (omega arith))
      (λ (k : i < suc j). omega (arith, climbs i j (omega arith) (omega arith), step-up size t j (up (suc j) l)))
      (same-or-below h)

  module _ (v : ℕ) where
    abbrev below : ℕ → Bool
    below i = ltb (to_at size t i) v

    -- the records before `first` are below v
    pub low_count : (first : ℕ) → first ≤ records_in size t → (0 < first → to_at size t (first - 1) < v) → count below first ≡ first
    low_count first h l =
        all-count below first (λ i k. lt-ltb (to_at size t i) v (omega (arith, climbs i (first - 1) (omega arith) (omega arith), l (omega arith))))

    pub high-count : (first : ℕ) → first ≤ records_in size t → (first < records_in size t → v ≤ to_at size t first) → count below (records_in size t) ≡ count below first
    high-count first h l =
        count-skip below first (records_in size t) h (λ i a b. le-ltb (to_at size t i) v (omega (arith, climbs first i a b, l (omega arith))))

    pub first-right : (first : ℕ) → first ≤ records_in size t → (0 < first → to_at size t (first - 1) < v) → (first < records_in size t → v ≤ to_at size t first) → eqb first (arriving_below size t v) ≡ true
    unfolding arriving_below
    first-right first h l k = eq-eqb first _ (sym (high-count first h k ∙ low_count first h l))

    pub first-high : (first : ℕ) → 0 < first → first ≤ records_in size t → v ≤ to_at size t (first - 1) → eqb first (arriving_below size t v) ≡ false
    unfolding arriving_below
    first-high first p h l =
        ne_eqb first _ (λ (e : first ≡ count below (records_in size t)). omega (arith, high-count (first - 1) (omega arith) (λ _. l), count_most below (first - 1)))

    pub first-low : (first : ℕ) → first < records_in size t → to_at size t first < v → eqb first (arriving_below size t v) ≡ false
    unfolding arriving_below
    first-low first h l =
        let e : first + 1 - 1 ≡ first = omega arith in
        ne_eqb first _
        (λ (q : first ≡ count below (records_in size t)).
        omega (arith, low_count (first + 1) (omega arith) (λ _. rw e l), count-grows below (first + 1) (records_in size t) (omega arith)))

    pub first_past : (first : ℕ) → records_in size t < first → eqb first (arriving_below size t v) ≡ false
    unfolding arriving_below
    first_past first h = ne_eqb first _ (λ (q : first ≡ count below (records_in size t)). omega (arith, count_most below (records_in size t)))

    pub first-named : (first : ℕ) → first < records_in size t → (0 < first → to_at size t (first - 1) < v) → leb v (to_at size t first) ≡ eqb first (arriving_below size t v)
    first-named first h l =
        ⊎_elim (λ (e : v ≤ to_at size t first). le-leb v (to_at size t first) e ∙ sym (first-right first (omega arith) l (λ _. e)))
        (λ (e : to_at size t first < v). lt-leb v (to_at size t first) e ∙ sym (first-low first h e))
        (le-or-lt v (to_at size t first))

-- ---- the tables of `journeys`
module _ (size : ℕ) (v w h : List ℕ) where
  pub walk-to : (i : ℕ) → i < records_in 16 w → (walk (tables_of size v w h) i).to ≡ to_at 16 w i
  unfolding walk_at
  walk-to i l = ap (λ (x : Walk). x.to) (walk_at_lem size v w h i l)

  pub walk_from : (i : ℕ) → i < records_in 16 w → (walk (tables_of size v w h) i).from ≡ from_at 16 w i
  unfolding walk_at
  walk_from i l = ap (λ (x : Walk). x.from) (walk_at_lem size v w h i l)

  pub hop-to : (j : ℕ) → j < records_in size h → (hop (tables_of size v w h) j).to ≡ to_at size h j
  unfolding hop_at
  hop-to j l = ap (λ (x : Hop). x.to) (hop-at size v w h j l)

  pub hop-from : (j : ℕ) → j < records_in size h → (hop (tables_of size v w h) j).from ≡ from_at size h j
  unfolding hop_at
  hop-from j l = ap (λ (x : Hop). x.from) (hop-at size v w h j l)

  pub walks-below : (x : ℕ) → count (λ i. ltb (walk (tables_of size v w h) i).to x) (walk_count (tables_of size v w h)) ≡ arriving_below 16 w x
  unfolding arriving_below
  walks-below x = rw (walk-count size v w h) (count_same _ _ (records_in 16 w) (λ i l. ap (λ (k : ℕ). ltb k x) (walk-to i l)))

  pub hops-below : (x : ℕ) → count (λ j. ltb (hop (tables_of size v w h) j).to x) (hop_count (tables_of size v w h)) ≡ arriving_below size h x
  unfolding arriving_below
  hops-below x = rw (hop-count size v w h) (count_same _ _ (records_in size h) (λ j l. ap (λ (k : ℕ). ltb k x) (hop-to j l)))

  record-walk : (r : ℕ) → r < records_in 16 w → from (record_at (tables_of size v w h) r) ≡ from_at 16 w r
  unfolding record_at
  record-walk r l =
      ap from (cond-true (walked (walk (tables_of size v w h) r)) (ridden (hop (tables_of size v w h) (r - walk_count (tables_of size v w h)))) (lt-ltb r _ (rw (walk-count size v w h) l)))
      ∙ walk_from r l

  record-hop : (j : ℕ) → j < records_in size h → from (record_at (tables_of size v w h) (records_in 16 w + j)) ≡ from_at size h j
  unfolding record_at
  record-hop j l =
      let N = tables_of size v w h in
      let k : records_in 16 w + j - records_in 16 w ≡ j = omega arith in
      ap from (cond-false (walked (walk N (records_in 16 w + j))) (ridden (hop N (records_in 16 w + j - walk_count N))) (le-ltb (records_in 16 w + j) _ (rw (walk-count size v w h) (omega arith))))
      ∙ rw (walk-count size v w h, k) (hop-from j l)

  -- walks and hops together
  pub departing-is : (x : ℕ) → departing (tables_of size v w h) x ≡ leaving 16 w x + leaving size h x
  unfolding departing leaving
  departing-is x =
      rw (walk-count size v w h, hop-count size v w h)
      (count-append _ (records_in 16 w) (records_in size h)
      ∙ ap₂ (λ (a b : ℕ). a + b)
      (count_same _ _ (records_in 16 w) (λ r l. ap (λ (k : ℕ). eqb k x) (record-walk r l)))
      (count_same _ _ (records_in size h) (λ j l. ap (λ (k : ℕ). eqb k x) (record-hop j l))))
