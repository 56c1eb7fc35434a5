-- The counters of departing records. Assumes nothing.
use mathlib.Core.Path.{◌≡◌, sym, ap, ◌∙◌, subst}
use mathlib.Core.Logic.{◌⊎◌, inl, inr, ⊎_elim, ◌≢◌}
use mathlib.Core.Bool.{Bool, cond}
use mathlib.Core.List.{List, ◌++◌}
use Prim.Native.Nat.{ℕ, suc, ◌+◌, ◌-◌, ◌≤◌, ◌<◌, min}
use native.Mathlib.Omega.{arith}
use lib.Dec.{eqb, ltb}
use lib.ListN.{length, get_or, set, drop, replicate, length-replicate, get_or-replicate, get_or-append}
use lib.Seq.{get_or-set_same, get_or-set_other, get_or-append-add, get_or-drop}
use borrow.Author.Tests.{eq-eqb, ne_eqb, lt-ltb, le-ltb}
use Rattle.journeys.specs.Counting.{count, one}
use Rattle.journeys.proofs.Tests.{Test, same, other, test, le-or-lt}
use Rattle.journeys.proofs.Counting.{is_one, is_zero, none-count, count-skip}
use Rattle.records.specs.Columns.{records_in, from_at, leaving}
use Rattle.departing.specs.Scratch.{Outside, Inside, Counted}

pub counted_same : {len low : ℕ} {s : List ℕ} {a b : ℕ → ℕ} → ((k : ℕ) → k < len → a k ≡ b k) → Counted len low s a → Counted len low s b
counted_same {len} {low} {s} {a} {b} e c =
    record {
      within = c.within;
      stopped = λ k l. c.stopped k l ∙ ap (λ (x : ℕ). min x 65535) (e k l);
      exact = λ k l. omega (arith, c.exact k l, e k (omega (arith, c.within)), c.within);
      passed = λ l. omega (arith, c.passed l, e low l);
    }

-- zero counts
pub zeroed : (s : List ℕ) (len : ℕ) → len ≤ 1904 → Counted len len (replicate 1904 0 ++ drop 1904 s) (λ k. 0)
zeroed s len h =
    record {
      within = omega arith;
      stopped = λ k l.
          get_or-append (replicate 1904 0) (drop 1904 s) 0 k (omega (arith, length-replicate {A = ℕ} 1904 0)) ∙ get_or-replicate 1904 k 0 0 (omega arith) ∙ omega arith;
      exact = λ k l. omega arith;
      passed = λ l. absurd (omega arith);
    }

pub zeroed-outside : (s : List ℕ) → Outside 0 1904 s (replicate 1904 0 ++ drop 1904 s)
zeroed-outside s k (inl l) = absurd (omega arith)
zeroed-outside s k (inr l) =
    let e : k ≡ length (replicate {A = ℕ} 1904 0) + (k - 1904) = omega (arith, length-replicate {A = ℕ} 1904 0) in
    let f : 1904 + (k - 1904) ≡ k = omega arith in
    ap (λ (x : ℕ). get_or (replicate 1904 0 ++ drop 1904 s) x 0) e
    ∙ get_or-append-add (replicate 1904 0) (drop 1904 s) (k - 1904) 0
    ∙ get_or-drop 1904 s (k - 1904) 0
    ∙ ap (λ (x : ℕ). get_or s x 0) f

-- ---- one record more, which leaves `from`
module _ (len low : ℕ) (s : List ℕ) (all : ℕ → ℕ) (base from : ℕ) where
  abbrev more : ℕ → ℕ
  more k = all k + one (eqb from (base + k))

  hit : (k : ℕ) → from ≡ base + k → more k ≡ all k + 1
  hit k e = ap (λ (x : ℕ). all k + x) (is_one (eq-eqb from (base + k) e))

  miss : (k : ℕ) → from ≢ base + k → more k ≡ all k
  miss k e = ap (λ (x : ℕ). all k + x) (is_zero (ne_eqb from (base + k) e)) ∙ omega arith

  grows : (k : ℕ) → all k ≤ more k
  grows k = omega arith

  pub count-miss : ((k : ℕ) → k < len → from ≢ base + k) → Counted len low s all → Counted len low s more
  count-miss h c = counted_same (λ k l. sym (miss k (h k l))) c

  -- it leaves the vertex of the counter j
  module _ (j : ℕ) (inside : j < len) (e : from ≡ base + j) (fits : j < length s) (c : Counted len low s all) where
    abbrev s' : List ℕ
    s' = set s j (min (get_or s j 0 + 1) 65535)

    stored : (k : ℕ) → k < len → get_or s' k 0 ≡ min (more k) 65535
    stored k l = go _ (test k j)
      where
        go : (b : Bool) → Test k j b → get_or s' k 0 ≡ min (more k) 65535
        go _ (same q) =
            subst (λ (x : ℕ). get_or s' x 0 ≡ min (more x) 65535) (sym q)
            (get_or-set_same s j _ 0 fits ∙ omega (arith, c.stopped j inside, hit j e))
        go _ (other q) =
            get_or-set_other s j k _ 0 q ∙ c.stopped k l ∙ ap (λ (x : ℕ). min x 65535) (sym (miss k (λ (z : from ≡ base + k). q (omega arith))))

    pub count-hit : Counted len (cond (ltb (get_or s j 0) 65535) low (min low j)) s' more
    count-hit = ⊎_elim (λ (l : get_or s j 0 < 65535). room l) (λ (l : 65535 ≤ get_or s j 0). full l) (below (get_or s j 0))
      where
        below : (x : ℕ) → (x < 65535) ⊎ (65535 ≤ x)
        below x = ⊎_elim (λ (l : 65535 ≤ x). inr l) (λ (l : x < 65535). inl l) (le-or-lt 65535 x)

        most : (k : ℕ) → get_or s j 0 < 65535 → all k ≤ 65535 → more k ≤ 65535
        most k l h = go _ (test k j)
          where
            go : (b : Bool) → Test k j b → more k ≤ 65535
            go _ (same q) = subst (λ (x : ℕ). more x ≤ 65535) (sym q) (omega (arith, hit j e, c.stopped j inside))
            go _ (other q) = omega (arith, miss k (λ (z : from ≡ base + k). q (omega arith)))

        room : get_or s j 0 < 65535 → Counted len (cond (ltb (get_or s j 0) 65535) low (min low j)) s' more
        room l =
            rw (lt-ltb (get_or s j 0) 65535 l)
            (record {
              within = c.within;
              stopped = stored;
              exact = λ k h. most k l (c.exact k h);
              passed = λ h. omega (arith, c.passed h, grows low);
            })

        full : 65535 ≤ get_or s j 0 → Counted len (cond (ltb (get_or s j 0) 65535) low (min low j)) s' more
        full l =
            rw (le-ltb (get_or s j 0) 65535 l)
            (record {
              within = omega (arith, c.within);
              stopped = stored;
              exact = λ k h. omega (arith, c.exact k (omega arith), miss k (λ (z : from ≡ base + k). omega arith));
              passed = λ h.
                  ⊎_elim (λ (q : low ≤ j).
                  let m : min low j ≡ low = omega arith in
                  subst (λ (x : ℕ). 65535 < more x) (sym m) (omega (arith, c.passed (omega arith), grows low)))
                  (λ (q : j < low).
                  let m : min low j ≡ j = omega arith in
                  subst (λ (x : ℕ). 65535 < more x) (sym m) (omega (arith, hit j e, c.stopped j inside)))
                  (le-or-lt low j);
            })

-- ---- all records of a table
abbrev pub leaving_to : ℕ → List ℕ → ℕ → ℕ → ℕ
leaving_to size t v i = count (λ j. eqb (from_at size t j) v) i

module _ (size : ℕ) (t : List ℕ) (start end base len : ℕ) (low : start ≤ end) (high : end ≤ records_in size t) (inside : Inside size t start end base len) where
  pub none_before : (k : ℕ) → k < len → leaving_to size t (base + k) start ≡ 0
  none_before k l =
      none-count _ start (λ i h. ne_eqb (from_at size t i) (base + k) (λ (e : from_at size t i ≡ base + k). omega (arith, (inside i k (omega arith) l e).0)))

  pub none-behind : (k : ℕ) → k < len → leaving_to size t (base + k) end ≡ leaving size t (base + k)
  unfolding leaving
  none-behind k l =
      sym (count-skip _ end (records_in size t) high (λ i a b. ne_eqb (from_at size t i) (base + k) (λ (e : from_at size t i ≡ base + k). omega (arith, (inside i k b l e).1))))

pub leaving-more : (size : ℕ) (t : List ℕ) (v i : ℕ) (x : ℕ) → x + leaving_to size t v i + one (eqb (from_at size t i) v) ≡ x + leaving_to size t v (i + 1)
unfolding count
leaving-more size t v i x =
    let e : i + 1 ≡ suc i = omega arith in
    rw e (omega arith)
