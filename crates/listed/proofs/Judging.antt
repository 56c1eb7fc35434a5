-- As many rising records of a vertex as it has are its records; and where the first place that differs is. Assumes nothing.
use mathlib.Core.Path.{◌≡◌, sym, ap, subst, ◌∙◌}
use mathlib.Core.Logic.{◌⊎◌, inl, inr, ◌≢◌}
use mathlib.Core.Bool.{true, false}
use mathlib.Core.List.{List}
use Prim.Native.Nat.{ℕ, suc, ◌+◌, ◌*◌, ◌/◌, ◌<◌, ◌≤◌}
use native.Mathlib.Omega.{arith}
use native.Mathlib.Decide.{ℕ_discrete}
use lib.Dec.{eqb}
use lib.ListN.{length, get_or}
use borrow.Author.Tests.{eq-eqb, ne_eqb}
use Rattle.journeys.specs.Counting.{none}
use Rattle.journeys.specs.Bytes.{be32}
use Rattle.journeys.specs.Tables.{tables_of}
use Rattle.journeys.specs.Records.{record_count}
use Rattle.journeys.specs.Refusals.{fine}
use Rattle.journeys.specs.CourierList.{by_from, list_refusal}
use Rattle.journeys.proofs.Tests.{le-or-lt}
use Rattle.journeys.proofs.Refusals.{bad-none, bad-first}
use Rattle.listing.specs.Places.{total, from_of, below, same, place, rank, Sound}
use Rattle.listing.proofs.PlaceLaws.{below_next, below-grows, below_all, same_here, same-other, same_start, same_grows, same-before, rank-low, rank-apart, every-place}
use Rattle.listing.proofs.Froms.{total-is, number_at}
use Rattle.listed.specs.Stretches.{Found, Upto, Rising}

-- ---- rising
module _ (F : ℕ → ℕ) (n v first : ℕ) (list : List ℕ) where
  pub rising_none : Rising F n v first first 0 list
  rising_none = record { few = omega arith; within = omega arith; each = λ j a b. absurd (omega arith) }

  pub rising-more : (i low x : ℕ) → Rising F n v first i low list → x ≡ be32 list (4 * i) → low ≤ x → x < n → F x ≡ v → Rising F n v first (i + 1) (x + 1) list
  rising-more i low x s e a b f = record { few = omega (arith, s.few, step, grows); within = omega arith; each = λ j p q. go j p q (ℕ_discrete j i) }
    where
      step : same F v (x + 1) ≡ same F v x + 1
      step = let z : x + 1 ≡ suc x = omega arith in ap (same F v) z ∙ same_here F v x f ∙ omega arith

      grows : same F v low ≤ same F v x
      grows = same_grows F v low x a

      go : (j : ℕ) → first ≤ j → j < i + 1 → Dec (j ≡ i)
          → (be32 list (4 * j) < n) × (F (be32 list (4 * j)) ≡ v) × (j ≤ first + same F v (be32 list (4 * j))) × (same F v (be32 list (4 * j)) + (i + 1) ≤ same F v (x + 1) + j)
      go j p q (yes z) = rw (z, ← e) (b, f, omega (arith, s.few, grows), omega (arith, step))
      go j p q (no z) = let r = s.each j p (omega arith) in (r.0, r.1, r.2, omega (arith, r.3, step, grows))

  -- as many as leave v
  pub rising-all : {end low : ℕ} → first ≡ below F v n → end ≡ first + same F v n → Rising F n v first end low list → Upto F n v first end end list
  rising-all {end} {low} b e s = record {
    least = omega arith;
    most = omega arith;
    right = right;
    wrong = λ h. absurd (omega arith);
  }
    where
      high : same F v low ≤ same F v n
      high = same_grows F v low n s.within

      right : (x : ℕ) → x < n → F x ≡ v → rank F n x < end → be32 list (4 * rank F n x) ≡ x
      right x l f h = go (ℕ_discrete y x)
        where
          j : ℕ
          j = rank F n x

          y : ℕ
          y = be32 list (4 * j)

          from_first : first ≤ j
          from_first = omega (arith, ap (λ (u : ℕ). below F u n) f, b)

          own : (y < n) × (F y ≡ v) × (j ≤ first + same F v y) × (same F v y + end ≤ same F v low + j)
          own = s.each j from_first h

          there : rank F n y ≡ rank F n x
          there = ap (λ (u : ℕ). place F n u y) own.1 ∙ omega (arith, b, e, high, own.2, own.3)

          go : Dec (y ≡ x) → y ≡ x
          go (yes z) = z
          go (no z) = absurd (rank-apart F n y x own.0 l z there)

-- ---- the exact pass: r records are passed, of which those that leave v are right
pub record Passed (F : ℕ → ℕ) (n v first r at : ℕ) (list : List ℕ) : Type 0 where
  pub place_is : at ≡ first + same F v r
  pub right : (x : ℕ) → x < r → F x ≡ v → be32 list (4 * rank F n x) ≡ x

module _ {F : ℕ → ℕ} {n v first end : ℕ} {list : List ℕ} (b : first ≡ below F v n) (e : end ≡ first + same F v n) where
  pub passed_none : Passed F n v first 0 first list
  passed_none = record { place_is = omega (arith, same_start F v); right = λ x l. absurd (omega arith) }

  module _ {r at : ℕ} (s : Passed F n v first r at list) where
    at-rank : F r ≡ v → rank F n r ≡ at
    at-rank f = ap (λ (u : ℕ). place F n u r) f ∙ omega (arith, b, s.place_is)

    next : suc r ≡ r + 1
    next = omega arith

    pub passed_here : F r ≡ v → be32 list (4 * at) ≡ r → Passed F n v first (r + 1) (at + 1) list
    passed_here f w = record {
      place_is = omega (arith, s.place_is, same_here F v r f, ap (same F v) next);
      right = λ x l g. go x g (ℕ_discrete x r) l;
    }
      where
        go : (x : ℕ) → F x ≡ v → Dec (x ≡ r) → x < r + 1 → be32 list (4 * rank F n x) ≡ x
        go x g (yes z) l = ap (λ (y : ℕ). be32 list (4 * rank F n y)) z ∙ ap (λ (j : ℕ). be32 list (4 * j)) (at-rank f) ∙ w ∙ sym z
        go x g (no z) l = s.right x (omega arith) g

    pub passed-other : F r ≢ v → Passed F n v first (r + 1) at list
    passed-other f = record {
      place_is = omega (arith, s.place_is, same-other F v r f, ap (same F v) next);
      right = λ x l g. go x g (ℕ_discrete x r) l;
    }
      where
        go : (x : ℕ) → F x ≡ v → Dec (x ≡ r) → x < r + 1 → be32 list (4 * rank F n x) ≡ x
        go x g (yes z) l = absurd (f (ap F (sym z) ∙ g))
        go x g (no z) l = s.right x (omega arith) g

    pub at_low : r < n → F r ≡ v → at < end
    at_low l f = omega (arith, s.place_is, e, same-before F v r n l f)

    pub passed-wrong : r < n → F r ≡ v → be32 list (4 * at) ≢ r → Upto F n v first end at list
    passed-wrong l f w = record {
      least = omega (arith, s.place_is);
      most = omega (arith, at_low l f);
      right = λ x m g h. go x m g h (le-or-lt r x);
      wrong = λ h. (r, l, f, at-rank f, w);
    }
      where
        go : (x : ℕ) → x < n → F x ≡ v → rank F n x < at → (r ≤ x) ⊎ (x < r) → be32 list (4 * rank F n x) ≡ x
        go x m g h (inr q) = s.right x q g
        go x m g h (inl q) = absurd (omega (arith, h, ap (λ (u : ℕ). place F n u x) g, b, s.place_is, same_grows F v r x q))

    pub passed-all : n ≤ r → r ≤ n → Upto F n v first end at list
    passed-all l m =
        let z : r ≡ n = omega arith in
        let full : at ≡ end = s.place_is ∙ ap (λ (k : ℕ). first + same F v k) z ∙ sym e in
        record {
          least = omega (arith, s.place_is);
          most = omega (arith, full);
          right = λ x k g h. s.right x (omega arith) g;
          wrong = λ h. absurd (omega (arith, full));
        }

-- ---- vertex after vertex
pub found_none : (F : ℕ → ℕ) (n : ℕ) (list : List ℕ) → Found F n 0 list
found_none F n list = record { right = λ x l h. absurd (omega arith) }

module _ {F : ℕ → ℕ} {n v first end : ℕ} {list : List ℕ} (b : first ≡ below F v n) (e : end ≡ first + same F v n) (s : Found F n v list) where
  above : (x : ℕ) → x < n → v < F x → end ≤ rank F n x
  above x l h = omega (arith, b, e, below_next F v n, below-grows F (suc v) (F x) n h)

  pub found-more : {r : ℕ} → end ≤ r → Upto F n v first end r list → Found F n (v + 1) list
  found-more {r} h u = record { right = λ x l k. go x l (ℕ_discrete (F x) v) k }
    where
      go : (x : ℕ) → x < n → Dec (F x ≡ v) → F x < v + 1 → be32 list (4 * rank F n x) ≡ x
      go x l (yes z) k = u.right x l z (omega (arith, h, e, b, ap (λ (w : ℕ). place F n w x) z, same-before F v x n l z))
      go x l (no z) k = s.right x l (omega arith)

  -- before the place that is told every place is right
  pub found_before : {r : ℕ} → r < end → Upto F n v first end r list → (x : ℕ) → x < n → rank F n x < r → be32 list (4 * rank F n x) ≡ x
  found_before {r} h u x l k = go (le-or-lt v (F x)) (ℕ_discrete (F x) v)
    where
      go : (v ≤ F x) ⊎ (F x < v) → Dec (F x ≡ v) → be32 list (4 * rank F n x) ≡ x
      go (inr q) d = s.right x l q
      go (inl q) (yes z) = u.right x l z k
      go (inl q) (no z) = absurd (omega (arith, above x l (omega arith), h, k))

-- ---- the refusal
module _ (size : ℕ) (v w h list : List ℕ) (ok : Sound size v w h) where
  abbrev F : ℕ → ℕ
  F = from_of size w h

  abbrev n : ℕ
  n = total size w h

  entry : (x : ℕ) → x < total size w h → get_or (by_from (tables_of size v w h)) (rank (from_of size w h) (total size w h) x) none ≡ x
  entry = number_at size v w h ok.low

  good-at : (x : ℕ) → x < total size w h → be32 list (4 * rank (from_of size w h) (total size w h) x) ≡ x
      → eqb (be32 list (4 * rank (from_of size w h) (total size w h) x)) (get_or (by_from (tables_of size v w h)) (rank (from_of size w h) (total size w h) x) none) ≡ true
  good-at x l e = eq-eqb _ _ (e ∙ sym (entry x l))

  of-place : (i : ℕ) → i < total size w h → (x : ℕ) × (x < total size w h) × (rank (from_of size w h) (total size w h) x ≡ i)
  of-place i l =
      let p = every-place F n (length v / 12) i (omega (arith, below_all F (length v / 12) n ok.low)) in
      (p.0, p.1, p.3)

  all-good : (m : ℕ) → m ≤ total size w h → ((x : ℕ) → x < total size w h → rank (from_of size w h) (total size w h) x < m → be32 list (4 * rank (from_of size w h) (total size w h) x) ≡ x)
      → (i : ℕ) → i < m → eqb (be32 list (4 * i)) (get_or (by_from (tables_of size v w h)) i none) ≡ true
  all-good m q f i l =
      let p = of-place i (omega arith) in
      subst (λ (j : ℕ). eqb (be32 list (4 * j)) (get_or (by_from (tables_of size v w h)) j none) ≡ true) p.2 (good-at p.0 p.1 (f p.0 p.1 (omega (arith, p.2))))

  pub all_found : {u : ℕ} → length v / 12 ≤ u → Found (from_of size w h) (total size w h) u list → fine ≡ list_refusal (tables_of size v w h) list
  unfolding list_refusal
  all_found {u} c s =
      sym (bad-none 22 _ (record_count (tables_of size v w h)) (λ i l.
      all-good n (omega arith) (λ x m k. s.right x m (omega (arith, ok.low x m))) i (omega (arith, total-is size v w h))))

  pub first-wrong : {u first end r : ℕ} → first ≡ below (from_of size w h) u (total size w h) → end ≡ first + same (from_of size w h) u (total size w h)
      → Found (from_of size w h) (total size w h) u list → r < end → Upto (from_of size w h) (total size w h) u first end r list
      → record { number = 22; place = r } ≡ list_refusal (tables_of size v w h) list
  unfolding list_refusal
  first-wrong {u} {first} {end} {r} b e s l p =
      let x = p.wrong l in
      let low : r < n = omega (arith, x.3, rank-low F n x.0 x.1) in
      let bad : eqb (be32 list (4 * r)) (get_or (by_from (tables_of size v w h)) r none) ≡ false =
      ne_eqb _ _ (λ z. x.4 (z ∙ ap (λ (j : ℕ). get_or (by_from (tables_of size v w h)) j none) (sym x.3) ∙ entry x.0 x.1)) in
      sym (bad-first 22 _ (record_count (tables_of size v w h)) r (omega arith) (omega (arith, total-is size v w h)) bad (all-good r (omega arith) (found_before b e s l p)))
