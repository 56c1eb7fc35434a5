-- The records that arrive at a vertex are one unbroken run of each table. Assumes nothing.
use mathlib.Core.Path.{◌≡◌, sym, ap, subst, ◌∙◌}
use mathlib.Core.Logic.{◌⊎◌, inl, inr, ⊎_elim, ◌≢◌}
use mathlib.Core.Bool.{true, ◌&&◌}
use mathlib.Core.List.{List}
use Prim.Native.Nat.{ℕ, zero, suc, ◌+◌, ◌-◌, ◌/◌, ◌≤◌, ◌<◌}
use native.Mathlib.Omega.{arith}
use lib.Dec.{eqb, leb, ltb}
use lib.ListN.{length}
use borrow.Author.Tests.{lt-ltb, le-ltb, eqb-true, leb-true}
use Rattle.journeys.specs.Counting.{count}
use Rattle.journeys.specs.Tables.{Tables, vertex, walk, hop, vertex_count, walk_count, hop_count, tables_of, vertex_at}
use Rattle.journeys.specs.Records.{departing}
use Rattle.journeys.specs.Refusals.{walk_ascends, hop_ascends, vertex_ok}
use Rattle.journeys.proofs.Tests.{and_both, or_cases, cond-true, cond-false, le-or-lt}
use Rattle.journeys.proofs.Counting.{count_most, count-skip, count-grows}
use Rattle.journeys.proofs.Valid.{good-walk, good-hop}
use Rattle.journeys.specs.Valid.{ValidTables}
use Rattle.journeys.proofs.Decoding.{vertex-at, vertex-count, walk-count, hop-count}
use Rattle.records.specs.Arriving.{first_of, end_of}
use Rattle.records.specs.declared.Kind.TheVariants.{Walks, Hops}
use Rattle.records.proofs.Columns.{all-count}
use Rattle.heldmap.specs.Model.{Standing}

-- an ascending row f 0 .. f (n - 1)
module _ (f : ℕ → ℕ) (n : ℕ) (up : (i : ℕ) → suc i < n → f i ≤ f (suc i)) where
  climbs : (i k : ℕ) → i + k < n → f i ≤ f (i + k)
  climbs i zero h = let e : i + 0 ≡ i = omega arith in rw e (omega arith)
  climbs i (suc k) h =
      let e : i + suc k ≡ suc (i + k) = omega arith in
      rw e (omega (arith, climbs i k (omega arith), up (i + k) (omega arith)))

  pub climbs-to : (i j : ℕ) → i ≤ j → j < n → f i ≤ f j
  climbs-to i j h l = let e : i + (j - i) ≡ j = omega arith in subst (λ (k : ℕ). f i ≤ f k) e (climbs i (j - i) (omega arith))

  -- those below y come first
  below-first : (y i : ℕ) → i < n → f i < y → i < count (λ i. ltb (f i) y) n
  below-first y i l h =
      omega
      (arith, count-grows (λ i. ltb (f i) y) (suc i) n l, all-count (λ i. ltb (f i) y) (suc i) (λ j k. lt-ltb (f j) y (omega (arith, climbs-to j i (let q : j ≤ i = omega arith in q) l))))

  first_below : (y i : ℕ) → i < n → i < count (λ i. ltb (f i) y) n → f i < y
  first_below y i l h =
      ⊎_elim
      (λ (q : y ≤ f i).
      let e = count-skip (λ i. ltb (f i) y) i n (omega arith) (λ j a b. le-ltb (f j) y (omega (arith, climbs-to i j a b))) in
      absurd (let z : ⊥ = omega (arith, e, count_most (λ i. ltb (f i) y) i) in z))
      (λ (q : f i < y). q)
      (le-or-lt y (f i))

  -- the run of x
  pub record Run (x first end : ℕ) : Type 0 where
    pub order : first ≤ end
    pub fit : end ≤ n
    pub inside : (i : ℕ) → first ≤ i → i < end → f i ≡ x
    pub before : (i : ℕ) → i < first → f i ≢ x
    pub after : (i : ℕ) → end ≤ i → i < n → f i ≢ x

  pub run_of : (x : ℕ) → Run x (count (λ i. ltb (f i) x) n) (count (λ i. ltb (f i) (suc x)) n)
  run_of x =
      record {
        order = ⊎_elim (λ (h : c x ≤ c (suc x)). h) (λ (h : c (suc x) < c x). absurd (twisted h)) (le-or-lt (c x) (c (suc x)));
        fit = count_most (λ i. ltb (f i) (suc x)) n;
        inside = λ i a b. omega (arith, first_below (suc x) i (omega (arith, count_most (λ i. ltb (f i) (suc x)) n)) b, not-below i a (omega (arith, count_most (λ i. ltb (f i) (suc x)) n)));
        before = λ i a. omega (arith, first_below x i (omega (arith, count_most (λ i. ltb (f i) x) n)) a);
        after = λ i a b. after i a b (le-or-lt (suc x) (f i));
      }
    where
      c : ℕ → ℕ
      c y = count (λ i. ltb (f i) y) n

      not-below : (i : ℕ) → c x ≤ i → i < n → x ≤ f i
      not-below i a l = ⊎_elim (λ (h : x ≤ f i). h) (λ (h : f i < x). absurd (let z : ⊥ = omega (arith, below-first x i l h) in z)) (le-or-lt x (f i))

      after : (i : ℕ) → c (suc x) ≤ i → i < n → (suc x ≤ f i) ⊎ (f i < suc x) → f i ≢ x
      after i a l (inl h) = omega arith
      after i a l (inr h) = absurd (omega (arith, below-first (suc x) i l h))

      twisted : c (suc x) < c x → ⊥
      twisted h =
          let l : c (suc x) < n = omega (arith, count_most (λ i. ltb (f i) x) n) in
          let a = first_below x (c (suc x)) l h in
          omega (arith, below-first (suc x) (c (suc x)) l (let z : f (c (suc x)) < suc x = omega arith in z))

  -- all are below a bound
  pub all-below : (y : ℕ) → ((i : ℕ) → i < n → f i < y) → count (λ i. ltb (f i) y) n ≡ n
  all-below y h = all-count (λ i. ltb (f i) y) n (λ i l. lt-ltb (f i) y (h i l))

-- ---- the tables
pub up-walk : (N : Tables) → ValidTables N → (i : ℕ) → suc i < walk_count N → (walk N i).to ≤ (walk N (suc i)).to
unfolding walk_ascends
up-walk N ok i l =
    let e : suc i - 1 ≡ i = omega arith in
    ⊎_elim (λ (t : eqb (suc i) 0 ≡ true). absurd (let z : ⊥ = omega (arith, eqb-true (suc i) 0 t) in z))
    (λ (t : leb (walk N (suc i - 1)).to (walk N (suc i)).to ≡ true). leb-true _ _ (rw e at t))
    (or_cases (eqb (suc i) 0) _ (ok.walks_ascend (suc i) l))

pub up-hop : (N : Tables) → ValidTables N → (i : ℕ) → suc i < hop_count N → (hop N i).to ≤ (hop N (suc i)).to
unfolding hop_ascends
up-hop N ok i l =
    let e : suc i - 1 ≡ i = omega arith in
    ⊎_elim (λ (t : eqb (suc i) 0 ≡ true). absurd (let z : ⊥ = omega (arith, eqb-true (suc i) 0 t) in z))
    (λ (t : leb (hop N (suc i - 1)).to (hop N (suc i)).to ≡ true). leb-true _ _ (rw e at t))
    (or_cases (eqb (suc i) 0) _ (ok.hops_ascend (suc i) l))

-- what a good vertex says
pub record GoodVertex (N : Tables) (x : ℕ) : Type 0 where
  pub walks : (vertex N x).first_walk ≡ count (λ i. ltb (walk N i).to x) (walk_count N)
  pub hops : (vertex N x).first_hop ≡ count (λ j. ltb (hop N j).to x) (hop_count N)
  pub departs : (vertex N x).departing ≡ departing N x

pub good-vertex : (N : Tables) → ValidTables N → (x : ℕ) → x < vertex_count N → GoodVertex N x
unfolding vertex_ok
good-vertex N ok x l =
    let a = and_both (eqb (vertex N x).first_walk (count (λ i. ltb (walk N i).to x) (walk_count N)) && eqb (vertex N x).first_hop (count (λ j. ltb (hop N j).to x) (hop_count N)) && eqb (vertex N x).departing (departing N x)) _ (ok.vertices x l) in
    let b = and_both (eqb (vertex N x).first_walk (count (λ i. ltb (walk N i).to x) (walk_count N)) && eqb (vertex N x).first_hop (count (λ j. ltb (hop N j).to x) (hop_count N))) _ a.0 in
    let c = and_both (eqb (vertex N x).first_walk (count (λ i. ltb (walk N i).to x) (walk_count N))) _ b.0 in
    record { walks = eqb-true _ _ c.0; hops = eqb-true _ _ c.1; departs = eqb-true _ _ b.1 }

module _ (size : ℕ) (v w h : List ℕ) (ok : ValidTables (tables_of size v w h)) (x : ℕ) (low : x < length v / 12) where
  abbrev N : Tables
  N = tables_of size v w h

  low-in : x < vertex_count N
  low-in = rw (vertex-count size v w h) low

  here : vertex N x ≡ vertex_at v x
  here = vertex-at size v w h x low

  pub walk_first : first_of Walks (vertex_at v x) ≡ count (λ i. ltb (walk N i).to x) (walk_count N)
  unfolding first_of
  walk_first = ap (λ y. y.first_walk) (sym here) ∙ (good-vertex N ok x low-in).walks

  pub hop-first : first_of Hops (vertex_at v x) ≡ count (λ j. ltb (hop N j).to x) (hop_count N)
  unfolding first_of
  hop-first = ap (λ y. y.first_hop) (sym here) ∙ (good-vertex N ok x low-in).hops

-- The arriving walks of x, and its arriving hops, as the code finds them.
module _ (size : ℕ) (v w h : List ℕ) (ok : ValidTables (tables_of size v w h)) (x : ℕ) (low : x < length v / 12) where
  beyond : length v / 12 ≤ x + 1 → suc x ≡ vertex_count (tables_of size v w h)
  beyond e = omega (arith, vertex-count size v w h)

  pub walk_end : end_of Walks v (length w / 16) x ≡ count (λ i. ltb (walk (tables_of size v w h) i).to (suc x)) (walk_count (tables_of size v w h))
  unfolding end_of
  walk_end =
      ⊎_elim
      (λ (l : length v / 12 ≤ x + 1).
      cond-false _ (length w / 16) (le-ltb (x + 1) (length v / 12) l)
      ∙ sym (walk-count size v w h)
      ∙ sym (all-below (λ i. (walk (tables_of size v w h) i).to) (walk_count (tables_of size v w h)) (up-walk (tables_of size v w h) ok) (suc x)
      (λ i k. rw (beyond l) (good-walk (tables_of size v w h) ok i k).to_low)))
      (λ (l : x + 1 < length v / 12).
      cond-true _ (length w / 16) (lt-ltb (x + 1) (length v / 12) l)
      ∙ walk_first size v w h ok (x + 1) l
      ∙ ap (λ (y : ℕ). count (λ i. ltb (walk (tables_of size v w h) i).to y) (walk_count (tables_of size v w h))) (let e : x + 1 ≡ suc x = omega arith in e))
      (le-or-lt (length v / 12) (x + 1))

  pub hop-end : end_of Hops v (length h / size) x ≡ count (λ j. ltb (hop (tables_of size v w h) j).to (suc x)) (hop_count (tables_of size v w h))
  unfolding end_of
  hop-end =
      ⊎_elim
      (λ (l : length v / 12 ≤ x + 1).
      cond-false _ (length h / size) (le-ltb (x + 1) (length v / 12) l)
      ∙ sym (hop-count size v w h)
      ∙ sym (all-below (λ j. (hop (tables_of size v w h) j).to) (hop_count (tables_of size v w h)) (up-hop (tables_of size v w h) ok) (suc x)
      (λ j k. rw (beyond l) (good-hop (tables_of size v w h) ok j k).to_low)))
      (λ (l : x + 1 < length v / 12).
      cond-true _ (length h / size) (lt-ltb (x + 1) (length v / 12) l)
      ∙ hop-first size v w h ok (x + 1) l
      ∙ ap (λ (y : ℕ). count (λ j. ltb (hop (tables_of size v w h) j).to y) (hop_count (tables_of size v w h))) (let e : x + 1 ≡ suc x = omega arith in e))
      (le-or-lt (length v / 12) (x + 1))

  pub walk-run : Run (λ i. (walk (tables_of size v w h) i).to) (walk_count (tables_of size v w h)) (up-walk (tables_of size v w h) ok) x (first_of Walks (vertex_at v x)) (end_of Walks v (length w / 16) x)
  walk-run = rw (walk_first size v w h ok x low, walk_end) (run_of (λ i. (walk (tables_of size v w h) i).to) (walk_count (tables_of size v w h)) (up-walk (tables_of size v w h) ok) x)

  pub hop-run : Run (λ j. (hop (tables_of size v w h) j).to) (hop_count (tables_of size v w h)) (up-hop (tables_of size v w h) ok) x (first_of Hops (vertex_at v x)) (end_of Hops v (length h / size) x)
  hop-run = rw (hop-first size v w h ok x low, hop-end) (run_of (λ j. (hop (tables_of size v w h) j).to) (hop_count (tables_of size v w h)) (up-hop (tables_of size v w h) ok) x)

-- So they stand where the code looks for them.
pub standing : (size : ℕ) (v w h : List ℕ) → ValidTables (tables_of size v w h) → (x : ℕ) → x < length v / 12 → Standing size v w h x
standing size v w h ok x low =
    let a = walk-run size v w h ok x low in
    let b = hop-run size v w h ok x low in
    record { low = low; walks = a.order; walks_end = omega (arith, a.fit, walk-count size v w h); hops = b.order; hops_end = omega (arith, b.fit, hop-count size v w h) }
