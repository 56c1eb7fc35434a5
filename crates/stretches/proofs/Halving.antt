-- Places in the right list, and the search by halves. Assumes nothing.
use mathlib.Core.Path.{◌≡◌, refl, sym, ap, ap₂, subst, ◌∙◌}
use mathlib.Core.Logic.{◌⊎◌, inl, inr, ⊎_elim}
use mathlib.Core.List.{List}
use Prim.Native.Nat.{ℕ, zero, suc, ◌+◌, ◌-◌, ◌*◌, ◌/◌, ◌<◌, ◌≤◌}
use native.Mathlib.Omega.{arith}
use native.Mathlib.Nat.{mul-le-mul, div-le_self, le_trans}
use Rattle.journeys.specs.Bytes.{be32}
use Rattle.journeys.proofs.Tests.{le-or-lt, last-or-below}
use Rattle.records.specs.Columns.{records_in}
use Rattle.starts.specs.Sums.{departing_of, sums}
use Rattle.starts.proofs.SumLaws.{sums-step}
use Rattle.listing.specs.Places.{total, from_of, below, same, rank, Sound}
use Rattle.listing.proofs.PlaceLaws.{below_next, below-grows, below_all, below-most, same_grows, same-before, rank_below, every-place}
use Rattle.stretches.proofs.Numbers.{stretch-walks, stretch-hops, stretch-rises}
use Rattle.stretches.specs.Stretch.{Right, Parted, stretch_of, walks_of}
use Rattle.stretches.specs.declared.Stretch.{Stretch}

module _ (F : ℕ → ℕ) (n v : ℕ) where
  -- before the numbers of v stands what leaves a vertex before it
  pub stands-before : (x : ℕ) → x < n → F x < v → rank F n x < below F v n
  stands-before x l h = omega (arith, rank_below F n x v l h)

  pub stands-behind : (x : ℕ) → v ≤ F x → below F v n ≤ rank F n x
  stands-behind x h = omega (arith, below-grows F v (F x) n h)

-- some number is above all the vertices that n records leave
above : (F : ℕ → ℕ) (n : ℕ) → (c : ℕ) × ((r : ℕ) → r < n → F r < c)
above F zero = (0, λ r l. absurd (omega arith))
above F (suc n) =
    let p = above F n in
    (p.0 + suc (F n), λ r l. ⊎_elim (λ (e : r ≡ n). let z : F r < p.0 + suc (F n) = omega (arith, ap F e) in z) (λ (k : r < n). let z : F r < p.0 + suc (F n) = omega (arith, p.1 r k) in z) (last-or-below l))

-- what stands at a place: a record, and its place is this one
pub at_place : {F : ℕ → ℕ} {n : ℕ} {list : List ℕ} → Right F n list → (i : ℕ) → i < n → (be32 list (4 * i) < n) × (rank F n (be32 list (4 * i)) ≡ i)
at_place {F} {n} {list} s i l =
    let c = above F n in
    let p = every-place F n c.0 i (omega (arith, below_all F c.0 n c.1)) in
    let e : be32 list (4 * i) ≡ p.0 = ap (λ (j : ℕ). be32 list (4 * j)) (sym p.3) ∙ s.stands p.0 p.1 in
    (omega (arith, e, p.1), ap (rank F n) e ∙ p.3)

-- the numbers of a vertex rise: where one falls, those of its vertex begin
pub falls-first : {F : ℕ → ℕ} {n : ℕ} {list : List ℕ} → Right F n list → (i x : ℕ) → x ≡ be32 list (4 * i) → i < n → 0 < i → be32 list (4 * i) < be32 list (4 * (i - 1)) → i ≡ below F (F x) n
falls-first {F} {n} {list} s i x e l a h = go (le-or-lt (same F (F x) x) 0)
  where
    low : x < n
    low = omega (arith, e, (at_place s i l).0)

    here : rank F n x ≡ i
    here = ap (rank F n) e ∙ (at_place s i l).1

    go : (same F (F x) x ≤ 0) ⊎ (0 < same F (F x) x) → i ≡ below F (F x) n
    go (inl z) = omega (arith, here, z)
    go (inr z) =
        let rises = stretch-rises s (F x) (same F (F x) x - 1) (same F (F x) x) (omega (arith, z)) (same-before F (F x) x n low refl) in
        let one : below F (F x) n + (same F (F x) x - 1) ≡ i - 1 = omega (arith, here, z) in
        let two : be32 list (4 * (i - 1)) < be32 list (4 * i) = subst (λ (j : ℕ). be32 list (4 * j) < be32 list (4 * i)) one (subst (λ (j : ℕ). be32 list (4 * (below F (F x) n + (same F (F x) x - 1))) < be32 list (4 * j)) here rises) in
        absurd (omega (arith, two, h))

-- which side of the numbers of v a place is on: x is the number there
module _ {F : ℕ → ℕ} {n : ℕ} {list : List ℕ} (s : Right F n list) (m x : ℕ) (l : m < n) (e : x ≡ be32 list (4 * m)) where
  pub here-low : x < n
  here-low = omega (arith, e, (at_place s m l).0)

  here : rank F n x ≡ m
  here = ap (rank F n) e ∙ (at_place s m l).1

  pub turn_low : (v : ℕ) → F x < v → m + 1 ≤ below F v n
  turn_low v h = omega (arith, here, stands-before F n v x here-low h)

  pub turn-high : (v : ℕ) → v ≤ F x → below F v n ≤ m
  turn-high v h = omega (arith, here, stands-behind F n v x h)

-- the share of the list that stands before a vertex, in tables of any size
pub share-fits : {v n many : ℕ} → v < many → many ≤ 65536 → n ≤ 524288 → v * n ≤ 34359738368
share-fits {v} {n} {many} a b c = let m : v * n ≤ 65536 * 524288 = mul-le-mul {n₁ = v} {m₁ = n} {n₂ = 65536} {m₂ = 524288} (omega arith) c in omega (arith, m)

pub share-low : {v n many : ℕ} → v < many → many ≤ 65536 → n ≤ 524288 → v * n / many ≤ 34359738368
share-low {v} {n} {many} a b c = let d : v * n / many ≤ v * n = div-le_self (v * n) many in let m : v * n ≤ 34359738368 = share-fits a b c in le_trans d m

-- ---- the two numbers of a stretch
abbrev stretch : ℕ → ℕ → Stretch
stretch first many = record { first = first; many = many }

module _ (size : ℕ) (v w h : List ℕ) (ok : Sound size v w h) (u : ℕ) where
  abbrev pub F : ℕ → ℕ
  F = from_of size w h

  abbrev pub n : ℕ
  n = total size w h

  -- the vertex's own record tells how many leave it
  pub as_many : departing_of v u ≡ same F u n
  as_many =
      let next : sums v u + departing_of v u ≡ sums v (suc u) = sums-step v u in
      omega (arith, next, ok.counted u, ok.counted (suc u), below_next F u n)

  module _ (first departing : ℕ) (f : first ≡ below F u n) (d : departing ≡ departing_of v u) where
    pub end_low : first + departing ≤ n
    end_low = omega (arith, f, d, as_many, below_next F u n, below-most F (suc u) n)

    -- where its walks end
    abbrev pub middle : ℕ
    middle = below F u n + same F u (records_in 16 w)

    walks_few : records_in 16 w ≤ n
    walks_few = omega arith

    pub middle-in : (first ≤ middle) × (middle ≤ first + departing)
    middle-in = (omega (arith, f), omega (arith, f, d, as_many, same_grows F u (records_in 16 w) n walks_few))

    pub parts-there : {list : List ℕ} → Right F n list → Parted list (records_in 16 w) first (first + departing) middle
    parts-there {list} s = record {
      begins = middle-in.0;
      ends = middle-in.1;
      walks = λ i a b.
          let e : below F u n + (i - below F u n) ≡ i = omega (arith, f) in
          subst (λ (j : ℕ). be32 list (4 * j) < records_in 16 w) e (stretch-walks s u (records_in 16 w) (i - below F u n) walks_few (omega (arith, f)));
      hops = λ i a b.
          let e : below F u n + (i - below F u n) ≡ i = omega (arith, f) in
          subst (λ (j : ℕ). records_in 16 w ≤ be32 list (4 * j)) e (stretch-hops s u (records_in 16 w) (i - below F u n) (omega (arith, f)) (omega (arith, f, d, as_many)));
    }

    pub found : stretch first departing ≡ stretch_of size w h u
    found = ap₂ stretch f (d ∙ as_many)

    pub walks-found : (m : ℕ) → m ≡ middle → stretch first (m - first) ≡ walks_of size w h u
    walks-found m e = let b : m - first ≡ same F u (records_in 16 w) = omega (arith, e, f) in ap₂ stretch f b
