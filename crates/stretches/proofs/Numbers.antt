-- The list that is not refused is the right one, and the numbers of a stretch: the records that leave its vertex, rising, walks before hops. Assumes nothing.
use mathlib.Core.Path.{◌≡◌, sym, ap, ◌∙◌}
use mathlib.Core.Logic.{◌⊎◌, inl, inr}
use mathlib.Core.List.{List}
use Prim.Native.Nat.{ℕ, ◌+◌, ◌*◌, ◌<◌, ◌≤◌}
use native.Mathlib.Omega.{arith}
use lib.Dec.{eqb}
use lib.ListN.{get_or}
use borrow.Author.Tests.{eqb-true}
use Rattle.journeys.specs.Counting.{none}
use Rattle.journeys.specs.Bytes.{be32}
use Rattle.journeys.specs.Tables.{tables_of}
use Rattle.journeys.specs.Records.{record_count}
use Rattle.journeys.specs.CourierList.{leaving, by_from, list_refusal}
use Rattle.journeys.proofs.Refusals.{bad-fine}
use Rattle.journeys.proofs.Tests.{le-or-lt}
use Rattle.listing.specs.Places.{total, from_of, below, same, place, rank, leaves, Sound}
use Rattle.listing.proofs.PlaceLaws.{same_grows, same-before, rank-low, leaves-has, leaves_at}
use Rattle.listing.proofs.Froms.{leaving-is, total-is, number_at}
use Rattle.stretches.specs.Stretch.{Right}

-- refusal 22 is not given
pub right-list : (size : ℕ) (v w h : List ℕ) {list : List ℕ} → Sound size v w h → (list_refusal (tables_of size v w h) list).number ≡ 0 → Right (from_of size w h) (total size w h) list
unfolding list_refusal
right-list size v w h {list} ok e = record {
  stands = λ x l.
      let i = rank (from_of size w h) (total size w h) x in
      let low : i < record_count (tables_of size v w h) = omega (arith, rank-low (from_of size w h) (total size w h) x l, total-is size v w h) in
      eqb-true (be32 list (4 * i)) (get_or (by_from (tables_of size v w h)) i none)
      (bad-fine 22 (λ i. eqb (be32 list (4 * i)) (get_or (by_from (tables_of size v w h)) i none)) (record_count (tables_of size v w h)) (omega arith) e i low)
      ∙ number_at size v w h ok.low x l;
}

module _ {F : ℕ → ℕ} {n : ℕ} {list : List ℕ} (s : Right F n list) (u : ℕ) where
  -- what stands behind k others of its vertex
  pub stretch-at : (k : ℕ) → k < same F u n → (x : ℕ) × (x < n) × (F x ≡ u) × (same F u x ≡ k) × (be32 list (4 * (below F u n + k)) ≡ x)
  stretch-at k l =
      let r = leaves-has F u k n l in
      let e : rank F n r.0 ≡ below F u n + k = ap (λ (z : ℕ). place F n z r.0) r.2 ∙ ap (λ (z : ℕ). below F u n + z) r.3 in
      (r.0, r.1, r.2, r.3, ap (λ (j : ℕ). be32 list (4 * j)) (sym e) ∙ s.stands r.0 r.1)

  -- records of the vertex
  pub stretch-low : (k : ℕ) → k < same F u n → be32 list (4 * (below F u n + k)) < n
  stretch-low k l = let p = stretch-at k l in omega (arith, p.1, p.4)

  pub stretch-from : (k : ℕ) → k < same F u n → F (be32 list (4 * (below F u n + k))) ≡ u
  stretch-from k l = let p = stretch-at k l in ap F p.4 ∙ p.2

  -- they rise
  pub stretch-rises : (i j : ℕ) → i < j → j < same F u n → be32 list (4 * (below F u n + i)) < be32 list (4 * (below F u n + j))
  stretch-rises i j h l = go (le-or-lt q.0 p.0)
    where
      p : (x : ℕ) × (x < n) × (F x ≡ u) × (same F u x ≡ i) × (be32 list (4 * (below F u n + i)) ≡ x)
      p = stretch-at i (omega arith)

      q : (x : ℕ) × (x < n) × (F x ≡ u) × (same F u x ≡ j) × (be32 list (4 * (below F u n + j)) ≡ x)
      q = stretch-at j l

      go : (q.0 ≤ p.0) ⊎ (p.0 < q.0) → be32 list (4 * (below F u n + i)) < be32 list (4 * (below F u n + j))
      go (inr z) = omega (arith, p.4, q.4)
      go (inl z) = absurd (omega (arith, same_grows F u q.0 p.0 z, p.3, q.3))

  -- those below `ways`, where walks end and hops begin, stand before the others
  pub stretch-walks : (ways k : ℕ) → ways ≤ n → k < same F u ways → be32 list (4 * (below F u n + k)) < ways
  stretch-walks ways k m l = go (le-or-lt ways p.0)
    where
      p : (x : ℕ) × (x < n) × (F x ≡ u) × (same F u x ≡ k) × (be32 list (4 * (below F u n + k)) ≡ x)
      p = stretch-at k (omega (arith, same_grows F u ways n m))

      go : (ways ≤ p.0) ⊎ (p.0 < ways) → be32 list (4 * (below F u n + k)) < ways
      go (inr z) = omega (arith, p.4)
      go (inl z) = absurd (omega (arith, same_grows F u ways p.0 z, p.3))

  pub stretch-hops : (ways k : ℕ) → same F u ways ≤ k → k < same F u n → ways ≤ be32 list (4 * (below F u n + k))
  stretch-hops ways k m l = go (le-or-lt ways p.0)
    where
      p : (x : ℕ) × (x < n) × (F x ≡ u) × (same F u x ≡ k) × (be32 list (4 * (below F u n + k)) ≡ x)
      p = stretch-at k l

      go : (ways ≤ p.0) ⊎ (p.0 < ways) → ways ≤ be32 list (4 * (below F u n + k))
      go (inl z) = omega (arith, p.4)
      go (inr z) = absurd (omega (arith, same-before F u p.0 ways z p.2, p.3))

-- the numbers of a stretch are the list of the definitions for its vertex
pub stretch-numbers : (size : ℕ) (v w h : List ℕ) {list : List ℕ} → Right (from_of size w h) (total size w h) list → (u k : ℕ) → k < same (from_of size w h) u (total size w h)
    → be32 list (4 * (below (from_of size w h) u (total size w h) + k)) ≡ get_or (leaving (tables_of size v w h) u) k none
stretch-numbers size v w h {list} s u k l =
    let F = from_of size w h in
    let n : ℕ = total size w h in
    let p = stretch-at s u k l in
    p.4
    ∙ sym (ap (λ (m : List ℕ). get_or m k none) (leaving-is size v w h u) ∙ ap (λ (j : ℕ). get_or (leaves F u n) j none) (sym p.3) ∙ leaves_at F u p.0 n p.1 p.2)
