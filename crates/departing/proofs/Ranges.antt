-- The ranges of records that are noted for the blocks of vertices. Assumes nothing.
use mathlib.Core.Path.{◌≡◌, sym, ap, ◌∙◌, subst}
use mathlib.Core.Logic.{◌⊎◌, inl, inr, ⊎_elim}
use mathlib.Core.List.{List}
use Prim.Native.Nat.{ℕ, ◌+◌, ◌*◌, ◌/◌, ◌≤◌, ◌<◌, min, max}
use native.Mathlib.Omega.{arith}
use lib.ListN.{length, get_or, set, length-set}
use lib.Seq.{get_or-set_same, get_or-set_other}
use Rattle.journeys.proofs.Tests.{Test, same, other, test}
use Rattle.records.specs.Columns.{records_in, from_at}
use Rattle.departing.specs.Scratch.{Outside, Near, place, Noted, Inside, range_start, range_end}

-- the two stores that widen a range
pub near : (s : List ℕ) (at q : ℕ) → at + 2 ≤ length s → Near s (set (set s at (min (get_or s at 0) q)) (at + 1) (max (get_or s (at + 1) 0) q)) at q
near s at q h =
    let a = min (get_or s at 0) q in
    let b = max (get_or s (at + 1) 0) q in
    record {
      low = get_or-set_other (set s at a) (at + 1) at b 0 (λ (e : at ≡ at + 1). omega arith) ∙ get_or-set_same s at a 0 (omega arith);
      high = get_or-set_same (set s at a) (at + 1) b 0 (simp length-set (omega arith));
      others = λ k n m. get_or-set_other (set s at a) (at + 1) k b 0 m ∙ get_or-set_other s at k a 0 n;
    }

pub outside-near : (low high : ℕ) (s₀ s s' : List ℕ) (at q : ℕ) → low ≤ at → at + 2 ≤ high → Outside low high s₀ s → Near s s' at q → Outside low high s₀ s'
outside-near low high s₀ s s' at q a b o n k w =
    n.others k (λ (e : k ≡ at). ⊎_elim (λ (l : k < low). omega arith) (λ (l : high ≤ k). omega arith) w)
    (λ (e : k ≡ at + 1). ⊎_elim (λ (l : k < low). omega arith) (λ (l : high ≤ k). omega arith) w)
    ∙ o k w

pub outside-then : (low high : ℕ) (s₀ s s' : List ℕ) → Outside low high s₀ s → Outside low high s s' → Outside low high s₀ s'
outside-then low high s₀ s s' o p k w = p k w ∙ o k w

-- a range that is widened still reaches what it reached
module _ (size : ℕ) (t : List ℕ) (at : ℕ) (s s' : List ℕ) (i : ℕ) (n : Near s s' (place at (from_at size t i)) (i / 4)) where
  reached : (g j : ℕ) → get_or s (at + 2 * g) 0 ≤ j → j ≤ get_or s (at + 2 * g + 1) 0 → (get_or s' (at + 2 * g) 0 ≤ j) × (j ≤ get_or s' (at + 2 * g + 1) 0)
  reached g j low high = go _ (test g (from_at size t i / 1904))
    where
      go : (b : _) → Test g (from_at size t i / 1904) b → (get_or s' (at + 2 * g) 0 ≤ j) × (j ≤ get_or s' (at + 2 * g + 1) 0)
      go _ (same e) =
          let f : at + 2 * (from_at size t i / 1904) ≡ at + 2 * g = omega arith in
          (omega (arith, rw f at n.low), omega (arith, rw f at n.high))
      go _ (other e) =
          let h = from_at size t i / 1904 in
          let o : (h ≡ g → ⊥) = λ (q : h ≡ g). e (sym q) in (
            omega (arith, n.others (at + 2 * g) (λ (q : at + 2 * g ≡ at + 2 * h). e (omega arith)) (λ (q : at + 2 * g ≡ at + 2 * h + 1). omega arith)),
            omega (arith, n.others (at + 2 * g + 1) (λ (q : at + 2 * g + 1 ≡ at + 2 * h). omega arith) (λ (q : at + 2 * g + 1 ≡ at + 2 * h + 1). e (omega arith))),
          )

  pub noted_more : Noted size t at i s → Noted size t at (i + 1) s'
  noted_more k j l =
      ⊎_elim (λ (e : j ≡ i). subst (λ (x : ℕ). (get_or s' (place at (from_at size t x)) 0 ≤ x / 4) × (x / 4 ≤ get_or s' (place at (from_at size t x) + 1) 0)) (sym e) last)
      (λ (b : j < i). reached (from_at size t j / 1904) (j / 4) (k j b).0 (k j b).1)
      (which j l)
    where
      last : (get_or s' (place at (from_at size t i)) 0 ≤ i / 4) × (i / 4 ≤ get_or s' (place at (from_at size t i) + 1) 0)
      last = (omega (arith, n.low), omega (arith, n.high))

      which : (j : ℕ) → j < i + 1 → (j ≡ i) ⊎ (j < i)
      which j l = go _ (test j i)
        where
          go : (b : _) → Test j i b → (j ≡ i) ⊎ (j < i)
          go _ (same e) = inl e
          go _ (other e) = inr (omega arith)

-- notes outside what changed
pub noted-kept : (size : ℕ) (t : List ℕ) (at n low high : ℕ) (s s' : List ℕ)
    → ((i : ℕ) → i < n → (place at (from_at size t i) + 1 < low) ⊎ (high ≤ place at (from_at size t i))) → Outside low high s s' → Noted size t at n s → Noted size t at n s'
noted-kept size t at n low high s s' where-is o k i l =
    ⊎_elim (λ (w : place at (from_at size t i) + 1 < low). both (o (place at (from_at size t i)) (inl (omega arith))) (o (place at (from_at size t i) + 1) (inl w)))
    (λ (w : high ≤ place at (from_at size t i)). both (o (place at (from_at size t i)) (inr w)) (o (place at (from_at size t i) + 1) (inr (omega arith))))
    (where-is i l)
  where
    both : get_or s' (place at (from_at size t i)) 0 ≡ get_or s (place at (from_at size t i)) 0 → get_or s' (place at (from_at size t i) + 1) 0 ≡ get_or s (place at (from_at size t i) + 1) 0
        → (get_or s' (place at (from_at size t i)) 0 ≤ i / 4) × (i / 4 ≤ get_or s' (place at (from_at size t i) + 1) 0)
    both a b = (omega (arith, (k i l).0), omega (arith, (k i l).1))

-- the records that leave a block stand in its range
pub range_inside : (size : ℕ) (t s : List ℕ) (at g len : ℕ) → len ≤ 1904 → Noted size t at (records_in size t) s
    → Inside size t (range_start s (at + 2 * g) (records_in size t)) (range_end s (at + 2 * g) (records_in size t)) (1904 * g) len
range_inside size t s at g len h k i j l m e =
    let d : from_at size t i / 1904 ≡ g = ap (λ (x : ℕ). x / 1904) e ∙ omega arith in
    let low : get_or s (at + 2 * g) 0 ≤ i / 4 = rw d at (k i l).0 in
    let high : i / 4 ≤ get_or s (at + 2 * g + 1) 0 = rw d at (k i l).1 in
    (omega arith, omega arith)
