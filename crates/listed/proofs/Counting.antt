-- Stretches that rise, as many numbers as there are records: so the counts of the vertices are right, and so is the list. Assumes nothing.
use mathlib.Core.Path.{◌≡◌, sym, ap, subst, ◌∙◌}
use mathlib.Core.List.{List}
use Prim.Native.Nat.{ℕ, zero, suc, ◌+◌, ◌-◌, ◌/◌, ◌<◌, ◌≤◌}
use native.Mathlib.Omega.{arith}
use lib.ListN.{length}
use borrow.Author.Tests.{lt-ltb}
use Rattle.journeys.specs.Tables.{tables_of, vertex_at}
use Rattle.journeys.specs.Records.{departing}
use Rattle.journeys.specs.Refusals.{fine}
use Rattle.journeys.specs.CourierList.{list_refusal}
use Rattle.journeys.proofs.Tests.{last-or-below, cond-true}
use mathlib.Core.Logic.{◌⊎◌, inl, inr}
use Rattle.starts.specs.Sums.{departing_of, sums}
use Rattle.starts.proofs.SumLaws.{sums-zero, sums-step}
use Rattle.listing.specs.Places.{below, same, Sound}
use Rattle.listing.proofs.PlaceLaws.{below_next, below_none, below-most, same_grows}
use Rattle.listing.proofs.Froms.{departing-is}
use Rattle.listed.specs.Stretches.{Found, Risen, Sure}
use Rattle.listed.proofs.Judging.{rising-all, found_none, found-more, all_found}

-- the stretches of the first c vertices rise
abbrev pub Climbed : (ℕ → ℕ) → ℕ → List ℕ → List ℕ → ℕ → Type 0
Climbed F n t list c = (u : ℕ) → u < c → Risen F n u (sums t u) (sums t (suc u)) list

module _ (F : ℕ → ℕ) (n : ℕ) (t list : List ℕ) where
  pub climbed-more : (c : ℕ) {first end : ℕ} → Climbed F n t list c → first ≡ sums t c → end ≡ sums t (c + 1) → Risen F n c first end list → Climbed F n t list (c + 1)
  climbed-more c {first} {end} all a b s u l = go (last-or-below m)
    where
      m : u < suc c
      m = omega arith

      go : (u ≡ c) ⊎ (u < c) → Risen F n u (sums t u) (sums t (suc u)) list
      go (inl q) =
          let e : c + 1 ≡ suc c = omega arith in
          subst (λ (x : ℕ). Risen F n x (sums t x) (sums t (suc x)) list) (sym q) (rw (← a, ← ap (sums t) e, ← b) s)
      go (inr q) = all u q

  module _ (c : ℕ) (all : Climbed F n t list c) where
    -- no vertex has more than leave it
    at_most : (u : ℕ) → u < c → sums t (suc u) ≤ sums t u + same F u n
    at_most u l = let s = all u l in omega (arith, s.rising.few, same_grows F u s.low n s.rising.within)

    between : (u k : ℕ) → u + k ≤ c → sums t (u + k) + below F u n ≤ sums t u + below F (u + k) n
    between u zero l = let e : u + 0 ≡ u = omega arith in omega (arith, ap (sums t) e, ap (λ (x : ℕ). below F x n) e)
    between u (suc k) l =
        let e : suc (u + k) ≡ u + suc k = omega arith in
        omega (arith, between u k (omega arith), at_most (u + k) (omega arith), below_next F (u + k) n, ap (sums t) e, ap (λ (x : ℕ). below F x n) e)

    module _ (full : sums t c ≡ n) where
      pub begins : (u : ℕ) → u ≤ c → sums t u ≡ below F u n
      begins u l =
          let e : 0 + u ≡ u = omega arith in
          let k : (j : ℕ) × (u + j ≡ c) = (c - u, omega arith) in
          omega (arith, between 0 u (omega arith), ap (sums t) e, ap (λ (x : ℕ). below F x n) e, sums-zero t, below_none F n, between u k.0 (omega (arith, k.1)), ap (sums t) k.1, ap (λ (x : ℕ). below F x n) k.1, below-most F c n)

      pub ends : (u : ℕ) → u < c → sums t (suc u) ≡ sums t u + same F u n
      ends u l = omega (arith, begins u (omega arith), begins (suc u) l, below_next F u n)

      pub counts-right : (u : ℕ) → u < c → departing_of t u ≡ same F u n
      counts-right u l = let next : sums t u + departing_of t u ≡ sums t (suc u) = sums-step t u in omega (arith, next, ends u l)

      found-upto : (u : ℕ) → u ≤ c → Found F n u list
      found-upto zero l = found_none F n list
      found-upto (suc u) l =
          let e : u + 1 ≡ suc u = omega arith in
          let b = begins u (omega arith) in
          subst (λ (x : ℕ). Found F n x list) e (found-more b (ends u l) (found-upto u (omega arith)) {r = sums t (suc u)} (omega arith) (rising-all F n u (sums t u) list b (ends u l) (all u l).rising))

      pub found_all : Found F n c list
      found_all = found-upto c (omega arith)

-- ---- what is sure, of the tables
module _ (size : ℕ) (v w h : List ℕ) {list : List ℕ} (s : Sure size v w h list) where
  pub counts-told : (u : ℕ) → u < length v / 12 → (vertex_at v u).departing ≡ departing (tables_of size v w h) u
  unfolding departing_of
  counts-told u l = sym (cond-true _ 0 (lt-ltb u (length v / 12) l)) ∙ s.counts u l ∙ sym (departing-is size v w h u)

  pub list-told : Sound size v w h → fine ≡ list_refusal (tables_of size v w h) list
  list-told ok = all_found size v w h list ok {u = length v / 12} (omega arith) s.found
