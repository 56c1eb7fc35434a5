-- Numbers that rise among the walks rise among all records; and what waits. Assumes nothing.
use mathlib.Core.Path.{◌≡◌, sym, ap, subst, ◌∙◌}
use mathlib.Core.Logic.{◌≢◌}
use mathlib.Core.List.{List}
use Prim.Native.Nat.{ℕ, zero, suc, ◌+◌, ◌*◌, ◌/◌, ◌%◌, ◌<◌, ◌≤◌}
use native.Mathlib.Omega.{arith}
use native.Mathlib.Decide.{ℕ_discrete}
use lib.ListN.{length, get_or, set, length-set}
use lib.Seq.{get_or-set_same, get_or-set_other}
use Rattle.journeys.specs.Bytes.{be32}
use Rattle.listing.specs.Places.{same}
use Rattle.listing.proofs.PlaceLaws.{same_here, same-other, same_start, same_grows}
use Rattle.listed.specs.Stretches.{Rising}
use Rattle.listed.specs.Waiting.{Leave, waited, Waits, WaitingIs}
use Rattle.std.specs.Prelude.{Option, Some, None}

-- the bound may be higher
pub rising-later : {F : ℕ → ℕ} {n v first i low : ℕ} {list : List ℕ} (high : ℕ) → low ≤ high → high ≤ n → Rising F n v first i low list → Rising F n v first i high list
rising-later {F} {n} {v} {first} {i} {low} high l h s =
    let grows = same_grows F v low high l in
    record { few = omega (arith, s.few, grows); within = h; each = λ j p q. let r = s.each j p q in (r.0, r.1, r.2, omega (arith, r.3, grows)) }

-- G and F tell the same of the first m records
module _ (F G : ℕ → ℕ) (m : ℕ) (alike : (x : ℕ) → x < m → G x ≡ F x) (v : ℕ) where
  step-alike : (k : ℕ) → k < m → same G v k ≡ same F v k → Dec (F k ≡ v) → same G v (suc k) ≡ same F v (suc k)
  step-alike k l s (yes e) = same_here G v k (alike k l ∙ e) ∙ ap suc s ∙ sym (same_here F v k e)
  step-alike k l s (no e) = same-other G v k (λ z. e (sym (alike k l) ∙ z)) ∙ s ∙ sym (same-other F v k e)

  same_alike : (k : ℕ) → k ≤ m → same G v k ≡ same F v k
  same_alike zero l = same_start G v ∙ sym (same_start F v)
  same_alike (suc k) l = step-alike k l (same_alike k (omega arith)) (ℕ_discrete (F k) v)

  -- what rises among them rises among n
  pub rising-among : {first i low n : ℕ} {list : List ℕ} → m ≤ n → Rising F m v first i low list → Rising G n v first i low list
  rising-among {first} {i} {low} {n} {list} l s =
      let lows = same_alike low s.within in
      record {
        few = omega (arith, s.few, lows);
        within = omega (arith, s.within);
        each = λ j p q.
            let r = s.each j p q in
            let here = same_alike (be32 list (4 * j)) (omega (arith, r.0)) in
            (omega (arith, r.0), alike (be32 list (4 * j)) r.0 ∙ r.1, omega (arith, r.2, here), omega (arith, r.3, here, lows));
      }

-- one more leaves
pub leave-more : (F : ℕ → ℕ) (s : List ℕ) (k : ℕ) → Leave F s k → F (get_or s (4 * k) 0 + 65536 * get_or s (4 * k + 1) 0) ≡ get_or s (4 * k + 2) 0 → Leave F s (k + 1)
leave-more F s k all e j l = go (ℕ_discrete j k)
  where
    go : Dec (j ≡ k) → F (get_or s (4 * j) 0 + 65536 * get_or s (4 * j + 1) 0) ≡ get_or s (4 * j + 2) 0
    go (yes z) = rw z e
    go (no z) = all j (omega (arith, z))

-- one more waits
module _ (s : List ℕ) (k x v : ℕ) (long : length s ≡ 2048) (low : k < 512) where
  -- the words one after the other
  abbrev one : List ℕ
  one = set s (4 * k) (x % 65536)

  abbrev two : List ℕ
  two = set one (4 * k + 1) (x / 65536)

  unset : (i : ℕ) → i ≢ 4 * k → i ≢ 4 * k + 1 → i ≢ 4 * k + 2 → get_or (waited s k x v) i 0 ≡ get_or s i 0
  unfolding waited
  unset i a b c = get_or-set_other two (4 * k + 2) i v 0 c ∙ get_or-set_other one (4 * k + 1) i (x / 65536) 0 b ∙ get_or-set_other s (4 * k) i (x % 65536) 0 a

  at_low : get_or (waited s k x v) (4 * k) 0 ≡ x % 65536
  unfolding waited
  at_low = get_or-set_other two (4 * k + 2) (4 * k) v 0 (λ e. absurd (omega (arith, e))) ∙ get_or-set_other one (4 * k + 1) (4 * k) (x / 65536) 0 (λ e. absurd (omega (arith, e))) ∙ get_or-set_same s (4 * k) (x % 65536) 0 (omega arith)

  at_high : get_or (waited s k x v) (4 * k + 1) 0 ≡ x / 65536
  unfolding waited
  at_high = get_or-set_other two (4 * k + 2) (4 * k + 1) v 0 (λ e. absurd (omega (arith, e))) ∙ get_or-set_same one (4 * k + 1) (x / 65536) 0 (simp length-set (omega arith))

  at-vertex : get_or (waited s k x v) (4 * k + 2) 0 ≡ v
  unfolding waited
  at-vertex = get_or-set_same two (4 * k + 2) v 0 (simp length-set (omega arith))

  module _ (F : ℕ → ℕ) (all : Leave F (waited s k x v) (k + 1)) where
    -- those before it are as they were
    pub leave-before : Leave F s k
    leave-before j l =
        let a = unset (4 * j) (λ e. absurd (omega (arith, e))) (λ e. absurd (omega (arith, e))) (λ e. absurd (omega (arith, e))) in
        let b = unset (4 * j + 1) (λ e. absurd (omega (arith, e))) (λ e. absurd (omega (arith, e))) (λ e. absurd (omega (arith, e))) in
        let c = unset (4 * j + 2) (λ e. absurd (omega (arith, e))) (λ e. absurd (omega (arith, e))) (λ e. absurd (omega (arith, e))) in
        let number : get_or s (4 * j) 0 + 65536 * get_or s (4 * j + 1) 0 ≡ get_or (waited s k x v) (4 * j) 0 + 65536 * get_or (waited s k x v) (4 * j + 1) 0 = omega (arith, a, b) in
        ap F number ∙ all j (omega arith) ∙ c

    -- and it leaves
    pub leave-here : F x ≡ v
    leave-here =
        let number : x ≡ get_or (waited s k x v) (4 * k) 0 + 65536 * get_or (waited s k x v) (4 * k + 1) 0 = omega (arith, at_low, at_high) in
        ap F number ∙ all k (omega arith) ∙ at-vertex

  pub waited-long : length (waited s k x v) ≡ 2048
  unfolding waited
  waited-long = simp length-set long

-- the answer by its cases
module _ (size : ℕ) (w h : List ℕ) (v at end : ℕ) (list s : List ℕ) (k : ℕ) (s' : List ℕ) where
  pub wrong-is : WaitingIs size w h v at end list s k s' None
  unfolding WaitingIs
  wrong-is = tt

  pub many_is : (k' : ℕ) → Waits size w h v at end list s k s' k' → WaitingIs size w h v at end list s k s' (Some k')
  unfolding WaitingIs
  many_is k' a = a

  pub is-many : (r : Option ℕ) (k' : ℕ) → r ≡ Some k' → WaitingIs size w h v at end list s k s' r → Waits size w h v at end list s k s' k'
  unfolding WaitingIs
  is-many r k' e a = subst (WaitingIs size w h v at end list s k s') e a
