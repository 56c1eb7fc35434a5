-- One entry along a row: how the records of one vertex change it, and what may still be passed of it. Assumes nothing.
use mathlib.Core.Path.{◌≡◌, refl, sym, ap, ◌∙◌}
use mathlib.Core.Bool.{Bool, true, false, cond}
use Prim.Native.Nat.{ℕ, zero, suc, ◌+◌, ◌≤◌, ◌<◌}
use native.Mathlib.Omega.{arith}
use lib.Dec.{eqb}
use borrow.Author.Tests.{eq-eqb}
use Rattle.journeys.specs.Counting.{count}
use Rattle.journeys.proofs.Tests.{Test, same, other, test}
use Rattle.journeys.proofs.Counting.{count-grows, is_one}
use Rattle.worktable.specs.Map.{Entry, Map, put}
use Rattle.worktable.proofs.MapLaws.{put_same, put_other}
use Rattle.meeting.specs.Passing.{goes, along, left}

module _ (from : ℕ → ℕ) (f : ℕ → Entry → Entry) where
  pub goes-along : (j : ℕ) (m : Map) (u : ℕ) → goes from f j m u ≡ along from f j u (m u)
  unfolding goes along
  goes-along zero m u = refl
  goes-along (suc j) m u = go (eqb (from j) u) (test (from j) u) (goes-along j m u)
    where
      go : (b : Bool) → Test (from j) u b → goes from f j m u ≡ along from f j u (m u)
          → put (goes from f j m) (from j) (f j (goes from f j m (from j))) u ≡ cond b (f j (along from f j u (m u))) (along from f j u (m u))
      go true (same e) ih = put_same (goes from f j m) (from j) (f j (goes from f j m (from j))) u (sym e) ∙ ap (f j) (ap (goes from f j m) e ∙ ih)
      go false (other n) ih = put_other (goes from f j m) (from j) (f j (goes from f j m (from j))) u (λ q. n (sym q)) ∙ ih

  -- an entry that no record of u changes
  pub along-id : (u : ℕ) (e : Entry) → ((j : ℕ) → from j ≡ u → f j e ≡ e) → (n : ℕ) → along from f n u e ≡ e
  unfolding along
  along-id u e h zero = refl
  along-id u e h (suc j) = go (eqb (from j) u) (test (from j) u) (along-id u e h j)
    where
      go : (b : Bool) → Test (from j) u b → along from f j u e ≡ e → cond b (f j (along from f j u e)) (along from f j u e) ≡ e
      go true (same q) ih = ap (f j) ih ∙ h j q
      go false (other q) ih = ih

  -- a vertex that no record leaves
  pub along-none : (u : ℕ) (e : Entry) (n : ℕ) → count (λ i. eqb (from i) u) n ≡ 0 → along from f n u e ≡ e
  unfolding along count
  along-none u e zero h = refl
  along-none u e (suc j) h = go (eqb (from j) u) h (λ q. along-none u e j q)
    where
      go : (b : Bool) → count (λ i. eqb (from i) u) j + cond b 1 0 ≡ 0 → (count (λ i. eqb (from i) u) j ≡ 0 → along from f j u e ≡ e)
          → cond b (f j (along from f j u e)) (along from f j u e) ≡ e
      go true q ih = absurd (omega arith)
      go false q ih = ih (omega arith)

  -- each record takes one of those that may still be passed
  pub along-left : (u d : ℕ) → ((j : ℕ) → from j ≡ u → (e : Entry) → left d e ≤ suc (left d (f j e))) → (e : Entry) (j : ℕ)
      → left d e ≤ count (λ i. eqb (from i) u) j + left d (along from f j u e)
  unfolding along count
  along-left u d h e zero = omega arith
  along-left u d h e (suc j) = go (eqb (from j) u) (test (from j) u) (along-left u d h e j)
    where
      go : (b : Bool) → Test (from j) u b → left d e ≤ count (λ i. eqb (from i) u) j + left d (along from f j u e)
          → left d e ≤ count (λ i. eqb (from i) u) j + cond b 1 0 + left d (cond b (f j (along from f j u e)) (along from f j u e))
      go true (same q) ih = omega (arith, h j q (along from f j u e))
      go false (other q) ih = omega arith

pub along-same : (from : ℕ → ℕ) (f g : ℕ → Entry → Entry) (u : ℕ) → ((j : ℕ) → from j ≡ u → (e : Entry) → f j e ≡ g j e) → (e : Entry) (n : ℕ) → along from f n u e ≡ along from g n u e
unfolding along
along-same from f g u h e zero = refl
along-same from f g u h e (suc j) = go (eqb (from j) u) (test (from j) u) (along-same from f g u h e j)
  where
    go : (b : Bool) → Test (from j) u b → along from f j u e ≡ along from g j u e
        → cond b (f j (along from f j u e)) (along from f j u e) ≡ cond b (g j (along from g j u e)) (along from g j u e)
    go true (same q) ih = h j q (along from f j u e) ∙ ap (g j) ih
    go false (other q) ih = ih

-- a record that is still to be passed is counted among the rest
pub one_more : (from : ℕ → ℕ) (n j : ℕ) → j < n → suc (count (λ i. eqb (from i) (from j)) j) ≤ count (λ i. eqb (from i) (from j)) n
unfolding count
one_more from n j l = omega (arith, count-grows (λ i. eqb (from i) (from j)) (suc j) n l, is_one (eq-eqb (from j) (from j) refl))

-- so something remains to a vertex when one of its records comes
pub some_left : (from : ℕ → ℕ) (f : ℕ → Entry → Entry) (d n j : ℕ) → ((i : ℕ) → from i ≡ from j → (e : Entry) → left d e ≤ suc (left d (f i e)))
    → (e : Entry) → count (λ i. eqb (from i) (from j)) n ≤ left d e → j < n → 0 < left d (along from f j (from j) e)
some_left from f d n j h e l k = omega (arith, along-left from f (from j) d h e j, one_more from n j k)
