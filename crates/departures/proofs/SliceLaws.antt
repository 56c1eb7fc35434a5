-- Records in a part of a slice, and what stands behind them. Assumes nothing.
use mathlib.Core.Path.{◌≡◌, refl, sym, ap, ap₂, subst, ◌∙◌}
use mathlib.Core.Logic.{◌⊎◌, inl, inr}
use mathlib.Core.Bool.{Bool, true, false, cond}
use mathlib.Core.List.{List, [], ◌∷◌, ◌++◌, map, flat_map, append-nil, append_assoc}
use Prim.Native.Nat.{ℕ, zero, suc, ◌+◌, ◌-◌, ◌*◌, ◌<◌, ◌≤◌}
use native.Mathlib.Omega.{arith}
use lib.ListN.{length, get_or, take, drop, replicate, length-append, length-take, length-drop}
use lib.Dec.{eqb}
use lib.Seq.{get_or-take, ext_get_or, length-take-le, take_at, drop-append-add}
use borrow.Rule.Slice.PartMut.{mid_of, put_mid}
use Rattle.journeys.specs.Counting.{joined}
use Rattle.journeys.specs.Bytes.{filled, cleared}
use Rattle.journeys.specs.Refusals.{Refusal}
use Rattle.journeys.proofs.Tests.{split, cond-true, cond-false}
use Rattle.words.proofs.Rest.{rest-cleared}
use Rattle.feed.specs.Stops.{Stop}
use Rattle.feed.specs.Trips.{hops_of}
use Rattle.departures.specs.Answered.{trips_refusal, trips_bytes}
use Rattle.table_bytes.specs.Columns.{at}
use Rattle.table_bytes.proofs.Access.{col-get, col-length, dec-ext}
use Rattle.sorting.specs.Sorted.{recs}

-- the first records of a slice are those of its front
pub recs-front : (k n : ℕ) (b : List ℕ) → k ≤ n → recs k (take (20 * n) b) ≡ recs k b
recs-front k n b h = ext_get_or 0 _ _ (col-length 20 k (take (20 * n) b) 0 ∙ sym (col-length 20 k b 0)) (λ i l.
    let m : i < k = rw (col-length 20 k (take (20 * n) b) 0) at l in
    col-get 20 k (take (20 * n) b) 0 i m
    ∙ dec-ext 20 (take (20 * n) b) b (0 + i * 20) (0 + i * 20) (λ j q. get_or-take (20 * n) b (0 + i * 20 + j) 0 (omega arith))
    ∙ sym (col-get 20 k b 0 i m))

pub recs-take : (k n : ℕ) (b : List ℕ) → k ≤ n → recs k b ≡ take k (recs n b)
recs-take k n b h =
    let e : length (take k (recs n b)) ≡ k = length-take-le k (recs n b) (omega (arith, col-length 20 n b 0)) in
    ext_get_or 0 _ _ (col-length 20 k b 0 ∙ sym e) (λ i l.
    let m : i < k = rw (col-length 20 k b 0) at l in
    col-get 20 k b 0 i m ∙ sym (get_or-take k (recs n b) i 0 m ∙ col-get 20 n b 0 i (omega arith)))

-- the front of records that were written there
pub recs-are : (k n : ℕ) (b G r : List ℕ) → k ≤ n → length G ≡ k → recs n b ≡ G ++ r → recs k b ≡ G
recs-are k n b G r h l e = recs-take k n b h ∙ ap (take k) e ∙ take_at G r k l

-- ---- one list behind the other, by their numbers
joined-first : {A : Type 0} (f : ℕ → List A) (n : ℕ) → joined f (suc n) ≡ f 0 ++ joined (λ i. f (suc i)) n
unfolding joined
joined-first f zero = sym (append-nil (f 0))
joined-first f (suc n) = ap (λ l. l ++ f (suc n)) (joined-first f n) ∙ append_assoc (f 0) (joined (λ i. f (suc i)) n) (f (suc n))

pub flat-joined : (f : ℕ → List ℕ) (l : List ℕ) → flat_map (λ h. h) (map f l) ≡ joined (λ i. f (at l i)) (length l)
unfolding flat_map joined
flat-joined f [] = refl
flat-joined f (x ∷ l) = ap (λ r. f x ++ r) (flat-joined f l) ∙ sym (joined-first (λ i. f (at (x ∷ l) i)) (length l))

-- ---- a buffer that takes bytes
pub filled-same : (b c X : List ℕ) → length b ≡ length c → filled b X ≡ filled c X
unfolding filled
filled-same b c X e = ap (λ (n : ℕ). X ++ replicate (n - length X) 0) e

pub cleared-same : (b c : List ℕ) → length b ≡ length c → cleared b ≡ cleared c
unfolding cleared
cleared-same b c e = ap (λ (n : ℕ). replicate n 0) e

replicate_more : (m n : ℕ) → replicate {A = ℕ} m 0 ++ replicate n 0 ≡ replicate (m + n) 0
replicate_more zero n = let e : zero + n ≡ n = omega arith in rw e refl
replicate_more (suc m) n = let e : suc m + n ≡ suc (m + n) = omega arith in rw e (ap (λ (l : List ℕ). 0 ∷ l) (replicate_more m n))

-- a front and zeros behind it
module _ (b : List ℕ) (m : ℕ) (h : m ≤ length b) where
  front_long : length (take m b) ≡ m
  front_long = length-take-le m b h

  pub cleared_more : cleared (take m b) ++ replicate (length b - m) 0 ≡ cleared b
  unfolding cleared
  cleared_more =
      let e : length (take m b) + (length b - m) ≡ length b = omega (arith, front_long) in
      replicate_more (length (take m b)) (length b - m) ∙ ap (λ (n : ℕ). replicate n 0) e

  pub filled_more : (X : List ℕ) → length X ≤ m → filled (take m b) X ++ replicate (length b - m) 0 ≡ filled b X
  unfolding filled
  filled_more X l =
      let e : length (take m b) - length X + (length b - m) ≡ length b - length X = omega (arith, front_long) in
      append_assoc X (replicate (length (take m b) - length X) 0) (replicate (length b - m) 0)
      ∙ ap (λ (r : List ℕ). X ++ r) (replicate_more (length (take m b) - length X) (length b - m) ∙ ap (λ (n : ℕ). replicate n 0) e)

pub filled-long : (b X : List ℕ) → length (filled b X) ≡ length b → length X ≤ length b
unfolding filled
filled-long b X e = omega (arith, e, length-append X (replicate (length b - length X) 0))

-- ---- a front that was changed and the rest of the slice that became zero, in either order
pub finish-told : (b L z : List ℕ) (m : ℕ) → m ≤ length b → length L ≡ m → z ≡ replicate (length (mid_of m (length (L ++ drop m b) - m) (L ++ drop m b))) 0
    → put_mid m (length (L ++ drop m b) - m) (L ++ drop m b) z ≡ filled b L
finish-told b L z m h l q =
    let long : length (L ++ drop m b) ≡ length b = length-append L (drop m b) ∙ omega (arith, length-drop m b) in
    rest-cleared (L ++ drop m b) z m (length (L ++ drop m b) - m) (omega arith) refl q
    ∙ ap (filled (L ++ drop m b)) (take_at L (drop m b) m l)
    ∙ filled-same (L ++ drop m b) b L long

module _ (b z : List ℕ) (m : ℕ) (h : m ≤ length b) (q : z ≡ replicate (length (mid_of m (length b - m) b)) 0) where
  zero-behind : put_mid m (length b - m) b z ≡ take m b ++ replicate (length b - m) 0
  unfolding filled
  zero-behind =
      rest-cleared b z m (length b - m) h refl q
      ∙ ap (λ (n : ℕ). take m b ++ replicate (length b - n) 0) (length-take-le m b h)

  pub front_kept : take m (put_mid m (length b - m) b z) ≡ take m b
  front_kept = ap (take m) zero-behind ∙ take_at (take m b) (replicate (length b - m) 0) m (length-take-le m b h)

  pub behind-zero : drop m (put_mid m (length b - m) b z) ≡ replicate (length b - m) 0
  behind-zero =
      let e : m ≡ length (take m b) + 0 = omega (arith, length-take-le m b h) in
      ap (drop m) zero-behind
      ∙ ap (λ (n : ℕ). drop n (take m b ++ replicate (length b - m) 0)) e
      ∙ drop-append-add (take m b) (replicate (length b - m) 0) 0

pub bytes-more : (S : List Stop) (b X : List ℕ) (m : ℕ) → m ≤ length b → length X ≡ m → X ≡ trips_bytes S (take m b) → X ++ replicate (length b - m) 0 ≡ trips_bytes S b
unfolding trips_bytes
bytes-more S b X m h l e = go (split (eqb (trips_refusal S).number 0))
  where
    go : (eqb (trips_refusal S).number 0 ≡ true) ⊎ (eqb (trips_refusal S).number 0 ≡ false) → X ++ replicate (length b - m) 0 ≡ cond (eqb (trips_refusal S).number 0) (filled b (flat_map (λ h. h) (hops_of S))) (cleared b)
    go (inl t) =
        let f : X ≡ filled (take m b) (flat_map (λ h. h) (hops_of S)) = e ∙ cond-true _ (cleared (take m b)) t in
        let k : length (flat_map (λ h. h) (hops_of S)) ≤ m = omega (arith, length-take-le m b h, filled-long (take m b) (flat_map (λ h. h) (hops_of S)) (sym (ap length f) ∙ l ∙ sym (length-take-le m b h))) in
        ap (λ (x : List ℕ). x ++ replicate (length b - m) 0) f ∙ filled_more b m h (flat_map (λ h. h) (hops_of S)) k ∙ sym (cond-true (filled b (flat_map (λ h. h) (hops_of S))) (cleared b) t)
    go (inr t) =
        let f : X ≡ cleared (take m b) = e ∙ cond-false (filled (take m b) (flat_map (λ h. h) (hops_of S))) _ t in
        ap (λ (x : List ℕ). x ++ replicate (length b - m) 0) f ∙ cleared_more b m h ∙ sym (cond-false (filled b (flat_map (λ h. h) (hops_of S))) (cleared b) t)
