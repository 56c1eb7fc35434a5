-- What the frame is, in the words of the request: each value is that of a listed vertex bit for bit, no listed vertex lies outside, and between equals the
-- earliest in the list stays. The three together leave one value. Assumes nothing.
use mathlib.Core.Path.{◌≡◌, refl, sym, ap, subst, ◌∙◌}
use mathlib.Core.Logic.{⊎_elim}
use mathlib.Core.Bool.{Bool, true, false, cond}
use mathlib.Core.List.{List}
use Prim.Native.Nat.{ℕ, zero, suc, ◌-◌, ◌/◌, ◌≤◌, ◌<◌}
use native.Mathlib.Omega.{arith}
use lib.Ieee.{le, eq}
use lib.ListN.{length}
use Rattle.journeys.proofs.Tests.{split, never, le-or-lt, last-or-below, and_both}
use Rattle.frame.specs.Frames.{value, finite_bits, point_ok, smaller, larger, smallest, largest, listed_x, listed_y, Stays, bounds_to, frame_refusal, frame_bounds}
use Rattle.frame.proofs.Stored.{is_finite}
use Rattle.frame.proofs.Order.{below-through, not-both, not_equal, at_least}
use Rattle.frame.proofs.Fine.{some-entry, all_listed, bounds-are}

-- ---- one entry more, in any weak order
module _ (before : ℕ → ℕ → Bool) (f : ℕ → ℕ) (good : ℕ → Type 0) (through : (a b c : ℕ) → good a → good b → good c → before a b ≡ true → before c b ≡ false → before a c ≡ true)
    (once : (a b : ℕ) → good a → good b → before a b ≡ true → before b a ≡ false) where
  takes : (n b : ℕ) → Stays before f n b → ((i : ℕ) → i < suc n → good (f i)) → good b → before (f n) b ≡ true → Stays before f (suc n) (f n)
  takes n b S fits g t =
      record {
        entry = n;
        within = omega arith;
        stored = refl;
        first = λ j h. ⊎_elim (λ (e : j ≡ n). itself e) (λ (l : j < n). once (f n) (f j) (fits n (omega arith)) (fits j h) (after j l)) (last-or-below h);
        earliest = after;
      }
    where
      after : (j : ℕ) → j < n → before (f n) (f j) ≡ true
      after j l = through (f n) b (f j) (fits n (omega arith)) g (fits j (omega arith)) t (S.first j l)

      itself : {j : ℕ} → j ≡ n → before (f j) (f n) ≡ false
      itself {j} e =
          ⊎_elim (λ (t : before (f j) (f n) ≡ true). absurd (loop e t)) (λ (t : before (f j) (f n) ≡ false). t) (split (before (f j) (f n)))
        where
          loop : j ≡ n → before (f j) (f n) ≡ true → ⊥
          loop e t =
              let u : before (f n) (f n) ≡ true = ap (λ (k : ℕ). before (f k) (f n)) (sym e) ∙ t in
              never u (once (f n) (f n) (fits n (omega arith)) (fits n (omega arith)) u)

  keeps : (n b : ℕ) → Stays before f n b → before (f n) b ≡ false → Stays before f (suc n) b
  keeps n b S t =
      record {
        entry = S.entry;
        within = omega (arith, S.within);
        stored = S.stored;
        first = λ j h. ⊎_elim (λ (e : j ≡ n). ap (λ (k : ℕ). before (f k) b) e ∙ t) (λ (l : j < n). S.first j l) (last-or-below h);
        earliest = S.earliest;
      }

  alone : good (f 0) → Stays before f 1 (f 0)
  alone g =
      record {
        entry = 0;
        within = omega arith;
        stored = refl;
        first = λ j h. ⊎_elim (λ (t : before (f j) (f 0) ≡ true). absurd (loop j (omega arith) t)) (λ (t : before (f j) (f 0) ≡ false). t) (split (before (f j) (f 0)));
        earliest = λ j h. absurd (omega arith);
      }
    where
      loop : (j : ℕ) → j ≡ 0 → before (f j) (f 0) ≡ true → ⊥
      loop j e t =
          let u : before (f 0) (f 0) ≡ true = ap (λ (k : ℕ). before (f k) (f 0)) (sym e) ∙ t in
          never u (once (f 0) (f 0) g g u)

-- ---- the two orders of finite coordinates
abbrev Good : ℕ → Type 0
Good bits = finite_bits bits ≡ true

smaller-through : (a b c : ℕ) → Good a → Good b → Good c → smaller a b ≡ true → smaller c b ≡ false → smaller a c ≡ true
unfolding smaller
smaller-through a b c p q r h k = below-through (value a) (value b) (value c) (is_finite a p) (is_finite b q) (is_finite c r) h k

smaller-once : (a b : ℕ) → Good a → Good b → smaller a b ≡ true → smaller b a ≡ false
unfolding smaller
smaller-once a b p q h = not-both (value a) (value b) (is_finite a p) (is_finite b q) h

larger-through : (a b c : ℕ) → Good a → Good b → Good c → larger a b ≡ true → larger c b ≡ false → larger a c ≡ true
unfolding larger
larger-through a b c p q r h k =
    ⊎_elim (λ (t : smaller c a ≡ true). t)
    (λ (t : smaller c a ≡ false). absurd (never (smaller-through b a c q p r h t) k))
    (split (smaller c a))

larger-once : (a b : ℕ) → Good a → Good b → larger a b ≡ true → larger b a ≡ false
unfolding larger
larger-once a b p q h = smaller-once b a q p h

-- ---- the definition's own values
module _ (f : ℕ → ℕ) where
  stays-good : {before : ℕ → ℕ → Bool} {n b : ℕ} → Stays before f n b → ((i : ℕ) → i < n → Good (f i)) → Good b
  stays-good S fits = ap finite_bits S.stored ∙ fits S.entry S.within

  pub smallest-stays : (n : ℕ) → ((i : ℕ) → i < suc n → Good (f i)) → Stays smaller f (suc n) (smallest f n)
  unfolding smallest
  smallest-stays zero fits = alone smaller f Good smaller-through smaller-once (fits 0 (omega arith))
  smallest-stays (suc n) fits = go (smaller (f (suc n)) (smallest f n)) refl (smallest-stays n (λ i h. fits i (omega arith)))
    where
      go : (t : Bool) → smaller (f (suc n)) (smallest f n) ≡ t → Stays smaller f (suc n) (smallest f n) → Stays smaller f (suc (suc n)) (cond t (f (suc n)) (smallest f n))
      go true e S = takes smaller f Good smaller-through smaller-once (suc n) (smallest f n) S fits (stays-good S (λ i h. fits i (omega arith))) e
      go false e S = keeps smaller f Good smaller-through smaller-once (suc n) (smallest f n) S e

  pub largest-stays : (n : ℕ) → ((i : ℕ) → i < suc n → Good (f i)) → Stays larger f (suc n) (largest f n)
  unfolding largest larger
  largest-stays zero fits = alone larger f Good larger-through larger-once (fits 0 (omega arith))
  largest-stays (suc n) fits = go (smaller (largest f n) (f (suc n))) refl (largest-stays n (λ i h. fits i (omega arith)))
    where
      go : (t : Bool) → smaller (largest f n) (f (suc n)) ≡ t → Stays larger f (suc n) (largest f n) → Stays larger f (suc (suc n)) (cond t (f (suc n)) (largest f n))
      go true e S = takes larger f Good larger-through larger-once (suc n) (largest f n) S fits (stays-good S (λ i h. fits i (omega arith))) e
      go false e S = keeps larger f Good larger-through larger-once (suc n) (largest f n) S e

-- ---- there is one value that stays
pub stays-once : (before : ℕ → ℕ → Bool) (f : ℕ → ℕ) (n b c : ℕ) → Stays before f n b → Stays before f n c → b ≡ c
stays-once before f n b c S R =
    ⊎_elim (λ (h : S.entry ≤ R.entry). not_after h) (λ (h : R.entry < S.entry). absurd (clash c b R S h)) (le-or-lt S.entry R.entry)
  where
    clash : (b c : ℕ) (S : Stays before f n b) (R : Stays before f n c) → S.entry < R.entry → ⊥
    clash b c S R h =
        let x : before c b ≡ true = ap (before c) S.stored ∙ R.earliest S.entry h in
        let y : before c b ≡ false = ap (λ (k : ℕ). before k b) R.stored ∙ S.first R.entry R.within in
        never x y

    not_after : S.entry ≤ R.entry → b ≡ c
    not_after h =
        ⊎_elim (λ (k : R.entry ≤ S.entry). let e : S.entry ≡ R.entry = omega arith in S.stored ∙ ap f e ∙ sym R.stored) (λ (k : S.entry < R.entry). absurd (clash b c S R k)) (le-or-lt R.entry S.entry)

-- ---- in the words of the order: none lies outside, and an equal one stands no earlier
module _ (f : ℕ → ℕ) (n b : ℕ) (fits : (i : ℕ) → i < n → Good (f i)) where
  pub none_below : (S : Stays smaller f n b) → (i : ℕ) → i < n → le (value b) (value (f i)) ≡ true
  unfolding smaller
  none_below S i h = at_least (value (f i)) (value b) (is_finite (f i) (fits i h)) (is_finite b (stays-good f S fits)) (S.first i h)

  pub none_above : (S : Stays larger f n b) → (i : ℕ) → i < n → le (value (f i)) (value b) ≡ true
  unfolding larger smaller
  none_above S i h = at_least (value b) (value (f i)) (is_finite b (stays-good f S fits)) (is_finite (f i) (fits i h)) (S.first i h)

  pub earliest-smallest : (S : Stays smaller f n b) → (i : ℕ) → i < n → eq (value (f i)) (value b) ≡ true → S.entry ≤ i
  unfolding smaller
  earliest-smallest S i h e =
      ⊎_elim (λ (k : S.entry ≤ i). k) (λ (k : i < S.entry). absurd (never e (not_equal (value b) (value (f i)) (is_finite b (stays-good f S fits)) (is_finite (f i) (fits i h)) (S.earliest i k)))) (le-or-lt S.entry i)

  pub earliest-largest : (S : Stays larger f n b) → (i : ℕ) → i < n → eq (value b) (value (f i)) ≡ true → S.entry ≤ i
  unfolding larger smaller
  earliest-largest S i h e =
      ⊎_elim (λ (k : S.entry ≤ i). k) (λ (k : i < S.entry). absurd (never e (not_equal (value (f i)) (value b) (is_finite (f i) (fits i h)) (is_finite b (stays-good f S fits)) (S.earliest i k)))) (le-or-lt S.entry i)

-- ---- the frame of an input that is not refused
module _ (vertices list coordinates : List ℕ) (e : (frame_refusal vertices list coordinates).number ≡ 0) where
  abbrev n : ℕ
  n = length list / 8

  x-fine : (i : ℕ) → i < n → finite_bits (listed_x list coordinates i) ≡ true
  unfolding point_ok
  x-fine i h = (and_both (finite_bits (listed_x list coordinates i)) (finite_bits (listed_y list coordinates i)) (all_listed vertices list coordinates e i h).1).0

  y-fine : (i : ℕ) → i < n → finite_bits (listed_y list coordinates i) ≡ true
  unfolding point_ok
  y-fine i h = (and_both (finite_bits (listed_x list coordinates i)) (finite_bits (listed_y list coordinates i)) (all_listed vertices list coordinates e i h).1).1

  count : suc (n - 1) ≡ n
  count = omega (arith, some-entry vertices list coordinates e)

  move : {before : ℕ → ℕ → Bool} {f : ℕ → ℕ} {b : ℕ} → Stays before f (suc (n - 1)) b → Stays before f n b
  move {before} {f} {b} S = subst (λ (k : ℕ). Stays before f k b) count S

  -- Each of the four is what stays of the listed vertices' coordinates, in its order.
  pub frame_is :
      Stays smaller (listed_x list coordinates) n (frame_bounds vertices list coordinates).least_x
      × Stays larger (listed_x list coordinates) n (frame_bounds vertices list coordinates).greatest_x
      × Stays smaller (listed_y list coordinates) n (frame_bounds vertices list coordinates).least_y
      × Stays larger (listed_y list coordinates) n (frame_bounds vertices list coordinates).greatest_y
  unfolding bounds_to
  frame_is =
      rw (bounds-are vertices list coordinates e) (
        move (smallest-stays (listed_x list coordinates) (n - 1) (λ i h. x-fine i (omega (arith, count)))),
        move (largest-stays (listed_x list coordinates) (n - 1) (λ i h. x-fine i (omega (arith, count)))),
        move (smallest-stays (listed_y list coordinates) (n - 1) (λ i h. y-fine i (omega (arith, count)))),
        move (largest-stays (listed_y list coordinates) (n - 1) (λ i h. y-fine i (omega (arith, count)))),
      )

  -- No listed vertex lies outside the frame.
  pub none-outside : (i : ℕ) → i < n
      → (le (value (frame_bounds vertices list coordinates).least_x) (value (listed_x list coordinates i)) ≡ true)
      × (le (value (listed_x list coordinates i)) (value (frame_bounds vertices list coordinates).greatest_x) ≡ true)
      × (le (value (frame_bounds vertices list coordinates).least_y) (value (listed_y list coordinates i)) ≡ true)
      × (le (value (listed_y list coordinates i)) (value (frame_bounds vertices list coordinates).greatest_y) ≡ true)
  none-outside i h = (
    none_below (listed_x list coordinates) n (frame_bounds vertices list coordinates).least_x x-fine frame_is.0 i h,
    none_above (listed_x list coordinates) n (frame_bounds vertices list coordinates).greatest_x x-fine frame_is.1 i h,
    none_below (listed_y list coordinates) n (frame_bounds vertices list coordinates).least_y y-fine frame_is.2 i h,
    none_above (listed_y list coordinates) n (frame_bounds vertices list coordinates).greatest_y y-fine frame_is.3 i h,
  )
