-- What is asked of stops that are read is what the definitions ask. Assumes nothing.
use mathlib.Core.Path.{◌≡◌, refl, sym, ap, ◌∙◌}
use mathlib.Core.Logic.{◌⊎◌, inl, inr}
use mathlib.Core.Bool.{Bool, true, false, not, ◌&&◌}
use mathlib.Core.List.{List}
use Prim.Native.Nat.{ℕ, ◌+◌, ◌≤◌, ◌<◌}
use native.Mathlib.Omega.{arith}
use native.Mathlib.Numerals.{add-one}
use lib.Dec.{eqb, ltb}
use lib.ListN.{length}
use borrow.Author.Tests.{ne_eqb, lt-ltb, le-ltb}
use Rattle.journeys.specs.Refusals.{Refusal, fine, unless}
use Rattle.journeys.proofs.Tests.{last-or-below}
use Rattle.journeys.proofs.Refusals.{unless-good, unless-bad, from-none, from_first}
use Rattle.feed.specs.Lines.{place}
use Rattle.feed.specs.Stops.{Stop}
use Rattle.feed.specs.Trips.{stop, some, earlier, between, next, repeats, once, too_soon, in_time, first_bad_stop}
use Rattle.succession.proofs.SomeLaws.{some_at}
use Rattle.pairwise.specs.Asked.{sooner, good_by}

-- ---- a search that found nothing so far
pub some-start : (f : ℕ → Bool) → some f 0 ≡ false
unfolding some
some-start f = refl

pub some_more : (f : ℕ → Bool) (k : ℕ) → some f k ≡ false → f k ≡ false → some f (k + 1) ≡ false
unfolding some
some_more f k e q = rw (add-one k) (rw (e, q) refl)

pub some-found : (f : ℕ → Bool) (n k : ℕ) → k < n → f k ≡ true → true ≡ some f n
some-found f n k h e = sym (some_at f n k h e)

module _ (S : List Stop) where
  -- p and i are read as a and b
  module _ (p i : ℕ) {a b : Stop} (s : a ≡ stop S p) (t : b ≡ stop S i) where
    pub next-told : {n : ℕ} {r : Bool} → n ≡ length S → (a.timed && b.timed && sooner a b) ≡ true → r ≡ some (λ k. (stop S k).timed && sooner a (stop S k) && sooner (stop S k) b) n → not r ≡ next S p i
    unfolding next between earlier sooner
    next-told {n} {r} l e h =
        let f : ((stop S p).timed && (stop S i).timed && (eqb (stop S p).trip (stop S i).trip && ltb (stop S p).sequence (stop S i).sequence)) ≡ true = rw (← s, ← t) e in
        let g : some (λ k. (stop S k).timed && sooner a (stop S k) && sooner (stop S k) b) n ≡ some (between S p i) (length S) = rw (l, s, t) refl in
        rw f (ap not (h ∙ g))

    pub next-none : (a.timed && b.timed && sooner a b) ≡ false → false ≡ next S p i
    unfolding next earlier sooner
    next-none e =
        let f : ((stop S p).timed && (stop S i).timed && (eqb (stop S p).trip (stop S i).trip && ltb (stop S p).sequence (stop S i).sequence)) ≡ false = rw (← s, ← t) e in
        rw f refl

    pub late-told : b.arrival < a.departure → {r : Bool} → r ≡ next S p i → r ≡ too_soon S i p
    unfolding too_soon
    late-told e {r} h =
        let f : ltb (stop S i).arrival (stop S p).departure ≡ true = rw (← s, ← t) (lt-ltb b.arrival a.departure e) in
        h ∙ rw f (sym (and-whole (next S p i)))
      where
        and-whole : (x : Bool) → x && true ≡ x
        and-whole true = refl
        and-whole false = refl

    pub late-none : a.departure ≤ b.arrival → false ≡ too_soon S i p
    unfolding too_soon
    late-none e =
        let f : ltb (stop S i).arrival (stop S p).departure ≡ false = rw (← s, ← t) (le-ltb b.arrival a.departure e) in
        rw f (sym (and_none (next S p i)))
      where
        and_none : (x : Bool) → x && false ≡ false
        and_none true = refl
        and_none false = refl

  module _ (i : ℕ) {h : Stop} (s : h ≡ stop S i) where
    pub once-told : {r : Bool} → r ≡ some (λ k. eqb (stop S k).trip h.trip && eqb (stop S k).sequence h.sequence) i → not r ≡ once S i
    unfolding once repeats
    once-told e = let g : some (λ k. eqb (stop S k).trip h.trip && eqb (stop S k).sequence h.sequence) i ≡ some (repeats S i) i = rw s refl in ap not (e ∙ g)

    timed-is : {b : Bool} → h.timed ≡ b → (stop S i).timed ≡ b
    timed-is t = ap (λ (x : Stop). x.timed) (sym s) ∙ t

    order_is : {b : Bool} → ltb h.departure h.arrival ≡ b → ltb (stop S i).departure (stop S i).arrival ≡ b
    order_is t = ap (λ (x : Stop). ltb x.departure x.arrival) (sym s) ∙ t

    pub time-early : h.timed ≡ true → h.departure < h.arrival → false ≡ in_time S i
    unfolding in_time
    time-early t e = rw (timed-is t, order_is (lt-ltb h.departure h.arrival e)) refl

    module _ {n : ℕ} (l : n ≡ length S) where
      pub time-told : h.timed ≡ true → h.arrival ≤ h.departure → {r : Bool} → r ≡ some (too_soon S i) n → not r ≡ in_time S i
      unfolding in_time
      time-told t e q = let g : some (too_soon S i) n ≡ some (too_soon S i) (length S) = ap (some (too_soon S i)) l in rw (timed-is t, order_is (le-ltb h.departure h.arrival e)) (ap not (q ∙ g))

      before-is : some (λ k. sooner (stop S k) h) n ≡ some (λ p. earlier S p i) (length S)
      unfolding sooner earlier
      before-is = rw (l, s) refl

      behind-is : some (λ k. sooner h (stop S k)) n ≡ some (earlier S i) (length S)
      unfolding sooner earlier
      behind-is = rw (l, s) refl

      pub untimed-told : h.timed ≡ false → {x r : Bool} → x ≡ some (λ k. sooner (stop S k) h) n → x ≡ true → r ≡ some (λ k. sooner h (stop S k)) n → r ≡ in_time S i
      unfolding in_time
      untimed-told t p q e = rw (timed-is t, sym before-is ∙ sym p ∙ q) (e ∙ behind-is)

      pub untimed-none : h.timed ≡ false → {x : Bool} → x ≡ some (λ k. sooner (stop S k) h) n → x ≡ false → false ≡ in_time S i
      unfolding in_time
      untimed-none t p q = rw (timed-is t, sym before-is ∙ sym p ∙ q) refl

  pub good-once : (q i : ℕ) → q ≡ 15 → {r : Bool} → r ≡ once S i → r ≡ good_by q S i
  unfolding good_by
  good-once q i e h = rw e h

  pub good-time : (q i : ℕ) → (q ≡ 15 → ⊥) → {r : Bool} → r ≡ in_time S i → r ≡ good_by q S i
  unfolding good_by
  good-time q i e h = rw (ne_eqb q 15 e) h

  -- ---- the first that is not good
  module _ (q : ℕ) (good : ℕ → Bool) where
    pub good_more : (i : ℕ) → ((j : ℕ) → j < i → good j ≡ true) → good i ≡ true → (j : ℕ) → j < i + 1 → good j ≡ true
    good_more i f e j h = go (last-or-below (rw (← add-one i) h))
      where
        go : (j ≡ i) ⊎ (j < i) → good j ≡ true
        go (inl z) = ap good z ∙ e
        go (inr l) = f j l

    pub bad-here : (i : ℕ) → 0 < q → i < length S → ((j : ℕ) → j < i → good j ≡ true) → good i ≡ false → record { number = q; place = place (stop S i).line } ≡ first_bad_stop S q good
    unfolding first_bad_stop
    bad-here i z h f e =
        let bad = unless-bad (good i) q (place (stop S i).line) e in
        sym (from_first (λ i. unless (good i) q (place (stop S i).line)) (length S) 0 i (omega arith) (omega arith) (λ y. absurd (omega (arith, ap (λ (r : Refusal). r.number) bad, y))) (λ j a l. ap (λ (r : Refusal). r.number) (unless-good (good j) q (place (stop S j).line) (f j l))) ∙ bad)

    pub bad-nowhere : ((j : ℕ) → j < length S → good j ≡ true) → fine ≡ first_bad_stop S q good
    unfolding first_bad_stop
    bad-nowhere f = sym (from-none (λ i. unless (good i) q (place (stop S i).line)) (length S) 0 (λ k a l. ap (λ (r : Refusal). r.number) (unless-good (good k) q (place (stop S k).line) (f k (omega (arith, l))))))

  -- 0 is the number of no refusal
  pub no-number : (good : ℕ → Bool) → fine ≡ first_bad_stop S 0 good
  unfolding first_bad_stop unless
  no-number good = sym (from-none (λ i. unless (good i) 0 (place (stop S i).line)) (length S) 0 (λ k a l. none (good k) (place (stop S k).line)))
    where
      none : (b : Bool) (p : ℕ) → (unless b 0 p).number ≡ 0
      none true p = refl
      none false p = refl
