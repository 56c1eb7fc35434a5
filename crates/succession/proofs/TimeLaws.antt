-- The last timed stop before a stop is the one that its arrival is held against.
use mathlib.Core.Path.{◌≡◌, refl, sym, ap, subst, ◌∙◌}
use mathlib.Core.Logic.{◌⊎◌, inl, inr, ⊎_elim}
use mathlib.Core.Bool.{Bool, true, false, not, cond, ◌&&◌, ◌||◌}
use mathlib.Core.List.{List}
use Prim.Native.Nat.{ℕ, zero, suc, ◌+◌, ◌-◌, ◌<◌, ◌≤◌}
use native.Mathlib.Omega.{arith}
use native.Mathlib.Decide.{dec_lt, ℕ_discrete}
use lib.Dec.{eqb, ltb}
use lib.ListN.{length}
use borrow.Author.Tests.{eq-eqb, ne_eqb, eqb-true, eqb-false, ltb-true, lt-ltb, le-ltb}
use Rattle.journeys.proofs.Tests.{never, and_both, and-true, and_left, same_test, last-or-below, split, cond-true, cond-false}
use Rattle.feed.specs.Stops.{Stop}
use Rattle.feed.specs.Trips.{stop, some, earlier, between, next, too_soon, in_time}
use Rattle.succession.specs.Entries.{AllOnce, last_from, last_timed, falls_back}
use Rattle.succession.proofs.SomeLaws.{some_at, some_is, some-none, not-not}
use Rattle.succession.proofs.OrderLaws.{Ordered, earlier-below, earlier-above}

-- from one stop to the next
module _ (S : List Stop) where
  module _ (i m : ℕ) where
    pub from_first : i ≡ 0 → last_from S i m ≡ 0
    from_first e = cond-true _ _ (eq-eqb i 0 e)

    module _ (h : 0 < i) where
      later : eqb i 0 ≡ false
      later = ne_eqb i 0 (λ e. absurd (omega arith))

      pub from-new : ((stop S (i - 1)).trip ≡ (stop S i).trip → ⊥) → last_from S i m ≡ 0
      from-new f = cond-false _ _ later ∙ cond-false _ _ (ne_eqb _ _ f)

      pub from-timed : (stop S (i - 1)).trip ≡ (stop S i).trip → (stop S (i - 1)).timed ≡ true → last_from S i m ≡ i
      from-timed t q = cond-false _ _ later ∙ cond-true _ _ (eq-eqb _ _ t) ∙ cond-true _ _ q

      pub from-same : (stop S (i - 1)).trip ≡ (stop S i).trip → (stop S (i - 1)).timed ≡ false → last_from S i m ≡ m
      from-same t q = cond-false _ _ later ∙ cond-true _ _ (eq-eqb _ _ t) ∙ cond-false _ _ q

      pub from-cases : (last_from S i m ≡ 0) ⊎ ((last_from S i m ≡ i) ⊎ ((last_from S i m ≡ m) × ((stop S (i - 1)).timed ≡ false)))
      from-cases = ⊎_elim
          (λ (t : eqb (stop S (i - 1)).trip (stop S i).trip ≡ true).
          ⊎_elim (λ (q : (stop S (i - 1)).timed ≡ true). inr (inl (from-timed (eqb-true _ _ t) q)))
          (λ (q : (stop S (i - 1)).timed ≡ false). inr (inr (from-same (eqb-true _ _ t) q, q)))
          (split (stop S (i - 1)).timed))
          (λ (t : eqb (stop S (i - 1)).trip (stop S i).trip ≡ false). inl (from-new (eqb-false _ _ t)))
          (split (eqb (stop S (i - 1)).trip (stop S i).trip))

  pub last-first : last_timed S 0 ≡ 0
  unfolding last_timed
  last-first = refl

  pub last_step : (i : ℕ) → last_from S i (last_timed S (i - 1)) ≡ last_timed S i
  unfolding last_timed
  last_step zero = from_first 0 (last_timed S (0 - 1)) refl
  last_step (suc i) = let e : suc i - 1 ≡ i = omega arith in ap (λ (m : ℕ). last_from S (suc i) (last_timed S m)) e

  pub last-next : (i : ℕ) {m r : ℕ} → r ≡ last_from S i m → m ≡ last_timed S (i - 1) → r ≡ last_timed S i
  last-next i e f = e ∙ ap (last_from S i) f ∙ last_step i

  -- it stands before i
  pub last-below : (i : ℕ) → last_timed S i ≤ i
  unfolding last_timed
  last-below zero = omega arith
  last-below (suc i) = go (last-below i) (from-cases (suc i) (last_timed S i) (omega arith))
    where
      go : {x m : ℕ} → m ≤ i → (x ≡ 0) ⊎ ((x ≡ suc i) ⊎ ((x ≡ m) × ((stop S (suc i - 1)).timed ≡ false))) → x ≤ suc i
      go h (inl e) = omega arith
      go h (inr (inl e)) = omega arith
      go h (inr (inr e)) = omega (arith, e.0)

-- d is the last timed stop before i in its trip, counted from 1, or 0
pub data Latest (S : List Stop) (i : ℕ) : ℕ → Type 0 where
  nothing : ((p : ℕ) → p < i → (stop S p).trip ≡ (stop S i).trip → (stop S p).timed ≡ false) → Latest S i 0
  left : (p : ℕ) → p < i → (stop S p).trip ≡ (stop S i).trip → (stop S p).timed ≡ true → ((k : ℕ) → p < k → k < i → (stop S k).timed ≡ false) → Latest S i (suc p)

module _ {S : List Stop} (o : Ordered S) where
  one_trip : (p k i : ℕ) → p ≤ k → k < i → i < length S → (stop S p).trip ≡ (stop S i).trip → (stop S k).trip ≡ (stop S i).trip
  one_trip p k i a b h e = go (ℕ_discrete p k)
    where
      go : Dec (p ≡ k) → (stop S k).trip ≡ (stop S i).trip
      go (yes q) = rw (← q) e
      go (no q) = omega (arith, e, o.trips p k (omega arith) (omega arith), o.trips k i b h)

  pub latest : (i : ℕ) → i < length S → Latest S i (last_timed S i)
  unfolding last_timed
  latest zero h = nothing (λ p l e. absurd (omega arith))
  latest (suc i) h =
      let z : suc i - 1 ≡ i = omega arith in
      let m = last_timed S i in
      ⊎_elim
      (λ (t : eqb (stop S i).trip (stop S (suc i)).trip ≡ true).
      let e = eqb-true _ _ t in
      let e' : (stop S (suc i - 1)).trip ≡ (stop S (suc i)).trip = rw z e in
      ⊎_elim
      (λ (q : (stop S i).timed ≡ true). subst (λ (d : ℕ). Latest S (suc i) d) (sym (from-timed S (suc i) m (omega arith) e' (rw z q))) (left i (omega arith) e q (λ k a b. absurd (omega arith))))
      (λ (q : (stop S i).timed ≡ false). subst (λ (d : ℕ). Latest S (suc i) d) (sym (from-same S (suc i) m (omega arith) e' (rw z q))) (on e q (latest i (omega arith))))
      (split (stop S i).timed))
      (λ (t : eqb (stop S i).trip (stop S (suc i)).trip ≡ false).
      let f : (stop S i).trip ≡ (stop S (suc i)).trip → ⊥ = eqb-false _ _ t in
      subst (λ (d : ℕ). Latest S (suc i) d) (sym (from-new S (suc i) m (omega arith) (rw z f))) (nothing (λ p l e. absurd (f (one_trip p i (suc i) (omega arith) (omega arith) h e)))))
      (split (eqb (stop S i).trip (stop S (suc i)).trip))
    where
      on : {d : ℕ} → (stop S i).trip ≡ (stop S (suc i)).trip → (stop S i).timed ≡ false → Latest S i d → Latest S (suc i) d
      on e q (nothing f) = nothing (λ p l t. ⊎_elim (λ (z : p ≡ i). rw z q) (λ (z : p < i). f p z (t ∙ sym e)) (last-or-below l))
      on e q (left p l t u f) = left p (omega arith) (t ∙ e) u (λ k a b. ⊎_elim (λ (z : k ≡ i). rw z q) (λ (z : k < i). f k a z) (last-or-below b))

  module _ (u : AllOnce S) where
    pub next-is : (p i : ℕ) → p < i → i < length S → (stop S p).trip ≡ (stop S i).trip → (stop S p).timed ≡ true → (stop S i).timed ≡ true
        → ((k : ℕ) → p < k → k < i → (stop S k).timed ≡ false) → next S p i ≡ true
    unfolding next between
    next-is p i a b t q r f =
        and-true (and-true (and-true q r) (earlier-above o u p i a b t))
        (ap not (some-none (between S p i) (length S) (λ k l e.
        let one = and_both _ _ e in
        let two = and_both _ _ one.0 in
        never two.0 (f k (earlier-below o u p k (omega arith) two.1).0 (earlier-below o u k i l one.1).0))))

    pub next_known : (p i : ℕ) → p < length S → next S p i ≡ true
        → (p < i) × ((stop S p).trip ≡ (stop S i).trip) × ((stop S p).timed ≡ true) × (some (between S p i) (length S) ≡ false)
    unfolding next
    next_known p i h e =
        let one = and_both _ _ e in
        let two = and_both _ _ one.0 in
        let three = and_both _ _ two.0 in
        let q = earlier-below o u p i h two.1 in
        (q.0, q.1, three.0, sym (not-not _) ∙ ap not one.1)

    pub next-arrives : (p i : ℕ) → next S p i ≡ true → (stop S i).timed ≡ true
    unfolding next
    next-arrives p i e =
        let one = and_both ((stop S p).timed && (stop S i).timed && earlier S p i) (not (some (between S p i) (length S))) e in
        let two = and_both ((stop S p).timed && (stop S i).timed) (earlier S p i) one.0 in
        (and_both (stop S p).timed (stop S i).timed two.0).1

    pub among : (p k i : ℕ) → p < k → k < i → i < length S → (stop S p).trip ≡ (stop S i).trip → (stop S k).timed ≡ true → between S p i k ≡ true
    unfolding between
    among p k i a b h e q =
        let t = one_trip p k i (omega arith) b h e in
        and-true (and-true q (earlier-above o u p k a (omega arith) (e ∙ sym t))) (earlier-above o u k i b h t)

    soon : (i d : ℕ) → i < length S → (stop S i).timed ≡ true → Latest S i d → some (too_soon S i) (length S) ≡ falls_back S d i
    unfolding too_soon falls_back
    soon i d h q (nothing f) = same_test _ _
        (λ e.
        let r = some_is (too_soon S i) (length S) e in
        let k = next_known r.0 i r.1 (and_both _ _ r.2).0 in
        never k.2 (f r.0 k.0 k.1))
        (λ e. never e refl)
    soon i d h q (left p a t w f) = same_test _ _
        (λ e.
        let r = some_is (too_soon S i) (length S) e in
        let both = and_both _ _ r.2 in
        let k = next_known r.0 i r.1 both.0 in
        and-true (lt-ltb 0 (suc p) (omega arith)) (rw z (same r.0 k both.1 (ℕ_discrete r.0 p) (dec_lt r.0 p))))
        (λ e.
        let y : ltb (stop S i).arrival (stop S (suc p - 1)).departure ≡ true = (and_both (ltb 0 (suc p)) (ltb (stop S i).arrival (stop S (suc p - 1)).departure) e).1 in
        some_at (too_soon S i) (length S) p (omega arith) (and-true (next-is p i a h t w q f) (rw z at y)))
      where
        z : suc p - 1 ≡ p
        z = omega arith

        same : (x : ℕ) → (x < i) × ((stop S x).trip ≡ (stop S i).trip) × ((stop S x).timed ≡ true) × (some (between S x i) (length S) ≡ false)
            → ltb (stop S i).arrival (stop S x).departure ≡ true → Dec (x ≡ p) → Dec (x < p) → ltb (stop S i).arrival (stop S p).departure ≡ true
        same x k e (yes z) c = rw (← z) e
        same x k e (no z) (yes c) = never (some_at (between S x i) (length S) p (omega arith) (among x p i c a h k.1 w)) k.3
        same x k e (no z) (no c) = never k.2 (f x (omega arith) k.0)

    -- the two tests of a stop
    pub timed-test : (i : ℕ) → i < length S → (stop S i).timed ≡ true
        → not (in_time S i) ≡ ltb (stop S i).departure (stop S i).arrival || falls_back S (last_timed S i) i
    unfolding in_time
    timed-test i h q = rw (q, soon i (last_timed S i) h q (latest i h)) (either (ltb (stop S i).departure (stop S i).arrival) (falls_back S (last_timed S i) i))
      where
        either : (a b : Bool) → not (not a && not b) ≡ a || b
        either true b = refl
        either false b = not-not b

    pub untimed-test : (i : ℕ) → (stop S i).timed ≡ false
        → not (in_time S i) ≡ not (some (λ p. earlier S p i) (length S)) || not (some (earlier S i) (length S))
    unfolding in_time
    untimed-test i q = rw q (either (some (λ p. earlier S p i) (length S)) (some (earlier S i) (length S)))
      where
        either : (a b : Bool) → not (a && b) ≡ not a || not b
        either true b = refl
        either false b = refl

-- which times fall back
module _ (S : List Stop) (last i : ℕ) where
  pub back_none : last ≡ 0 → falls_back S last i ≡ false
  unfolding falls_back
  back_none e = and_left _ (le-ltb 0 last (omega arith))

  pub back_some : 0 < last → falls_back S last i ≡ ltb (stop S i).arrival (stop S (last - 1)).departure
  unfolding falls_back
  back_some h = rw (lt-ltb 0 last h)
