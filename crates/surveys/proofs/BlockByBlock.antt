-- The blocks one after the other: what is touched so far, and where the entries grow the most. Assumes nothing.
use mathlib.Core.Path.{◌≡◌, refl, sym, ap, fun_ext, subst, ◌∙◌}
use mathlib.Core.Logic.{◌≢◌, ◌⊎◌, inl, inr, ⊎_elim}
use mathlib.Core.Bool.{Bool, true, false, cond}
use mathlib.Core.List.{List}
use Prim.Native.Nat.{ℕ, suc, ◌+◌, ◌-◌, ◌*◌, ◌/◌, ◌≤◌, ◌<◌, max}
use native.Mathlib.Decide.{ℕ_discrete}
use native.Mathlib.Omega.{arith}
use lib.Dec.{eqb, ltb}
use borrow.Author.Tests.{ne_eqb, lt-ltb, le-ltb, ltb-true, ltb-false}
use Rattle.journeys.proofs.Tests.{split, le-or-lt, same-or-below, cond-true, cond-false}
use Rattle.journeys.proofs.Counting.{none-count}
use Rattle.passing.specs.Row.{Row, passes}
use Rattle.directed.specs.Directed.{near_of, row_in}
use Rattle.directed.specs.declared.Directed.{Directed}
use Rattle.worktable.specs.Map.{Entry, absent, known, Map, one, size_to, size}
use Rattle.meeting.specs.Passing.{missing, goes, along, meets, passed, left, leaving, Enough, Few}
use Rattle.meeting.proofs.Along.{goes-along, along-none}
use Rattle.meeting.proofs.Sizes.{size-eq-below}
use Rattle.surveys.specs.Survey.{touches, touches_in, meets_in, touched_to, Gap}
use Rattle.surveys.proofs.TouchThenSweep.{touch-missing}
use Rattle.surveys.proofs.TallyIsGrowth.{touch-in, touch-out, meet-in, meet-out}
use Rattle.surveys.proofs.Mixed.{size-most, size-range, size-mixed}

pub same-one : (a b : Entry) → missing a ≡ missing b → one a ≡ one b
unfolding missing one
same-one absent absent h = refl
same-one absent (known d s r) h = absurd (let z : ◌≡◌ {A = ℕ} 0 1 = cc in omega arith)
same-one (known d s r) absent h = absurd (let z : ◌≡◌ {A = ℕ} 0 1 = cc in omega arith)
same-one (known d s r) (known x y z) h = refl

-- the vertices of a gap have no record in the row
pub gap-none : (v w h l : List ℕ) (a : Directed) (lo hi : ℕ) → Gap w h l a lo hi → (u : ℕ) → 2048 * lo ≤ u → u < 2048 * hi → leaving (row_in v w h l a) u (passes a.arriving) ≡ 0
gap-none v w h l a lo hi gap u p q =
    none-count (λ i. eqb (near_of w h l a i) u) (passes a.arriving) (λ j k. ne_eqb (near_of w h l a j) u (λ e. ⊎_elim (λ (z : near_of w h l a j / 2048 < lo). omega (arith, e)) (λ (z : hi ≤ near_of w h l a j / 2048). omega (arith, e)) (gap j k)))

module _ (R : Row) (n : ℕ) (m : Map) where
  -- ---- what is touched so far
  touched-below : (b u : ℕ) → u < 2048 * b → touched_to R n b m u ≡ along R.from (touches R) n u (m u)
  unfolding touched_to
  touched-below b u l = cond-true (along R.from (touches R) n u (m u)) (m u) (lt-ltb u (2048 * b) l)

  pub touched-above : (b u : ℕ) → 2048 * b ≤ u → touched_to R n b m u ≡ m u
  unfolding touched_to
  touched-above b u l = cond-false (along R.from (touches R) n u (m u)) (m u) (le-ltb u (2048 * b) l)

  pub touched_none : touched_to R n 0 m ≡ m
  touched_none = fun_ext (λ u. touched-above 0 u (omega arith))

  pub touched-one : (b u : ℕ) → one (touched_to R n b m u) ≡ one (m u)
  touched-one b u =
      ⊎_elim (λ (l : 2048 * b ≤ u). ap one (touched-above b u l))
      (λ (l : u < 2048 * b). ap one (touched-below b u l) ∙ same-one (along R.from (touches R) n u (m u)) (m u) (touch-missing R u 0 (m u) n))
      (le-or-lt (2048 * b) u)

  -- one block more
  pub touched-next : (b : ℕ) → goes R.from (touches_in R b) n (touched_to R n b m) ≡ touched_to R n (suc b) m
  touched-next b = fun_ext (λ u. goes-along R.from (touches_in R b) n (touched_to R n b m) u ∙ go u (ℕ_discrete (u / 2048) b))
    where
      go : (u : ℕ) → Dec (u / 2048 ≡ b) → along R.from (touches_in R b) n u (touched_to R n b m u) ≡ touched_to R n (suc b) m u
      go u (yes q) =
          touch-in R b u q n (touched_to R n b m u) ∙ ap (along R.from (touches R) n u) (touched-above b u (omega arith)) ∙ sym (touched-below (suc b) u (omega arith))
      go u (no q) =
          touch-out R b u q n (touched_to R n b m u)
          ∙ ⊎_elim (λ (l : 2048 * b ≤ u). touched-above b u l ∙ sym (touched-above (suc b) u (⊎_elim (λ (k : 2048 * suc b ≤ u). k) (λ (k : u < 2048 * suc b). absurd (q (omega arith))) (le-or-lt (2048 * suc b) u))))
          (λ (l : u < 2048 * b). touched-below b u l ∙ sym (touched-below (suc b) u (omega arith)))
          (le-or-lt (2048 * b) u)

  -- blocks without a record in the row
  pub touched-gap : (lo hi : ℕ) → lo ≤ hi → ((u : ℕ) → 2048 * lo ≤ u → u < 2048 * hi → leaving R u n ≡ 0) → touched_to R n lo m ≡ touched_to R n hi m
  touched-gap lo hi k none = fun_ext (λ u. go u (le-or-lt (2048 * lo) u) (le-or-lt (2048 * hi) u))
    where
      go : (u : ℕ) → (2048 * lo ≤ u) ⊎ (u < 2048 * lo) → (2048 * hi ≤ u) ⊎ (u < 2048 * hi) → touched_to R n lo m u ≡ touched_to R n hi m u
      go u (inl a) (inl b) = touched-above lo u a ∙ sym (touched-above hi u b)
      go u (inl a) (inr b) = touched-above lo u a ∙ sym (touched-below hi u b ∙ along-none R.from (touches R) u (m u) n (none u a b))
      go u (inr a) (inl b) = absurd (let z : ⊥ = omega arith in z)
      go u (inr a) (inr b) = touched-below lo u a ∙ sym (touched-below hi u b)

  pub touched-all : ((j : ℕ) → j < n → R.from j < 65536) → touched_to R n 32 m ≡ goes R.from (touches R) n m
  touched-all low = fun_ext (λ u. go u (le-or-lt 65536 u) ∙ sym (goes-along R.from (touches R) n m u))
    where
      go : (u : ℕ) → (65536 ≤ u) ⊎ (u < 65536) → touched_to R n 32 m u ≡ along R.from (touches R) n u (m u)
      go u (inl a) = touched-above 32 u (omega arith) ∙ sym (along-none R.from (touches R) u (m u) n (none-count (λ i. eqb (R.from i) u) n (λ i l. ne_eqb (R.from i) u (λ e. let z : ⊥ = omega (arith, low i l, e) in z))))
      go u (inr a) = touched-below 32 u (omega arith)

  -- ---- how the number of entries changes
  -- by one block
  pub block-grows : (b : ℕ) → b < 32 → size (goes R.from (meets_in R b) n (touched_to R n b m)) + size_to (2048 * suc b) m + size_to (2048 * b) (passed R n m)
      ≡ size m + size_to (2048 * suc b) (passed R n m) + size_to (2048 * b) m
  block-grows b l =
      size-mixed (2048 * b) (2048 * suc b) (goes R.from (meets_in R b) n (touched_to R n b m)) (passed R n m) m (omega arith) (omega arith)
      (λ u k. other-one u (λ q. let z : ⊥ = omega arith in z))
      (λ u p q. ap one (goes-along R.from (meets_in R b) n (touched_to R n b m) u ∙ meet-in R b u (omega arith) n (touched_to R n b m u) ∙ ap (along R.from (meets R) n u) (touched-above b u p) ∙ sym (goes-along R.from (meets R) n m u)))
      (λ u k q. other-one u (λ q. let z : ⊥ = omega arith in z))
    where
      other-one : (u : ℕ) → u / 2048 ≢ b → one (goes R.from (meets_in R b) n (touched_to R n b m) u) ≡ one (m u)
      other-one u q = ap one (goes-along R.from (meets_in R b) n (touched_to R n b m) u ∙ meet-out R b u q n (touched_to R n b m u)) ∙ touched-one b u

  -- over a gap
  pub gap-grows : (lo hi : ℕ) → lo ≤ hi → ((u : ℕ) → 2048 * lo ≤ u → u < 2048 * hi → leaving R u n ≡ 0)
      → size_to (2048 * hi) (passed R n m) + size_to (2048 * lo) m ≡ size_to (2048 * hi) m + size_to (2048 * lo) (passed R n m)
  gap-grows lo hi k none =
      size-range (2048 * lo) (2048 * hi) (passed R n m) m (omega arith)
      (λ u p q. ap one (goes-along R.from (meets R) n m u ∙ along-none R.from (meets R) u (m u) n (none u p q)))

  pub touched-size : (b : ℕ) → size (touched_to R n b m) ≡ size m
  unfolding size
  touched-size b = size-eq-below 65536 (touched_to R n b m) m (λ u l. touched-one b u)

  pub enough-in : Enough R n m → (b : ℕ) → (u : ℕ) → u / 2048 ≡ b → leaving R u n ≤ left (R.departing u) (touched_to R n b m u)
  enough-in enough b u q = subst (λ (e : Entry). leaving R u n ≤ left (R.departing u) e) (sym (touched-above b u (omega arith))) (enough u)

  pub few-in : Few R n m → (b : ℕ) → (u : ℕ) → u / 2048 ≡ b → touched_to R n b m u ≡ absent → leaving R u n ≤ 65535
  few-in few b u q z = few u (sym (touched-above b u (omega arith)) ∙ z)

  -- ---- where the survey stands: the blocks below b have been surveyed, and those below `start` grow the most together
  pub record Stands (b total best start : ℕ) : Type 0 where
    pub here : total + size_to (2048 * b) m ≡ 65536 + size_to (2048 * b) (passed R n m)
    pub there : best + size_to (2048 * start) m ≡ 65536 + size_to (2048 * start) (passed R n m)
    pub below : start ≤ b
    pub most : (i : ℕ) → i ≤ b → size_to (2048 * i) (passed R n m) + size_to (2048 * start) m ≤ size_to (2048 * start) (passed R n m) + size_to (2048 * i) m

  pub stands-first : Stands 0 65536 65536 0
  unfolding size_to
  stands-first = record { here = refl; there = refl; below = omega arith; most = λ i l. let q : i ≡ 0 = omega arith in rw q (omega arith) }

  pub stands-gap : (lo hi total best start : ℕ) → lo ≤ hi → ((u : ℕ) → 2048 * lo ≤ u → u < 2048 * hi → leaving R u n ≡ 0) → Stands lo total best start → Stands hi total best start
  stands-gap lo hi total best start k none s =
      record {
        here = omega (arith, s.here, gap-grows lo hi k none);
        there = s.there;
        below = omega (arith, s.below);
        most = λ i l.
            ⊎_elim (λ (q : i ≤ lo). s.most i q)
            (λ (q : lo < i). omega (arith, s.most lo (omega arith), gap-grows lo i (omega arith) (λ u a b. none u a (omega arith))))
            (le-or-lt i lo);
      }

  -- the tally of one block more
  pub stands-next : (b total best start tally : ℕ) → b < 32 → tally + size (touched_to R n b m) ≡ n + size (goes R.from (meets_in R b) n (touched_to R n b m)) → Stands b total best start
      → (n ≤ total + tally) × Stands (suc b) ((total + tally) - n) (max best ((total + tally) - n)) (cond (ltb best ((total + tally) - n)) (suc b) start)
  stands-next b total best start tally l t s = (large, go (ltb best ((total + tally) - n)) refl)
    where
      now : total + tally + size_to (2048 * suc b) m ≡ 65536 + n + size_to (2048 * suc b) (passed R n m)
      now = omega (arith, t, touched-size b, block-grows b l, s.here)

      large : n ≤ total + tally
      large = omega (arith, now, size-most (2048 * suc b) m)

      go : (k : Bool) → ltb best ((total + tally) - n) ≡ k → Stands (suc b) ((total + tally) - n) (max best ((total + tally) - n)) (cond k (suc b) start)
      go true q =
          let more : best < (total + tally) - n = ltb-true best ((total + tally) - n) q in
          let e : max best ((total + tally) - n) ≡ (total + tally) - n = omega arith in
          record {
            here = omega (arith, now, large);
            there = rw e (omega (arith, now, large));
            below = omega arith;
            most = λ i h.
                ⊎_elim (λ (p : i ≡ suc b). rw p (omega arith)) (λ (p : i < suc b). omega (arith, s.most i (omega arith), s.there, now, more, large)) (same-or-below h);
          }
      go false q =
          let less : (total + tally) - n ≤ best = ltb-false best ((total + tally) - n) q in
          let e : max best ((total + tally) - n) ≡ best = omega arith in
          record {
            here = omega (arith, now, large);
            there = rw e s.there;
            below = omega (arith, s.below);
            most = λ i h.
                ⊎_elim (λ (p : i ≡ suc b). rw p (omega (arith, s.there, now, less, large))) (λ (p : i < suc b). s.most i (omega arith)) (same-or-below h);
          }
