-- The step block by block ends as passing all records does, and it has room on the way exactly if that has. Assumes nothing.
use mathlib.Core.Path.{◌≡◌, refl, sym, ap, fun_ext, ◌∙◌, subst}
use mathlib.Core.Logic.{◌⊎◌, inl, inr, ⊎_elim}
use mathlib.Core.Bool.{cond}
use mathlib.Core.List.{List}
use Prim.Native.Nat.{ℕ, suc, ◌+◌, ◌*◌, ◌/◌, ◌≤◌, ◌<◌}
use native.Mathlib.Decide.{ℕ_discrete}
use native.Mathlib.Omega.{arith}
use lib.Dec.{eqb, leb, ltb}
use borrow.Author.Tests.{eq-eqb, ne_eqb, lt-ltb, le-ltb, le-leb, lt-leb}
use Rattle.journeys.proofs.Tests.{le-or-lt, and-true, and_left, and_right, cond-true, cond-false}
use Rattle.journeys.proofs.Counting.{none-count}
use Rattle.passing.specs.Row.{Row}
use Rattle.worktable.specs.Map.{Entry, absent, known, Map, swept, touched, one, size_to, size}
use Rattle.worktable.specs.declared.Table.{Table}
use Rattle.meeting.specs.Passing.{missing, goes, along, meets, passed, left, leaving, Enough, Few}
use Rattle.meeting.specs.Answer.{Leads, ArrivedIs}
use Rattle.std.specs.Prelude.{Option, Some, None}
use Rattle.meeting.proofs.Entries.{missing-absent, absent-missing, left-absent}
use Rattle.meeting.proofs.Along.{goes-along, along-id, along-none}
use Rattle.meeting.proofs.Leading.{leads-room}
use Rattle.meeting.proofs.Sizes.{size-eq-below}
use Rattle.blocks.specs.Block.{in_block, ended, over}
use Rattle.blocks.proofs.BlockOfStep.{ended_held}
use Rattle.surveys.specs.Survey.{touches}
use Rattle.surveys.proofs.TouchThenSweep.{touch-missing, touch-sweep}
use Rattle.surveys.proofs.BlockByBlock.{same-one}
use Rattle.surveys.proofs.Mixed.{size-mixed}
use Rattle.arrivals.specs.Range.{over_to, RangeIs}

-- ---- one vertex
module _ (R : Row) (n : ℕ) where
  still-absent : (u : ℕ) → along R.from (touches R) n u absent ≡ absent
  unfolding touched
  still-absent u = along-id R.from (touches R) u absent (λ j q. refl) n

  -- When all are touched, the end of the step is that of the records passed.
  ended-touched : (u : ℕ) (e : Entry) → leaving R u n ≤ left (R.departing u) e → ended R n u (along R.from (touches R) n u e) ≡ along R.from (meets R) n u e
  unfolding ended missing
  ended-touched u absent h = ap (ended R n u) (still-absent u)
  ended-touched u (known x s r) h =
      ended_held R n u (along R.from (touches R) n u (known x s r)) (touch-missing R u (R.departing u) (known x s r) n)
      ∙ touch-sweep R u (R.departing u) (known x s r) refl n h

  -- a vertex without a record in the row
  ended-none : (u : ℕ) (e : Entry) → leaving R u n ≡ 0 → ended R n u e ≡ e
  unfolding ended
  ended-none u absent z = along-none R.from (meets R) u absent n z
  ended-none u (known x s r) z = along-none R.from (λ j. swept R.allowed) u (known x s r) n z

  -- ---- ranges of blocks
  module _ (m : Map) where
    pub inside : (lo hi u : ℕ) → 2048 * lo ≤ u → u < 2048 * hi → over_to R n lo hi m u ≡ ended R n u (m u)
    unfolding over_to
    inside lo hi u a b = cond-true (ended R n u (m u)) (m u) (and-true (le-leb (2048 * lo) u a) (lt-ltb u (2048 * hi) b))

    pub below : (lo hi u : ℕ) → u < 2048 * lo → over_to R n lo hi m u ≡ m u
    unfolding over_to
    below lo hi u a = cond-false (ended R n u (m u)) (m u) (and_left (ltb u (2048 * hi)) (lt-leb (2048 * lo) u a))

    pub above : (lo hi u : ℕ) → 2048 * hi ≤ u → over_to R n lo hi m u ≡ m u
    unfolding over_to
    above lo hi u a = cond-false (ended R n u (m u)) (m u) (and_right (leb (2048 * lo) u) (le-ltb u (2048 * hi) a))

    pub range_none : (lo : ℕ) → over_to R n lo lo m ≡ m
    range_none lo = fun_ext (λ u. ⊎_elim (λ (a : 2048 * lo ≤ u). above lo lo u a) (λ (a : u < 2048 * lo). below lo lo u a) (le-or-lt (2048 * lo) u))

    -- one block more
    pub range-next : (lo b : ℕ) → lo ≤ b → over R n b (over_to R n lo b m) ≡ over_to R n lo (suc b) m
    unfolding over
    range-next lo b l = fun_ext (λ u. go u (ℕ_discrete (u / 2048) b))
      where
        go : (u : ℕ) → Dec (u / 2048 ≡ b) → cond (in_block b u) (ended R n u (over_to R n lo b m u)) (over_to R n lo b m u) ≡ over_to R n lo (suc b) m u
        go u (yes q) =
            cond-true (ended R n u (over_to R n lo b m u)) (over_to R n lo b m u) (eq-eqb (u / 2048) b q)
            ∙ ap (ended R n u) (above lo b u (omega arith)) ∙ sym (inside lo (suc b) u (omega arith) (omega arith))
        go u (no q) =
            cond-false (ended R n u (over_to R n lo b m u)) (over_to R n lo b m u) (ne_eqb (u / 2048) b q)
            ∙ rest (le-or-lt (2048 * lo) u) (le-or-lt (2048 * b) u)
          where
            rest : (2048 * lo ≤ u) ⊎ (u < 2048 * lo) → (2048 * b ≤ u) ⊎ (u < 2048 * b) → over_to R n lo b m u ≡ over_to R n lo (suc b) m u
            rest (inr x) y = below lo b u x ∙ sym (below lo (suc b) u x)
            rest (inl x) (inr y) = inside lo b u x y ∙ sym (inside lo (suc b) u x (omega arith))
            rest (inl x) (inl y) = above lo b u y ∙ sym (above lo (suc b) u (⊎_elim (λ (k : 2048 * suc b ≤ u). k) (λ (k : u < 2048 * suc b). absurd (q (omega arith))) (le-or-lt (2048 * suc b) u)))

    -- blocks without a record in the row
    pub range-gap : (lo b hi : ℕ) → b ≤ hi → ((u : ℕ) → 2048 * b ≤ u → u < 2048 * hi → leaving R u n ≡ 0) → over_to R n lo b m ≡ over_to R n lo hi m
    range-gap lo b hi l none = fun_ext (λ u. go u (le-or-lt (2048 * lo) u) (le-or-lt (2048 * b) u) (le-or-lt (2048 * hi) u))
      where
        go : (u : ℕ) → (2048 * lo ≤ u) ⊎ (u < 2048 * lo) → (2048 * b ≤ u) ⊎ (u < 2048 * b) → (2048 * hi ≤ u) ⊎ (u < 2048 * hi) → over_to R n lo b m u ≡ over_to R n lo hi m u
        go u (inr x) y z = below lo b u x ∙ sym (below lo hi u x)
        go u (inl x) (inr y) (inr z) = inside lo b u x y ∙ sym (inside lo hi u x z)
        go u (inl x) (inr y) (inl z) = absurd (let k : ⊥ = omega arith in k)
        go u (inl x) (inl y) (inr z) = above lo b u y ∙ sym (inside lo hi u x z ∙ ended-none u (m u) (none u y z))
        go u (inl x) (inl y) (inl z) = above lo b u y ∙ sym (above lo hi u z)

-- ---- all blocks
module _ (R : Row) (n : ℕ) (m : Map) (enough : Enough R n m) (low : (j : ℕ) → j < n → R.from j < 65536) (s : ℕ) (small : s ≤ 32)
    (best : (i : ℕ) → i ≤ 32 → size_to (2048 * i) (passed R n m) + size_to (2048 * s) m ≤ size_to (2048 * s) (passed R n m) + size_to (2048 * i) m) where
  abbrev T : Map
  T = goes R.from (touches R) n m

  T-one : (u : ℕ) → one (goes R.from (touches R) n m u) ≡ one (m u)
  T-one u = ap one (goes-along R.from (touches R) n m u) ∙ same-one (along R.from (touches R) n u (m u)) (m u) (touch-missing R u 0 (m u) n)

  done : (u : ℕ) → ended R n u (goes R.from (touches R) n m u) ≡ passed R n m u
  done u = ap (ended R n u) (goes-along R.from (touches R) n m u) ∙ ended-touched R n u (m u) (enough u) ∙ sym (goes-along R.from (meets R) n m u)

  T-size : (k : ℕ) → size_to k (goes R.from (touches R) n m) ≡ size_to k m
  T-size k = size-eq-below k (goes R.from (touches R) n m) m (λ u l. T-one u)

  -- From the start on: never more than before the step.
  pub first-room : (i : ℕ) → s ≤ i → i ≤ 32 → size (over_to R n s i T) ≤ size m
  unfolding size
  first-room i a b =
      let q =
      size-mixed (2048 * s) (2048 * i) (over_to R n s i T) (passed R n m) m (omega arith) (omega arith)
      (λ u l. ap one (below R n T s i u l) ∙ T-one u)
      (λ u l h. ap one (inside R n T s i u l h ∙ done u))
      (λ u l h. ap one (above R n T s i u l) ∙ T-one u) in
      omega (arith, q, best i b)

  abbrev U : Map
  U = over_to R n s 32 (goes R.from (touches R) n m)

  upper : (u : ℕ) → 2048 * s ≤ u → u < 65536 → over_to R n s 32 (goes R.from (touches R) n m) u ≡ passed R n m u
  upper u a b = inside R n T s 32 u a (omega arith) ∙ done u

  lower : (u : ℕ) → u < 2048 * s → over_to R n s 32 (goes R.from (touches R) n m) u ≡ goes R.from (touches R) n m u
  lower u a = below R n T s 32 u a

  -- From the lowest up to the start: never more than after the step.
  pub second-room : (i : ℕ) → i ≤ s → size (over_to R n 0 i U) ≤ size (passed R n m)
  unfolding size
  second-room i a =
      let q =
      size-mixed (2048 * i) (2048 * s) (over_to R n 0 i U) m (passed R n m) (omega arith) (omega arith)
      (λ u l. ap one (inside R n U 0 i u (omega arith) l ∙ ap (ended R n u) (lower u (omega arith)) ∙ done u))
      (λ u l h. ap one (above R n U 0 i u l ∙ lower u h) ∙ T-one u)
      (λ u l h. ap one (above R n U 0 i u (omega arith) ∙ upper u l h)) in
      omega (arith, q, best i (omega arith))

  -- And all records are passed.
  pub all-over : over_to R n 0 s U ≡ passed R n m
  all-over = fun_ext (λ u. go u (le-or-lt (2048 * s) u) (le-or-lt 65536 u))
    where
      go : (u : ℕ) → (2048 * s ≤ u) ⊎ (u < 2048 * s) → (65536 ≤ u) ⊎ (u < 65536) → over_to R n 0 s (over_to R n s 32 (goes R.from (touches R) n m)) u ≡ passed R n m u
      go u (inr a) b = inside R n U 0 s u (omega arith) a ∙ ap (ended R n u) (lower u a) ∙ done u
      go u (inl a) (inr b) = above R n U 0 s u a ∙ upper u a b
      go u (inl a) (inl b) =
          let z : leaving R u n ≡ 0 = none-count (λ i. eqb (R.from i) u) n (λ i l. ne_eqb (R.from i) u (λ q. let k : ⊥ = omega (arith, low i l, q) in k)) in
          above R n U 0 s u a ∙ above R n T s 32 u (omega arith)
          ∙ goes-along R.from (touches R) n m u ∙ along-none R.from (touches R) u (m u) n z
          ∙ sym (goes-along R.from (meets R) n m u ∙ along-none R.from (meets R) u (m u) n z)

  -- ---- new vertices
  -- who is absent when all are touched was absent before
  pub fresh-touched : Few R n m → {k : Map} → k ≡ goes R.from (touches R) n m → (u : ℕ) → k u ≡ absent → (leaving R u n ≤ R.departing u) × (leaving R u n ≤ 65535)
  fresh-touched few {k} e u z =
      let a : m u ≡ absent = missing-absent (m u) (sym (touch-missing R u 0 (m u) n) ∙ absent-missing (along R.from (touches R) n u (m u)) (sym (goes-along R.from (touches R) n m u) ∙ ap (λ (x : Map). x u) (sym e) ∙ z)) in
      (omega (arith, enough u, left-absent (R.departing u) (m u) a), few u a)

  -- what the upper blocks do leaves the lower ones as they are
  pub fresh-lower : Few R n m → {k : Map} → k ≡ over_to R n s 32 (goes R.from (touches R) n m) → (u : ℕ) → u < 2048 * s → k u ≡ absent → (leaving R u n ≤ R.departing u) × (leaving R u n ≤ 65535)
  fresh-lower few {k} e u l z = fresh-touched few refl u (sym (lower u l) ∙ ap (λ (x : Map). x u) (sym e) ∙ z)

-- ---- answers
pub range-fits : (R : Row) (n lo hi : ℕ) (t : Table) (c : List ℕ) (m : Map) {r : Table} {x : Option Table} → RangeIs R n lo hi t c m x → x ≡ Some r → Leads t r c (over_to R n lo hi m)
unfolding RangeIs
range-fits R n lo hi t c m h e = subst (RangeIs R n lo hi t c m) e h

pub range-full : (R : Row) (n lo hi : ℕ) (t : Table) (c : List ℕ) (m : Map) {x : Option Table} → RangeIs R n lo hi t c m x → x ≡ None → (i : ℕ) × (lo ≤ i) × (i ≤ hi) × (t.room < size (over_to R n lo i m))
unfolding RangeIs
range-full R n lo hi t c m h e = subst (RangeIs R n lo hi t c m) e h

pub range-lacks : (R : Row) (n lo hi : ℕ) (t : Table) (c : List ℕ) (m : Map) {x : Option Table} → (i : ℕ) × (lo ≤ i) × (i ≤ hi) × (t.room < size (over_to R n lo i m)) → x ≡ None → RangeIs R n lo hi t c m x
unfolding RangeIs
range-lacks R n lo hi t c m h e = rw e h

-- the second range ends the step
pub step-over : (R : Row) (n hi : ℕ) (t r : Table) (c : List ℕ) (x : Option Table) {k U F : Map} → r.room ≡ t.room → k ≡ U → over_to R n 0 hi U ≡ F → ((i : ℕ) → i ≤ hi → size (over_to R n 0 i U) ≤ size F)
    → RangeIs R n 0 hi r c k x → ArrivedIs t c F x
unfolding RangeIs ArrivedIs
step-over R n hi t r c (Some z) {k} {U} {F} q e f room h =
    let l : Leads t z c F = subst (Leads t z c) (ap (over_to R n 0 hi) e ∙ f) (record { holds = h.holds; room = h.room ∙ q }) in
    (l, leads-room l)
step-over R n hi t r c None {k} {U} {F} q e f room h =
    omega (arith, q, room h.0 h.2, h.3, ap (λ (M : Map). size (over_to R n 0 h.0 M)) e)
