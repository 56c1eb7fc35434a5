-- The tally of a block changes as the number of entries does when its records are passed. Assumes nothing.
use mathlib.Core.Path.{◌≡◌, refl, sym, ap, ◌∙◌, subst}
use mathlib.Core.Logic.{◌≢◌, ◌⊎◌, inl, inr, ⊎_elim}
use mathlib.Core.Bool.{Bool, true, false, not, cond, ◌&&◌}
use mathlib.Core.List.{List}
use Prim.Native.Nat.{ℕ, suc, ◌+◌, ◌-◌, ◌/◌, ◌%◌, ◌≤◌, ◌<◌}
use native.Mathlib.Numerals.{add-one}
use native.Mathlib.Omega.{arith}
use lib.Dec.{eqb}
use lib.ListN.{get_or}
use borrow.Author.Tests.{eq-eqb, ne_eqb}
use Rattle.journeys.specs.Counting as counting
use Rattle.journeys.specs.Counting.{count}
use Rattle.journeys.proofs.Tests.{Test, same, other, test, le-or-lt, cond-true, cond-false}
use Rattle.journeys.proofs.Counting as counts
use Rattle.passing.specs.Row.{Row}
use Rattle.worktable.specs.Map.{Entry, absent, known, Map, put, touched, spent, swept, one, size, remaining_of}
use Rattle.worktable.proofs.MapLaws.{touched-absent, spent-held, swept-spent, swept_kept}
use Rattle.meeting.specs.Passing.{missing, met, goes, along, meets, left, leaving}
use Rattle.meeting.proofs.Entries.{left-known, left-absent, missing-one, missing-held, held-missing, missing-absent, absent-missing}
use Rattle.meeting.proofs.Along.{goes-along, along-id, along-same, one_more, some_left}
use Rattle.meeting.proofs.Sizes.{put-size}
use Rattle.blocks.specs.Block.{in_block, chance, noting}
use Rattle.blocks.proofs.Chances.{present, noting-here}
use Rattle.blocks.proofs.NextRecord.{noting-step}
use Rattle.surveys.specs.Survey.{touches, touches_in, meets_in, tallied}
use Rattle.surveys.proofs.TouchThenSweep.{touched-left, touched-missing, met-swept, touch-missing, same-until}

-- ---- one record
tally-by : (D b d c tally : ℕ) (e : Entry) → e ≢ absent → tallied D b d c tally e ≡ cond (spent D (touched b e)) (tally - 1) tally
unfolding tallied
tally-by D b d c tally absent h = absurd (h refl)
tally-by D b d c tally (known x s n) h = refl

touched-held : (b : ℕ) (e : Entry) → touched b e ≢ absent → e ≢ absent
unfolding touched
touched-held b e h z = h (ap (touched b) z)

pub tally-kept : (D b d c tally : ℕ) (e : Entry) → touched b e ≢ absent → spent D (touched b e) ≡ false → tally ≡ tallied D b d c tally e
tally-kept D b d c tally e h k = sym (tally-by D b d c tally e (touched-held b e h) ∙ cond-false (tally - 1) tally k)

pub tally-spent : (D b d c tally : ℕ) (e : Entry) → spent D (touched b e) ≡ true → tally - 1 ≡ tallied D b d c tally e
tally-spent D b d c tally e k = sym (tally-by D b d c tally e (touched-held b e (spent-held D k)) ∙ cond-true (tally - 1) tally k)

-- a vertex that is held is not new
pub held-known : (b : ℕ) (e : Entry) → touched b e ≢ absent → missing e ≡ false
held-known b e h = held-missing e (touched-held b e h)

-- the tally changes by one at most
pub tallied-near : (t : Bool) (D b d c tally : ℕ) (e : Entry) → 0 < tally → (tally ≤ suc (cond t (tallied D b d c tally e) tally)) × (cond t (tallied D b d c tally e) tally ≤ suc tally)
unfolding tallied
tallied-near false D b d c tally e h = (omega arith, omega arith)
tallied-near true D b d c tally absent h =
    (omega (arith, counts.one-most (not (eqb (chance D b d c) 0)), counts.one-most (not (eqb c 0))), omega (arith, counts.one-most (not (eqb (chance D b d c) 0)), counts.one-most (not (eqb c 0))))
tallied-near true D b d c tally (known x s n) h = go (spent D (touched b (known x s n)))
  where
    go : (k : Bool) → (tally ≤ suc (cond k (tally - 1) tally)) × (cond k (tally - 1) tally ≤ suc tally)
    go true = (omega arith, omega arith)
    go false = (omega arith, omega arith)

tally-held : (D c g b d : ℕ) (x : Entry) → missing x ≡ false → 0 < g → tallied D b d c g x + one x ≡ g + one (met D b d x)
unfolding one
tally-held D c g b d x h k =
    let a = tally-by D b d c g x (missing-held x h) in
    let o = missing-one x h in
    let m = ap one (met-swept D b d x h) in
    let y = missing-one (touched b x) (touched-missing b x ∙ h) in
    go (spent D (touched b x)) refl a o m y
  where
    go : (t : Bool) → spent D (touched b x) ≡ t → tallied D b d c g x ≡ cond (spent D (touched b x)) (g - 1) g → one x ≡ 1 → one (met D b d x) ≡ one (swept D (touched b x)) → one (touched b x) ≡ 1
        → tallied D b d c g x + one x ≡ g + one (met D b d x)
    go true q a o m y = omega (arith, a ∙ cond-true (g - 1) g q, o, m ∙ ap one (swept-spent D (touched b x) q))
    go false q a o m y = omega (arith, a ∙ cond-false (g - 1) g q, o, m ∙ ap one (swept_kept D (touched b x) q), y)

touched_none : (b : ℕ) → touched b absent ≡ absent
unfolding touched
touched_none b = refl

one-missing : (e : Entry) → one e ≡ counting.one (not (missing e))
unfolding one missing
one-missing absent = refl
one-missing (known d s n) = refl

tally-new : (D b d c g x y : ℕ) → 0 < g → x ≡ counting.one (not (eqb c 0)) → y ≡ counting.one (not (eqb (chance D b d c) 0)) → tallied D b d c g absent + x ≡ g + y
unfolding tallied
tally-new D b d c g x y h p q = omega (arith, p, q, counts.one-most (not (eqb c 0)))

along-next : (R : Row) (u j : ℕ) → R.from j ≡ u → (e : Entry) → along R.from (meets R) (suc j) u e ≡ meets R j (along R.from (meets R) j u e)
unfolding along
along-next R u j q e = cond-true (meets R j (along R.from (meets R) j u e)) (along R.from (meets R) j u e) (eq-eqb (R.from j) u q)

-- ---- only the records of the block
module _ (R : Row) (block u : ℕ) (here : u / 2048 ≡ block) where
  in-block : (j : ℕ) → R.from j ≡ u → in_block block (R.from j) ≡ true
  in-block j q = ap (in_block block) q ∙ eq-eqb (u / 2048) block here

  pub touch-in : (j : ℕ) (e : Entry) → along R.from (touches_in R block) j u e ≡ along R.from (touches R) j u e
  touch-in j e = along-same R.from (touches_in R block) (touches R) u (λ i q x. cond-true (touches R i x) x (in-block i q)) e j

  pub meet-in : (j : ℕ) (e : Entry) → along R.from (meets_in R block) j u e ≡ along R.from (meets R) j u e
  meet-in j e = along-same R.from (meets_in R block) (meets R) u (λ i q x. cond-true (meets R i x) x (in-block i q)) e j

module _ (R : Row) (block u : ℕ) (there : u / 2048 ≢ block) where
  not-block : (j : ℕ) → R.from j ≡ u → in_block block (R.from j) ≡ false
  not-block j q = ap (in_block block) q ∙ ne_eqb (u / 2048) block there

  pub touch-out : (j : ℕ) (e : Entry) → along R.from (touches_in R block) j u e ≡ e
  touch-out j e = along-id R.from (touches_in R block) u e (λ i q. cond-false (touches R i e) e (not-block i q)) j

  pub meet-out : (j : ℕ) (e : Entry) → along R.from (meets_in R block) j u e ≡ e
  meet-out j e = along-id R.from (meets_in R block) u e (λ i q. cond-false (meets R i e) e (not-block i q)) j

module _ (R : Row) (n block : ℕ) (m : Map) (enough : (u : ℕ) → u / 2048 ≡ block → leaving R u n ≤ left (R.departing u) (m u))
    (few : (u : ℕ) → u / 2048 ≡ block → m u ≡ absent → leaving R u n ≤ 65535) (j : ℕ) (l : j < n) (g : ℕ) (some : 0 < g) where
  abbrev u : ℕ
  u = R.from j

  abbrev d : ℕ
  d = R.departing u

  tally-entry : u / 2048 ≡ block → (e : Entry) → m u ≡ e
      → tallied R.allowed (R.offer j) d (noting R block m j (u % 2048)) g (along R.from (touches R) j u e) + one (along R.from (meets R) j u e)
      ≡ g + one (meets R j (along R.from (meets R) j u e))
  unfolding missing
  tally-entry here absent z =
      rw (along-id R.from (touches R) u absent (λ i q. touched_none (R.offer i)) j)
      (tally-new R.allowed (R.offer j) d (noting R block m j (u % 2048)) g (one (along R.from (meets R) j u absent)) (one (meets R j (along R.from (meets R) j u absent))) some before after)
    where
      most : leaving R u n ≤ d
      most = omega (arith, enough u here, left-absent d (m u) z)

      more : suc (leaving R u j) ≤ leaving R u n
      more = one_more R.from n j l

      grows : leaving R u (suc j) ≤ leaving R u n
      grows = counts.count-grows (λ i. eqb (R.from i) u) (suc j) n l

      before : one (along R.from (meets R) j u absent) ≡ counting.one (not (eqb (noting R block m j (u % 2048)) 0))
      before = one-missing (along R.from (meets R) j u absent) ∙ ap (λ (b : Bool). counting.one (not b)) (present R block m u here z j (omega (arith, most, more)) (omega (arith, few u here z, more)))

      next : along R.from (meets R) (suc j) u absent ≡ meets R j (along R.from (meets R) j u absent)
      next = along-next R u j refl absent

      after : one (meets R j (along R.from (meets R) j u absent)) ≡ counting.one (not (eqb (chance R.allowed (R.offer j) d (noting R block m j (u % 2048))) 0))
      after =
          ap one (sym next) ∙ one-missing (along R.from (meets R) (suc j) u absent)
          ∙ ap (λ (b : Bool). counting.one (not b)) (present R block m u here z (suc j) (omega (arith, most, grows)) (omega (arith, few u here z, grows)))
          ∙ ap (λ (c : ℕ). counting.one (not (eqb c 0))) (noting-here R block m u here j refl z)
  tally-entry here (known x y r) z =
      let q : leaving R u j < left d (known x y r) = omega (arith, one_more R.from n j l, left_at (known x y r) z) in
      let e = same-until R u d (known x y r) refl j q in
      let k = along R.from (touches R) j u (known x y r) in
      rw e (tally-held R.allowed (noting R block m j (u % 2048)) g (R.offer j) d k (touch-missing R u d (known x y r) j) some)
    where
      left_at : (e : Entry) → m u ≡ e → leaving R u n ≤ left d e
      left_at e h = subst (λ (x : Entry). leaving R u n ≤ left d x) h (enough u here)

  -- After one record more, the tally has changed as the map that is passed has.
  pub tally-step : u < 65536
      → cond (in_block block u) (tallied R.allowed (R.offer j) d (noting R block m j (u % 2048)) g (goes R.from (touches_in R block) j m u)) g + size (goes R.from (meets_in R block) j m)
      ≡ g + size (goes R.from (meets_in R block) (suc j) m)
  unfolding goes
  tally-step low = go (eqb (u / 2048) block) (test (u / 2048) block)
    where
      P : Map
      P = goes R.from (meets_in R block) j m

      sizes : (e : Entry) → size (put (goes R.from (meets_in R block) j m) u e) + one (goes R.from (meets_in R block) j m u) ≡ size (goes R.from (meets_in R block) j m) + one e
      sizes e = put-size (goes R.from (meets_in R block) j m) u e low

      go : (b : Bool) → Test (u / 2048) block b
          → cond b (tallied R.allowed (R.offer j) d (noting R block m j (u % 2048)) g (goes R.from (touches_in R block) j m u)) g + size (goes R.from (meets_in R block) j m)
          ≡ g + size (put (goes R.from (meets_in R block) j m) u (cond b (meets R j (goes R.from (meets_in R block) j m u)) (goes R.from (meets_in R block) j m u)))
      go true (same here) =
          let x = goes-along R.from (touches_in R block) j m u ∙ touch-in R block u here j (m u) in
          let y = goes-along R.from (meets_in R block) j m u ∙ meet-in R block u here j (m u) in
          let e = tally-entry here (m u) refl in
          omega (arith, rw (← x, ← y) at e, sizes (meets R j (goes R.from (meets_in R block) j m u)))
      go false (other there) = omega (arith, sizes (goes R.from (meets_in R block) j m u))

-- ---- the loop of the survey
any_left : (d : ℕ) (e : Entry) → 0 < left d e → e ≢ absent → 0 < remaining_of e
any_left d e h k = omega (arith, h, left-known d e k)

module _ (R : Row) (n block : ℕ) (m : Map) (enough : (u : ℕ) → u / 2048 ≡ block → leaving R u n ≤ left (R.departing u) (m u)) (j : ℕ) (l : j < n) {M : Map} {u : ℕ} (q : u ≡ R.from j) (p : M ≡ goes R.from (touches_in R block) j m) where
  entry-is : u / 2048 ≡ block → M u ≡ along R.from (touches R) j (R.from j) (m (R.from j))
  entry-is h =
      ap (λ (k : Map). k u) p ∙ ap (goes R.from (touches_in R block) j m) q
      ∙ goes-along R.from (touches_in R block) j m (R.from j) ∙ touch-in R block (R.from j) (ap (λ (x : ℕ). x / 2048) (sym q) ∙ h) j (m (R.from j))

  at_least : u / 2048 ≡ block → 0 < left (R.departing (R.from j)) (M u)
  at_least h =
      rw (entry-is h)
      (some_left R.from (touches R) (R.departing (R.from j)) n j (λ i e x. touched-left (R.offer i) (R.departing (R.from j)) x) (m (R.from j)) (enough (R.from j) (ap (λ (x : ℕ). x / 2048) (sym q) ∙ h)) l)

  -- something remains to who is held, and who is not has records
  pub survey-some : u / 2048 ≡ block → (M u ≢ absent → 0 < remaining_of (M u)) × (M u ≡ absent → 0 < R.departing u)
  survey-some h = (any_left (R.departing (R.from j)) (M u) (at_least h), λ z. rw q (omega (arith, at_least h, left-absent (R.departing (R.from j)) (M u) z)))

  -- who is new among the touched was new before
  survey-missing : u / 2048 ≡ block → missing (M u) ≡ missing (m u)
  survey-missing h = ap missing (entry-is h) ∙ touch-missing R (R.from j) 0 (m (R.from j)) j ∙ ap (λ (v : ℕ). missing (m v)) (sym q)

  pub survey-noting : (k : ℕ) {x c y : ℕ} → x ≡ R.offer j → c ≡ noting R block m j k
      → y ≡ cond (in_block block u && (missing (M u) && eqb (u % 2048) k)) (chance R.allowed x (R.departing u) c) c → y ≡ noting R block m (j + 1) k
  survey-noting k {x} {c} {y} o e r = noting-step R block m j k q o e (r ∙ ap (λ (b : Bool). cond b (chance R.allowed x (R.departing u) c) c) (same_new (eqb (u / 2048) block) (test (u / 2048) block)))
    where
      same_new : (b : Bool) → Test (u / 2048) block b → (b && (missing (M u) && eqb (u % 2048) k)) ≡ (b && (missing (m u) && eqb (u % 2048) k))
      same_new true (same h) = ap (λ (z : Bool). z && eqb (u % 2048) k) (survey-missing h)
      same_new false (other h) = refl

  pub tally-more : ((v : ℕ) → v / 2048 ≡ block → m v ≡ absent → leaving R v n ≤ 65535) → (g k : ℕ) → 0 < g → R.from j < 65536 → {x : ℕ} (s : List ℕ) → x ≡ R.offer j → ((i : ℕ) → i < 2048 → get_or s i 0 ≡ noting R block m j i)
      → k ≡ cond (in_block block u) (tallied R.allowed x (R.departing u) (get_or s (u % 2048) 0) g (M u)) g
      → g + size m ≡ n + size (goes R.from (meets_in R block) j m) → k + size m ≡ n + size (goes R.from (meets_in R block) (j + 1) m)
  tally-more few g k some low {x} s o counters r inv =
      let v = R.from j in
      let a = tally-step R n block m enough few j l g some low in
      let b : k ≡ cond (in_block block v) (tallied R.allowed (R.offer j) (R.departing v) (noting R block m j (v % 2048)) g (goes R.from (touches_in R block) j m v)) g =
      r ∙ ap (λ (y : ℕ). cond (in_block block u) (tallied R.allowed y (R.departing u) (get_or s (u % 2048) 0) g (M u)) g) o
      ∙ ap (λ (y : ℕ). cond (in_block block y) (tallied R.allowed (R.offer j) (R.departing y) (get_or s (y % 2048) 0) g (M y)) g) q
      ∙ ap (λ (y : ℕ). cond (in_block block v) (tallied R.allowed (R.offer j) (R.departing v) y g (M v)) g) (counters (v % 2048) (omega arith))
      ∙ ap (λ (K : Map). cond (in_block block v) (tallied R.allowed (R.offer j) (R.departing v) (noting R block m j (v % 2048)) g (K v)) g) p in
      let c : size (goes R.from (meets_in R block) (j + 1) m) ≡ size (goes R.from (meets_in R block) (suc j) m) = ap (λ (i : ℕ). size (goes R.from (meets_in R block) i m)) (add-one j) in
      omega (arith, a, b, c)
