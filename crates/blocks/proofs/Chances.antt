-- A new vertex along a row: its counter is not 0 exactly if it has an entry, and who stays has one from its first record on. Assumes nothing.
use mathlib.Core.Path.{◌≡◌, refl, sym, ap, subst, ◌∙◌}
use mathlib.Core.Logic.{◌≢◌, ◌⊎◌, inl, inr, ⊎_elim}
use mathlib.Core.Bool.{Bool, true, false, cond, ◌&&◌}
use Prim.Native.Nat.{ℕ, zero, suc, ◌+◌, ◌-◌, ◌/◌, ◌%◌, ◌≤◌, ◌<◌, min}
use native.Mathlib.Decide.{ℕ_discrete}
use native.Mathlib.Omega.{arith}
use lib.Dec.{eqb, ltb}
use borrow.Author.Tests.{eq-eqb, ne_eqb, lt-ltb, le-ltb}
use Rattle.journeys.specs.Counting as counting
use Rattle.journeys.specs.Counting.{count}
use Rattle.journeys.proofs.Tests.{Test, same, other, test, never, le-or-lt, and-true, and_left, and_right, cond-true, cond-false}
use Rattle.journeys.proofs.Counting.{one-most, is_one, is_zero, count-mono, count-grows}
use Rattle.passing.specs.Row.{Row}
use Rattle.worktable.specs.Map.{Entry, absent, known, Map, touched, swept, one}
use Rattle.worktable.proofs.MapLaws.{spent-open, spent_some, swept-spent, swept_kept}
use Rattle.meeting.specs.Passing.{missing, entered, met, along, meets, leaving}
use Rattle.meeting.proofs.Entries.{met-new}
use Rattle.blocks.specs.Block.{in_block, chance, noting}

-- ---- an unsettled entry when it is swept
swept-gone : (D d n : ℕ) → D < d → n ≡ 0 → swept D (known d 0 n) ≡ absent
swept-gone D d n l z = swept-spent D (known d 0 n) (spent-open D d 0 n refl ∙ and-true (eq-eqb n 0 z) (lt-ltb D d l))

swept-some : (D d n : ℕ) → n ≢ 0 → swept D (known d 0 n) ≡ known d 0 n
swept-some D d n h = swept_kept D (known d 0 n) (spent_some D d 0 n h)

swept-near : (D d n : ℕ) → d ≤ D → swept D (known d 0 n) ≡ known d 0 n
swept-near D d n l = swept_kept D (known d 0 n) (spent-open D d 0 n refl ∙ and_right (eqb n 0) (le-ltb D d l))

met-open : (D b d x n : ℕ) {e : Entry} → e ≡ known x 0 n → met D b d e ≡ swept D (known (min b x) 0 (n - 1))
unfolding met entered touched
met-open D b d x n q = ap (met D b d) q

module _ (R : Row) (u : ℕ) where
  -- how many of the first j records are of u and offer more than D
  unfoldable pub overs : ℕ → ℕ
  overs j = count (λ i. eqb (R.from i) u && ltb R.allowed (R.offer i)) j

  -- the entry of a new vertex after j records: it has none yet; it has none any more, since all its records are passed and offer more than D; or it has one, and its
  -- distance is above D exactly if all its offers are
  abbrev Hope : ℕ → Entry → Type 0
  Hope j e =
      ((e ≡ absent) × (leaving R u j ≡ 0))
      ⊎ (((e ≡ absent) × (0 < leaving R u j) × (overs j ≡ R.departing u))
      ⊎ ((x : ℕ) × (e ≡ known x 0 (R.departing u - leaving R u j)) × (0 < leaving R u j) × (overs j < R.departing u)
      × (((R.allowed < x) × (overs j ≡ leaving R u j)) ⊎ ((x ≤ R.allowed) × (overs j < leaving R u j)))))

  pub leaving-here : (j : ℕ) → R.from j ≡ u → leaving R u (suc j) ≡ leaving R u j + 1
  unfolding count
  leaving-here j q = omega (arith, is_one (eq-eqb (R.from j) u q))

  pub leaving-other : (j : ℕ) → R.from j ≢ u → leaving R u (suc j) ≡ leaving R u j
  unfolding count
  leaving-other j q = omega (arith, is_zero (ne_eqb (R.from j) u q))

  pub overs-here : (j : ℕ) → R.from j ≡ u → overs (suc j) ≡ overs j + counting.one (ltb R.allowed (R.offer j))
  unfolding overs count
  overs-here j q = ap (λ (b : Bool). count (λ i. eqb (R.from i) u && ltb R.allowed (R.offer i)) j + counting.one (b && ltb R.allowed (R.offer j))) (eq-eqb (R.from j) u q)

  pub overs-other : (j : ℕ) → R.from j ≢ u → overs (suc j) ≡ overs j
  unfolding overs count
  overs-other j q = omega (arith, is_zero (and_left (ltb R.allowed (R.offer j)) (ne_eqb (R.from j) u q)))

  pub overs-most : (j : ℕ) → overs j ≤ leaving R u j
  unfolding overs
  overs-most j = count-mono (λ i. eqb (R.from i) u && ltb R.allowed (R.offer i)) (λ i. eqb (R.from i) u) j (λ i l. less (eqb (R.from i) u) (ltb R.allowed (R.offer i)))
    where
      less : (a b : Bool) → counting.one (a && b) ≤ counting.one a
      less true true = omega arith
      less true false = omega arith
      less false b = omega arith

  overs-grow : (i j : ℕ) → i ≤ j → overs i ≤ overs j
  unfolding overs
  overs-grow i j l = count-grows (λ i. eqb (R.from i) u && ltb R.allowed (R.offer i)) i j l

  -- an entry with its distance and what remains is swept
  close : (j x n : ℕ) → n ≡ R.departing u - leaving R u j → 0 < leaving R u j → leaving R u j ≤ R.departing u
      → ((R.allowed < x) × (overs j ≡ leaving R u j)) ⊎ ((x ≤ R.allowed) × (overs j < leaving R u j)) → Hope j (swept R.allowed (known x 0 n))
  close j x n q some most (inl p) =
      ⊎_elim
      (λ (z : n ≤ 0). inr (inl (swept-gone R.allowed x n p.0 (omega arith), some, omega (arith, p.1))))
      (λ (z : 0 < n). inr (inr (x, swept-some R.allowed x n (λ e. let y : ⊥ = omega arith in y) ∙ ap (known x 0) q, some, omega (arith, p.1), inl p)))
      (le-or-lt n 0)
  close j x n q some most (inr p) = inr (inr (x, swept-near R.allowed x n p.0 ∙ ap (known x 0) q, some, omega (arith, p.1), inr p))

  step : (j : ℕ) (e : Entry) → R.from j ≡ u → leaving R u (suc j) ≤ R.departing u → Hope j e → Hope (suc j) (met R.allowed (R.offer j) (R.departing u) e)
  step j e q most h = go h
    where
      D : ℕ
      D = R.allowed

      b : ℕ
      b = R.offer j

      one-over : R.allowed < R.offer j → overs (suc j) ≡ overs j + 1
      one-over l = omega (arith, overs-here j q, is_one (lt-ltb R.allowed (R.offer j) l))

      none_over : R.offer j ≤ R.allowed → overs (suc j) ≡ overs j
      none_over l = omega (arith, overs-here j q, is_zero (le-ltb R.allowed (R.offer j) l))

      go : Hope j e → Hope (suc j) (met R.allowed (R.offer j) (R.departing u) e)
      go (inl p) =
          subst (Hope (suc j)) (sym (met-new R.allowed (R.offer j) (R.departing u) e p.0))
          (close (suc j) (R.offer j) (R.departing u - 1) (omega (arith, leaving-here j q, p.1)) (omega (arith, leaving-here j q)) most
          (⊎_elim (λ (l : R.offer j ≤ R.allowed). inr (l, omega (arith, none_over l, overs-most j, leaving-here j q, p.1)))
          (λ (l : R.allowed < R.offer j). inl (l, omega (arith, one-over l, overs-most j, leaving-here j q, p.1)))
          (le-or-lt (R.offer j) R.allowed)))
      go (inr (inl p)) = absurd (let z : ⊥ = omega (arith, p.2, overs-most j, leaving-here j q, most) in z)
      go (inr (inr p)) =
          let x = p.0 in
          subst (Hope (suc j)) (sym (met-open R.allowed (R.offer j) (R.departing u) x (R.departing u - leaving R u j) p.1))
          (close (suc j) (min (R.offer j) x) ((R.departing u - leaving R u j) - 1) (omega (arith, leaving-here j q)) (omega (arith, leaving-here j q)) most (least x p.4))
        where
          least : (x : ℕ) → ((R.allowed < x) × (overs j ≡ leaving R u j)) ⊎ ((x ≤ R.allowed) × (overs j < leaving R u j))
              → ((R.allowed < min (R.offer j) x) × (overs (suc j) ≡ leaving R u (suc j))) ⊎ ((min (R.offer j) x ≤ R.allowed) × (overs (suc j) < leaving R u (suc j)))
          least x (inr o) =
              inr (
                omega (arith, o.0),
                ⊎_elim (λ (l : R.offer j ≤ R.allowed). omega (arith, none_over l, o.1, leaving-here j q)) (λ (l : R.allowed < R.offer j). omega (arith, one-over l, o.1, leaving-here j q)) (le-or-lt (R.offer j) R.allowed),
              )
          least x (inl o) =
              ⊎_elim (λ (l : R.offer j ≤ R.allowed). inr (omega arith, omega (arith, none_over l, o.1, leaving-here j q)))
              (λ (l : R.allowed < R.offer j). inl (omega (arith, o.0), omega (arith, one-over l, o.1, leaving-here j q)))
              (le-or-lt (R.offer j) R.allowed)

  stay : (j : ℕ) (e : Entry) → R.from j ≢ u → Hope j e → Hope (suc j) e
  stay j e q h = rw (leaving-other j q, overs-other j q) h

  hope : (j : ℕ) → leaving R u j ≤ R.departing u → Hope j (along R.from (meets R) j u absent)
  unfolding along count
  hope zero most = inl (refl, refl)
  hope (suc j) most = go (eqb (R.from j) u) (test (R.from j) u) (hope j (omega (arith, count-grows (λ i. eqb (R.from i) u) j (suc j) (omega arith))))
    where
      x : Entry
      x = along R.from (meets R) j u absent

      go : (b : Bool) → Test (R.from j) u b → Hope j (along R.from (meets R) j u absent)
          → Hope (suc j) (cond b (meets R j (along R.from (meets R) j u absent)) (along R.from (meets R) j u absent))
      go true (same q) h =
          subst (λ (v : ℕ). Hope (suc j) (met R.allowed (R.offer j) (R.departing v) (along R.from (meets R) j u absent))) (sym q) (step j (along R.from (meets R) j u absent) q most h)
      go false (other q) h = stay j (along R.from (meets R) j u absent) q h

  -- A new vertex with a record in the row has no entry when the row is over exactly if as many of its records offer more than D as it has in all.
  pub row-over : (n : ℕ) → leaving R u n ≤ R.departing u → 0 < leaving R u n → missing (along R.from (meets R) n u absent) ≡ eqb (R.departing u - overs n) 0
  unfolding missing
  row-over n most some = go (hope n most)
    where
      go : Hope n (along R.from (meets R) n u absent) → missing (along R.from (meets R) n u absent) ≡ eqb (R.departing u - overs n) 0
      go (inl p) = absurd (let y : ⊥ = omega (arith, p.1, some) in y)
      go (inr (inl p)) = ap missing p.0 ∙ sym (eq-eqb (R.departing u - overs n) 0 (omega (arith, p.2)))
      go (inr (inr p)) = ap missing p.1 ∙ sym (ne_eqb (R.departing u - overs n) 0 (λ x. let y : ⊥ = omega (arith, p.3, x) in y))

  -- Who has an entry at the end has one from its first record on.
  pub lasts_on : (n : ℕ) → leaving R u n ≤ R.departing u → missing (along R.from (meets R) n u absent) ≡ false → (j : ℕ) → j < n → R.from j ≡ u
      → one (along R.from (meets R) (suc j) u absent) ≡ 1
  unfolding one
  lasts_on n most on j l q = go (hope (suc j) (omega (arith, most, grows)))
    where
      grows : leaving R u (suc j) ≤ leaving R u n
      grows = count-grows (λ i. eqb (R.from i) u) (suc j) n l

      some : 0 < leaving R u (suc j)
      some = omega (arith, leaving-here j q)

      go : Hope (suc j) (along R.from (meets R) (suc j) u absent) → one (along R.from (meets R) (suc j) u absent) ≡ 1
      go (inl p) = absurd (let y : ⊥ = omega (arith, p.1, some) in y)
      go (inr (inl p)) = never (row-over n most (omega (arith, some, grows)) ∙ eq-eqb (R.departing u - overs n) 0 (omega (arith, p.2, overs-grow (suc j) n l))) on
      go (inr (inr p)) = ap one p.1

-- ---- the counter of u
pub chance-new : (D b d c : ℕ) → c ≡ 0 → chance D b d c ≡ min (d - counting.one (ltb D b)) 65535
unfolding chance
chance-new D b d c e = cond-true (min (d - counting.one (ltb D b)) 65535) (c - counting.one (ltb D b)) (eq-eqb c 0 e)

pub chance-old : (D b d c : ℕ) → c ≢ 0 → chance D b d c ≡ c - counting.one (ltb D b)
unfolding chance
chance-old D b d c e = cond-false (min (d - counting.one (ltb D b)) 65535) (c - counting.one (ltb D b)) (ne_eqb c 0 e)

module _ (R : Row) (block : ℕ) (m : Map) (u : ℕ) (here : u / 2048 ≡ block) where
  noting-skip : (j : ℕ) → (R.from j ≡ u → missing (m u) ≡ false) → noting R block m (suc j) (u % 2048) ≡ noting R block m j (u % 2048)
  unfolding noting
  noting-skip j h = cond-false _ (noting R block m j (u % 2048)) (off (ℕ_discrete (R.from j) u) (ℕ_discrete (R.from j / 2048) block))
    where
      off : Dec (R.from j ≡ u) → Dec (R.from j / 2048 ≡ block) → (in_block block (R.from j) && (missing (m (R.from j)) && eqb (R.from j % 2048) (u % 2048))) ≡ false
      off (yes q) d = and_right (in_block block (R.from j)) (and_left (eqb (R.from j % 2048) (u % 2048)) (ap (λ (v : ℕ). missing (m v)) q ∙ h q))
      off (no q) (yes b) = and_right (in_block block (R.from j)) (and_right (missing (m (R.from j))) (ne_eqb (R.from j % 2048) (u % 2048) (λ r. q (omega arith))))
      off (no q) (no b) = and_left (missing (m (R.from j)) && eqb (R.from j % 2048) (u % 2048)) (ne_eqb (R.from j / 2048) block b)

  pub noting-here : (j : ℕ) → R.from j ≡ u → m u ≡ absent → noting R block m (suc j) (u % 2048) ≡ chance R.allowed (R.offer j) (R.departing u) (noting R block m j (u % 2048))
  unfolding noting missing
  noting-here j q z =
      let a : in_block block (R.from j) ≡ true = eq-eqb (R.from j / 2048) block (ap (λ (v : ℕ). v / 2048) q ∙ here) in
      let b : eqb (R.from j % 2048) (u % 2048) ≡ true = eq-eqb (R.from j % 2048) (u % 2048) (ap (λ (v : ℕ). v % 2048) q) in
      let c : missing (m (R.from j)) ≡ true = ap missing (ap m q ∙ z) in
      rw (a, c, b, q)

  -- Who is held has none.
  pub held-noting : missing (m u) ≡ false → (j : ℕ) → noting R block m j (u % 2048) ≡ 0
  unfolding noting
  held-noting h zero = refl
  held-noting h (suc j) = noting-skip j (λ q. h) ∙ held-noting h j

  -- the counter after j records: none of them is of u; or it is what is due less the offers above D; or more is due than two bytes hold, and the counter cannot reach 0
  abbrev Counts : ℕ → Type 0
  Counts j =
      ((leaving R u j ≡ 0) × (noting R block m j (u % 2048) ≡ 0))
      ⊎ (((0 < leaving R u j) × (noting R block m j (u % 2048) ≡ R.departing u - overs R u j))
      ⊎ ((0 < leaving R u j) × (65535 < R.departing u) × (65536 ≤ noting R block m j (u % 2048) + leaving R u j)))

  -- one record more: u is met for the first time, or again, or the record is of another vertex
  counts-here : m u ≡ absent → (j : ℕ) → R.from j ≡ u → leaving R u (suc j) ≤ R.departing u → leaving R u (suc j) ≤ 65535 → Counts j → Counts (suc j)
  counts-here z j q most few h = go h
    where
      x : ℕ
      x = counting.one (ltb R.allowed (R.offer j))

      some : 0 < leaving R u (suc j)
      some = omega (arith, leaving-here R u j q)

      again : noting R block m j (u % 2048) ≢ 0 → noting R block m (suc j) (u % 2048) ≡ noting R block m j (u % 2048) - counting.one (ltb R.allowed (R.offer j))
      again n = noting-here j q z ∙ chance-old R.allowed (R.offer j) (R.departing u) (noting R block m j (u % 2048)) n

      go : Counts j → Counts (suc j)
      go (inl p) =
          let e = noting-here j q z ∙ chance-new R.allowed (R.offer j) (R.departing u) (noting R block m j (u % 2048)) p.1 in
          let o = one-most (ltb R.allowed (R.offer j)) in
          ⊎_elim
          (λ (l : R.departing u ≤ 65535). inr (inl (some, omega (arith, e, p.0, overs-most R u j, overs-here R u j q))))
          (λ (l : 65535 < R.departing u). inr (inr (some, l, omega (arith, e, o, leaving-here R u j q))))
          (le-or-lt (R.departing u) 65535)
      go (inr (inl p)) =
          inr (inl (some, omega (arith, again (λ e. let y : ⊥ = omega (arith, e, p.1, overs-most R u j, leaving-here R u j q, most) in y), p.1, overs-here R u j q)))
      go (inr (inr p)) =
          let o = one-most (ltb R.allowed (R.offer j)) in
          inr (inr (some, p.1, omega (arith, again (λ e. let y : ⊥ = omega (arith, e, p.2, leaving-here R u j q, few) in y), o, p.2, leaving-here R u j q, few)))

  counts-other : (j : ℕ) → R.from j ≢ u → Counts j → Counts (suc j)
  counts-other j q h = rw (noting-skip j (λ p. absurd (q p)), leaving-other R u j q, overs-other R u j q) h

  counts : m u ≡ absent → (j : ℕ) → leaving R u j ≤ R.departing u → leaving R u j ≤ 65535 → Counts j
  unfolding noting count
  counts z zero most few = inl (refl, refl)
  counts z (suc j) most few = go (ℕ_discrete (R.from j) u) (counts z j (omega (arith, fewer)) (omega (arith, fewer)))
    where
      fewer : leaving R u j ≤ leaving R u (suc j)
      fewer = count-grows (λ i. eqb (R.from i) u) j (suc j) (omega arith)

      go : Dec (R.from j ≡ u) → Counts j → Counts (suc j)
      go (yes q) ih = counts-here z j q most few ih
      go (no q) ih = counts-other j q ih

  -- The counter of a new vertex is 0 exactly if it has no entry.
  pub present : m u ≡ absent → (j : ℕ) → leaving R u j ≤ R.departing u → leaving R u j ≤ 65535
      → missing (along R.from (meets R) j u absent) ≡ eqb (noting R block m j (u % 2048)) 0
  unfolding missing
  present z j most few = go (hope R u j most) (counts z j most few)
    where
      go : Hope R u j (along R.from (meets R) j u absent) → Counts j → missing (along R.from (meets R) j u absent) ≡ eqb (noting R block m j (u % 2048)) 0
      go (inl p) (inl k) = ap missing p.0 ∙ sym (eq-eqb (noting R block m j (u % 2048)) 0 k.1)
      go (inl p) (inr (inl k)) = absurd (let y : ⊥ = omega (arith, p.1, k.0) in y)
      go (inl p) (inr (inr k)) = absurd (let y : ⊥ = omega (arith, p.1, k.0) in y)
      go (inr (inl p)) (inl k) = absurd (let y : ⊥ = omega (arith, p.1, k.0) in y)
      go (inr (inl p)) (inr (inl k)) = ap missing p.0 ∙ sym (eq-eqb (noting R block m j (u % 2048)) 0 (omega (arith, k.1, p.2)))
      go (inr (inl p)) (inr (inr k)) = absurd (let y : ⊥ = omega (arith, p.2, k.1, overs-most R u j, few) in y)
      go (inr (inr p)) (inl k) = absurd (let y : ⊥ = omega (arith, p.2, k.0) in y)
      go (inr (inr p)) (inr (inl k)) = ap missing p.1 ∙ sym (ne_eqb (noting R block m j (u % 2048)) 0 (λ x. let y : ⊥ = omega (arith, k.1, p.3, x) in y))
      go (inr (inr p)) (inr (inr k)) = ap missing p.1 ∙ sym (ne_eqb (noting R block m j (u % 2048)) 0 (λ x. let y : ⊥ = omega (arith, k.2, few, x) in y))

  -- Who has a counter at the end has an entry from its first record on.
  pub stays_on : m u ≡ absent → (n : ℕ) → leaving R u n ≤ R.departing u → leaving R u n ≤ 65535 → noting R block m n (u % 2048) ≢ 0 → (j : ℕ) → j < n → R.from j ≡ u
      → one (along R.from (meets R) (suc j) u absent) ≡ 1
  stays_on z n most few on j l q = lasts_on R u n most (present z n most few ∙ ne_eqb (noting R block m n (u % 2048)) 0 on) j l q
