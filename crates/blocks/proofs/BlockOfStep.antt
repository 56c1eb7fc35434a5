-- One block of the step: what is noted, swept and added is what the definition says of it, and additions never take an entry away. Assumes nothing.
use mathlib.Core.Path.{◌≡◌, refl, sym, ap, fun_ext, ◌∙◌}
use mathlib.Core.Logic.{◌≢◌, ⊎_elim}
use mathlib.Core.Bool.{Bool, true, false, not, cond, ◌&&◌}
use mathlib.Core.List.{List}
use Prim.Native.Nat.{ℕ, zero, suc, ◌/◌, ◌%◌, ◌≤◌, ◌<◌}
use native.Mathlib.Omega.{arith}
use lib.Dec.{eqb}
use lib.ListN.{get_or}
use borrow.Author.Tests.{eq-eqb, ne_eqb, eqb-true}
use Rattle.journeys.proofs.Tests.{Test, same, other, test, split, never, same-or-below, and_both, and-true, and_left, and_right, cond-true, cond-false}
use Rattle.passing.specs.Row.{Row}
use Rattle.worktable.specs.Map.{Entry, absent, known, Map, spent, swept, one, size}
use Rattle.meeting.specs.Passing.{missing, goes, along, meets}
use Rattle.meeting.proofs.Entries.{missing-absent, one-most}
use Rattle.meeting.proofs.Along.{goes-along, along-id, along-same}
use Rattle.meeting.proofs.Sizes.{size-le}
use Rattle.blocks.specs.Block.{in_block, stays_in, noting, sweeps, adds_if, adds, ended, over, Fresh, Newcomers, News}
use Rattle.blocks.proofs.Chances.{held-noting, present, stays_on}

-- ---- one block
module _ (R : Row) (n : ℕ) where
  pub ended_held : (u : ℕ) (e : Entry) → missing e ≡ false → ended R n u e ≡ along R.from (λ j. swept R.allowed) n u e
  unfolding ended missing
  ended_held u absent h = absurd (let z : ◌≡◌ {A = ℕ} 0 1 = cc in omega arith)
  ended_held u (known d s r) h = refl

swept_none : (D : ℕ) (b : Bool) → cond b (swept D absent) absent ≡ absent
unfolding swept spent
swept_none D true = refl
swept_none D false = refl

module _ (R : Row) (n block : ℕ) (M : Map) (s : List ℕ) (counters : (k : ℕ) → k < 2048 → get_or s k 0 ≡ noting R block M n k) (fresh-all : Fresh R n block M) where
  stays-is : (u : ℕ) → stays_in s (u % 2048) ≡ not (eqb (noting R block M n (u % 2048)) 0)
  unfolding stays_in
  stays-is u = ap (λ (c : ℕ). not (eqb c 0)) (counters (u % 2048) (omega arith))

  -- a new vertex stays exactly if the definition gives it an entry; who is held is not new
  stays-new : (u : ℕ) → u / 2048 ≡ block → M u ≡ absent → stays_in s (u % 2048) ≡ not (missing (along R.from (meets R) n u absent))
  stays-new u h e = stays-is u ∙ ap not (sym (present R block M u h e n (fresh-all u h e).0 (fresh-all u h e).1))

  held-off : (u : ℕ) → u / 2048 ≡ block → missing (M u) ≡ false → stays_in s (u % 2048) ≡ false
  held-off u h e = stays-is u ∙ ap not (eq-eqb (noting R block M n (u % 2048)) 0 (held-noting R block M u h e n))

  in-block : (u j : ℕ) → u / 2048 ≡ block → R.from j ≡ u → in_block block (R.from j) ≡ true
  in-block u j h q = ap (in_block block) q ∙ eq-eqb (u / 2048) block h

  new-entry : (u : ℕ) → u / 2048 ≡ block → M u ≡ absent → along R.from (adds R s block) n u absent ≡ ended R n u absent
  unfolding ended
  new-entry u h e = go (stays_in s (u % 2048)) refl
    where
      gone : (b : Bool) → not b ≡ false → b ≡ true
      gone true k = refl
      gone false k = absurd (let z : ◌≡◌ {A = ℕ} 0 1 = cc in omega arith)

      go : (b : Bool) → stays_in s (u % 2048) ≡ b → along R.from (adds R s block) n u absent ≡ along R.from (meets R) n u absent
      go true on =
          along-same R.from (adds R s block) (meets R) u
          (λ j q x. cond-true (meets R j x) x (and-true (in-block u j h q) (ap (λ (v : ℕ). stays_in s (v % 2048)) q ∙ on)))
          absent n
      go false off =
          along-id R.from (adds R s block) u absent
          (λ j q. cond-false (meets R j absent) absent (and_right (in_block block (R.from j)) (ap (λ (v : ℕ). stays_in s (v % 2048)) q ∙ off))) n
          ∙ sym (missing-absent (along R.from (meets R) n u absent) (gone (missing (along R.from (meets R) n u absent)) (sym (stays-new u h e) ∙ off)))

  held-entry : (u : ℕ) → u / 2048 ≡ block → (e : Entry) → missing e ≡ false → M u ≡ e
      → along R.from (adds R s block) n u (along R.from (sweeps R.allowed R.from block) n u e) ≡ ended R n u e
  held-entry u h e k q =
      let off : stays_in s (u % 2048) ≡ false = held-off u h (ap missing q ∙ k) in
      let x = along R.from (sweeps R.allowed R.from block) n u e in
      along-id R.from (adds R s block) u x
      (λ j p. cond-false (meets R j x) x (and_right (in_block block (R.from j)) (ap (λ (v : ℕ). stays_in s (v % 2048)) p ∙ off))) n
      ∙ along-same R.from (sweeps R.allowed R.from block) (λ j. swept R.allowed) u (λ j p y. cond-true (swept R.allowed y) y (in-block u j h p)) e n
      ∙ sym (ended_held R n u e k)

  block-entry : (u : ℕ) (e : Entry) → M u ≡ e
      → along R.from (adds R s block) n u (along R.from (sweeps R.allowed R.from block) n u e) ≡ cond (in_block block u) (ended R n u e) e
  unfolding missing
  block-entry u e h = go (eqb (u / 2048) block) (test (u / 2048) block) e h
    where
      go : (b : Bool) → Test (u / 2048) block b → (e : Entry) → M u ≡ e
          → along R.from (adds R s block) n u (along R.from (sweeps R.allowed R.from block) n u e) ≡ cond b (ended R n u e) e
      go false (other ne) e h =
          ap (along R.from (adds R s block) n u) (along-id R.from (sweeps R.allowed R.from block) u e (λ j q. cond-false (swept R.allowed e) e (out j q)) n)
          ∙ along-id R.from (adds R s block) u e (λ j q. cond-false (meets R j e) e (and_left (stays_in s (R.from j % 2048)) (out j q))) n
        where
          out : (j : ℕ) → R.from j ≡ u → in_block block (R.from j) ≡ false
          out j q = ap (in_block block) q ∙ ne_eqb (u / 2048) block ne
      go true (same eq) absent h =
          ap (along R.from (adds R s block) n u) (along-id R.from (sweeps R.allowed R.from block) u absent (λ j q. swept_none R.allowed (in_block block (R.from j))) n)
          ∙ new-entry u eq h
      go true (same eq) (known x y r) h = held-entry u eq (known x y r) refl h

  -- What is noted, swept and added is the block of the step.
  pub block-done : goes R.from (adds R s block) n (goes R.from (sweeps R.allowed R.from block) n M) ≡ over R n block M
  unfolding over
  block-done =
      fun_ext (λ u.
      goes-along R.from (adds R s block) n (goes R.from (sweeps R.allowed R.from block) n M) u
      ∙ ap (along R.from (adds R s block) n u) (goes-along R.from (sweeps R.allowed R.from block) n M u)
      ∙ block-entry u (M u) refl)

  -- Who stays is not held, also when the block has been swept.
  pub block-news : News R n block s (goes R.from (sweeps R.allowed R.from block) n M)
  block-news u both = (gone, (fresh-all u h none).0, stays_on R block M u h none n (fresh-all u h none).0 (fresh-all u h none).1 some)
    where
      h : u / 2048 ≡ block
      h = eqb-true (u / 2048) block (and_both (in_block block u) (stays_in s (u % 2048)) both).0

      on : stays_in s (u % 2048) ≡ true
      on = (and_both (in_block block u) (stays_in s (u % 2048)) both).1

      some : noting R block M n (u % 2048) ≢ 0
      some z = never on (stays-is u ∙ ap not (eq-eqb (noting R block M n (u % 2048)) 0 z))

      none : M u ≡ absent
      none = ⊎_elim (λ (t : missing (M u) ≡ true). missing-absent (M u) t) (λ (t : missing (M u) ≡ false). never on (held-off u h t)) (split (missing (M u)))

      gone : goes R.from (sweeps R.allowed R.from block) n M u ≡ absent
      gone = goes-along R.from (sweeps R.allowed R.from block) n M u ∙ ap (along R.from (sweeps R.allowed R.from block) n u) none
          ∙ along-id R.from (sweeps R.allowed R.from block) u absent (λ j q. swept_none R.allowed (in_block block (R.from j))) n

-- ---- additions never take an entry away
module _ (R : Row) (n : ℕ) (on : ℕ → Bool) (m : Map) (news : Newcomers R n on m) where
  -- who is added is met by each of its records
  adds-meets : (u : ℕ) → on u ≡ true → (j : ℕ) → along R.from (adds_if R on) j u (m u) ≡ along R.from (meets R) j u absent
  adds-meets u h j =
      ap (along R.from (adds_if R on) j u) (news u h).0
      ∙ along-same R.from (adds_if R on) (meets R) u (λ i q x. cond-true (meets R i x) x (ap on q ∙ h)) absent j

  -- it has an entry after each of them
  pub added-one : (u : ℕ) → on u ≡ true → (j : ℕ) → j < n → R.from j ≡ u → one (meets R j (along R.from (adds_if R on) j u (m u))) ≡ 1
  unfolding along
  added-one u h j l q =
      ap (λ (e : Entry). one (meets R j e)) (adds-meets u h j)
      ∙ sym (ap one (cond-true (meets R j (along R.from (meets R) j u absent)) (along R.from (meets R) j u absent) (eq-eqb (R.from j) u q)))
      ∙ (news u h).2 j l q

  adds-step : (u j : ℕ) → j < n → one (along R.from (adds_if R on) j u (m u)) ≤ one (along R.from (adds_if R on) (suc j) u (m u))
  unfolding along
  adds-step u j l = go (eqb (R.from j) u) (test (R.from j) u) (on (R.from j)) refl
    where
      go : (b : Bool) → Test (R.from j) u b → (c : Bool) → on (R.from j) ≡ c
          → one (along R.from (adds_if R on) j u (m u))
          ≤ one (cond b (cond c (meets R j (along R.from (adds_if R on) j u (m u))) (along R.from (adds_if R on) j u (m u))) (along R.from (adds_if R on) j u (m u)))
      go true (same q) true k = omega (arith, added-one u (ap on (sym q) ∙ k) j l q, one-most (along R.from (adds_if R on) j u (m u)))
      go true (same q) false k = omega arith
      go false (other q) c k = omega arith

  adds-grow : (u i j : ℕ) → i ≤ j → j ≤ n → one (along R.from (adds_if R on) i u (m u)) ≤ one (along R.from (adds_if R on) j u (m u))
  adds-grow u i zero h k = let q : i ≡ 0 = omega arith in rw q (omega arith)
  adds-grow u i (suc j) h k =
      ⊎_elim (λ (q : i ≡ suc j). rw q (omega arith)) (λ (l : i < suc j). omega (arith, adds-grow u i j (omega arith) (omega arith), adds-step u j (omega arith))) (same-or-below h)

  pub adds-size : (i j : ℕ) → i ≤ j → j ≤ n → size (goes R.from (adds_if R on) i m) ≤ size (goes R.from (adds_if R on) j m)
  unfolding size
  adds-size i j h k =
      size-le 65536 (goes R.from (adds_if R on) i m) (goes R.from (adds_if R on) j m)
      (λ u l. rw (goes-along R.from (adds_if R on) i m u, goes-along R.from (adds_if R on) j m u) (adds-grow u i j h k))
