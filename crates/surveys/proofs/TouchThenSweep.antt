-- An entry that is touched by all records of the row, and swept afterwards, is as passing leaves it. Assumes nothing.
use mathlib.Core.Path.{◌≡◌, refl, sym, ap, ◌∙◌}
use mathlib.Core.Bool.{Bool, true, false, cond}
use Prim.Native.Nat.{ℕ, zero, suc, ◌+◌, ◌-◌, ◌≤◌, ◌<◌}
use native.Mathlib.Omega.{arith}
use lib.Dec.{eqb}
use Rattle.journeys.specs.Counting.{count}
use Rattle.passing.specs.Row.{Row}
use Rattle.worktable.specs.Map.{Entry, absent, known, touched, spent, swept}
use Rattle.worktable.proofs.MapLaws.{spent_some, swept-spent, swept_kept}
use Rattle.meeting.specs.Passing.{missing, entered, met, along, meets, left, leaving}
use Rattle.meeting.proofs.Entries.{missing-held, entered-held}
use Rattle.surveys.specs.Survey.{touches}

-- ---- one record
pub touched-left : (b d : ℕ) (e : Entry) → left d e ≤ suc (left d (touched b e))
unfolding left touched
touched-left b d absent = omega arith
touched-left b d (known x zero n) = omega arith
touched-left b d (known x (suc s) n) = omega arith

touched-less : (b d : ℕ) (e : Entry) → missing e ≡ false → left d (touched b e) ≡ left d e - 1
unfolding left touched missing
touched-less b d absent h = absurd (let z : ◌≡◌ {A = ℕ} 0 1 = cc in omega arith)
touched-less b d (known x zero n) h = refl
touched-less b d (known x (suc s) n) h = refl

pub touched-missing : (b : ℕ) (e : Entry) → missing (touched b e) ≡ missing e
unfolding touched missing
touched-missing b absent = refl
touched-missing b (known x zero n) = refl
touched-missing b (known x (suc s) n) = refl

pub met-swept : (D b d : ℕ) (e : Entry) → missing e ≡ false → met D b d e ≡ swept D (touched b e)
unfolding met
met-swept D b d e h = entered-held D b d (touched b e) (missing-held (touched b e) (touched-missing b e ∙ h))

swept-some : (D d : ℕ) (e : Entry) → missing e ≡ false → 0 < left d e → swept D e ≡ e
unfolding left missing
swept-some D d absent h l = absurd (let z : ◌≡◌ {A = ℕ} 0 1 = cc in omega arith)
swept-some D d (known x s n) h l = swept_kept D (known x s n) (spent_some D x s n (λ z. let a : ⊥ = omega arith in a))

swept-twice : (D : ℕ) (e : Entry) → swept D (swept D e) ≡ swept D e
unfolding swept spent
swept-twice D e = go (spent D e) refl
  where
    go : (b : Bool) → spent D e ≡ b → swept D (swept D e) ≡ swept D e
    go true q = ap (swept D) (swept-spent D e q) ∙ sym (swept-spent D e q)
    go false q = ap (swept D) (swept_kept D e q)

-- ---- the records of one vertex
module _ (R : Row) (u d : ℕ) where
  pub touch-missing : (e : Entry) (j : ℕ) → missing (along R.from (touches R) j u e) ≡ missing e
  unfolding along
  touch-missing e zero = refl
  touch-missing e (suc j) = go (eqb (R.from j) u) (touch-missing e j)
    where
      go : (b : Bool) → missing (along R.from (touches R) j u e) ≡ missing e
          → missing (cond b (touches R j (along R.from (touches R) j u e)) (along R.from (touches R) j u e)) ≡ missing e
      go true ih = touched-missing (R.offer j) (along R.from (touches R) j u e) ∙ ih
      go false ih = ih

  pub touch-left : (e : Entry) → missing e ≡ false → (j : ℕ) → left d (along R.from (touches R) j u e) ≡ left d e - leaving R u j
  unfolding along count
  touch-left e h zero = omega arith
  touch-left e h (suc j) = go (eqb (R.from j) u) (touch-left e h j)
    where
      go : (b : Bool) → left d (along R.from (touches R) j u e) ≡ left d e - leaving R u j
          → left d (cond b (touches R j (along R.from (touches R) j u e)) (along R.from (touches R) j u e)) ≡ left d e - (leaving R u j + cond b 1 0)
      go true ih = omega (arith, touched-less (R.offer j) d (along R.from (touches R) j u e) (touch-missing e j ∙ h))
      go false ih = omega arith

  -- As long as something remains, passing is touching.
  pub same-until : (e : Entry) → missing e ≡ false → (j : ℕ) → leaving R u j < left d e → along R.from (meets R) j u e ≡ along R.from (touches R) j u e
  unfolding along count
  same-until e h zero l = refl
  same-until e h (suc j) l = go (eqb (R.from j) u) l (λ q. same-until e h j q)
    where
      go : (b : Bool) → leaving R u j + cond b 1 0 < left d e → (leaving R u j < left d e → along R.from (meets R) j u e ≡ along R.from (touches R) j u e)
          → cond b (meets R j (along R.from (meets R) j u e)) (along R.from (meets R) j u e)
          ≡ cond b (touches R j (along R.from (touches R) j u e)) (along R.from (touches R) j u e)
      go true q ih =
          let x = along R.from (touches R) j u e in
          ap (meets R j) (ih (omega arith))
          ∙ met-swept R.allowed (R.offer j) (R.departing (R.from j)) x (touch-missing e j ∙ h)
          ∙ swept-some R.allowed d (touched (R.offer j) x) (touched-missing (R.offer j) x ∙ touch-missing e j ∙ h)
          (omega (arith, touched-less (R.offer j) d x (touch-missing e j ∙ h), touch-left e h j))
      go false q ih = ih (omega arith)

  swept-along : (e : Entry) (j : ℕ) → swept R.allowed (along R.from (λ i. swept R.allowed) j u e) ≡ swept R.allowed e
  unfolding along
  swept-along e zero = refl
  swept-along e (suc j) = go (eqb (R.from j) u) (swept-along e j)
    where
      go : (b : Bool) → swept R.allowed (along R.from (λ i. swept R.allowed) j u e) ≡ swept R.allowed e
          → swept R.allowed (cond b (swept R.allowed (along R.from (λ i. swept R.allowed) j u e)) (along R.from (λ i. swept R.allowed) j u e)) ≡ swept R.allowed e
      go true ih = swept-twice R.allowed (along R.from (λ i. swept R.allowed) j u e) ∙ ih
      go false ih = ih

  -- An entry that is touched by all records of the run, and then swept, is as passing leaves it.
  pub touch-sweep : (e : Entry) → missing e ≡ false → (n : ℕ) → leaving R u n ≤ left d e
      → along R.from (λ i. swept R.allowed) n u (along R.from (touches R) n u e) ≡ along R.from (meets R) n u e
  unfolding along count
  touch-sweep e h zero l = refl
  touch-sweep e h (suc j) l = go (eqb (R.from j) u) l (λ q. touch-sweep e h j q)
    where
      go : (b : Bool) → leaving R u j + cond b 1 0 ≤ left d e
          → (leaving R u j ≤ left d e → along R.from (λ i. swept R.allowed) j u (along R.from (touches R) j u e) ≡ along R.from (meets R) j u e)
          → cond b (swept R.allowed (along R.from (λ i. swept R.allowed) j u (cond b (touches R j (along R.from (touches R) j u e)) (along R.from (touches R) j u e))))
          (along R.from (λ i. swept R.allowed) j u (cond b (touches R j (along R.from (touches R) j u e)) (along R.from (touches R) j u e)))
          ≡ cond b (meets R j (along R.from (meets R) j u e)) (along R.from (meets R) j u e)
      go true q ih =
          let x = along R.from (touches R) j u e in
          swept-along (touches R j x) j
          ∙ sym (ap (meets R j) (same-until e h j (omega arith)) ∙ met-swept R.allowed (R.offer j) (R.departing (R.from j)) x (touch-missing e j ∙ h))
      go false q ih = ih (omega arith)
