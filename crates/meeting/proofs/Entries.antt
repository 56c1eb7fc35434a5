-- One record and one entry: what it leaves of the records that may still be passed, and whether the vertex has an entry. Assumes nothing.
use mathlib.Core.Path.{◌≡◌, refl, sym, ◌∙◌}
use mathlib.Core.Logic.{◌≢◌, ⊎_elim}
use mathlib.Core.Bool.{Bool, true, false, not, cond}
use Prim.Native.Nat.{ℕ, zero, suc, ◌+◌, ◌-◌, ◌≤◌, ◌<◌, min}
use native.Mathlib.Omega.{arith}
use lib.Dec.{eqb, ltb}
use borrow.Author.Tests.{le-ltb, ne_eqb}
use Rattle.journeys.specs.Counting as counting
use Rattle.journeys.proofs.Tests.{never, le-or-lt}
use Rattle.worktable.specs.Map.{Entry, absent, known, one, touched, spent, swept, remaining_of}
use Rattle.worktable.proofs.MapLaws.{absent-known, spent_some, swept-spent, swept_kept}
use Rattle.meeting.specs.Passing.{missing, entered, met, futile, left}

pub missing-absent : (e : Entry) → missing e ≡ true → e ≡ absent
unfolding missing
missing-absent absent h = refl
missing-absent (known d s n) h = absurd (let z : ◌≡◌ {A = ℕ} 0 1 = cc in omega arith)

pub absent-missing : (e : Entry) → e ≡ absent → missing e ≡ true
unfolding missing
absent-missing e h = rw h

pub held-missing : (e : Entry) → e ≢ absent → missing e ≡ false
unfolding missing
held-missing absent h = absurd (h refl)
held-missing (known d s n) h = refl

pub missing-held : (e : Entry) → missing e ≡ false → e ≢ absent
unfolding missing
missing-held absent h z = let z : ◌≡◌ {A = ℕ} 0 1 = cc in omega arith
missing-held (known d s n) h z = absent-known (sym z)

pub one-missing : (e : Entry) → one e ≡ 1 → missing e ≡ false
unfolding one missing
one-missing absent h = absurd (omega arith)
one-missing (known d s n) h = refl

pub missing-one : (e : Entry) → missing e ≡ false → one e ≡ 1
unfolding one missing
missing-one absent h = absurd (let z : ◌≡◌ {A = ℕ} 0 1 = cc in omega arith)
missing-one (known d s n) h = refl

pub one-most : (e : Entry) → one e ≤ 1
unfolding one
one-most absent = omega arith
one-most (known d s n) = omega arith

pub one-absent : (e : Entry) → e ≡ absent → one e ≡ 0
unfolding one
one-absent e h = rw h

-- ---- what may still be passed
pub left-absent : (d : ℕ) (e : Entry) → e ≡ absent → left d e ≡ d
unfolding left
left-absent d e h = rw h

pub left-known : (d : ℕ) (e : Entry) → e ≢ absent → left d e ≡ remaining_of e
unfolding left remaining_of
left-known d absent h = absurd (h refl)
left-known d (known x s n) h = refl

-- ---- what is entered, and what goes
pub entered-new : (D b d : ℕ) (e : Entry) → e ≡ absent → swept D (known b 0 (d - 1)) ≡ entered D b d e
unfolding entered
entered-new D b d e h = rw h

pub entered-held : (D b d : ℕ) (e : Entry) → e ≢ absent → entered D b d e ≡ swept D e
unfolding entered
entered-held D b d absent h = absurd (h refl)
entered-held D b d (known x s n) h = refl

pub entered-kept : (D b d : ℕ) (e : Entry) → e ≢ absent → spent D e ≡ false → e ≡ entered D b d e
entered-kept D b d e h k = sym (entered-held D b d e h ∙ swept_kept D e k)

pub entered-spent : (D b d : ℕ) (e : Entry) → e ≢ absent → spent D e ≡ true → absent ≡ entered D b d e
entered-spent D b d e h k = sym (entered-held D b d e h ∙ swept-spent D e k)

pub met-new : (D b d : ℕ) (e : Entry) → e ≡ absent → met D b d e ≡ swept D (known b 0 (d - 1))
unfolding met entered touched
met-new D b d e h = rw h

-- one record takes one off at most
swept-left : (D d e s n : ℕ) → n ≤ suc (left d (swept D (known e s (n - 1))))
unfolding left
swept-left D d e s n = go (spent D (known e s (n - 1))) refl
  where
    go : (t : Bool) → spent D (known e s (n - 1)) ≡ t → n ≤ suc (left d (swept D (known e s (n - 1))))
    go true q = rw (swept-spent D (known e s (n - 1)) q) (⊎_elim (λ (h : n - 1 ≤ 0). omega arith) (λ (h : 0 < n - 1). never q (spent_some D e s (n - 1) (λ z. let y : ⊥ = omega arith in y))) (le-or-lt (n - 1) 0))
    go false q = rw (swept_kept D (known e s (n - 1)) q) (omega arith)

pub met-left : (D b d : ℕ) (e : Entry) → left d e ≤ suc (left d (met D b d e))
unfolding left met entered touched
met-left D b d absent = swept-left D d b 0 d
met-left D b d (known x zero n) = swept-left D d (min b x) 0 n
met-left D b d (known x (suc s) n) = swept-left D d x (suc s) n

-- a record that is futile for a new vertex brings no entry, and no other brings more than one
pub met-one : (D b d : ℕ) (e : Entry) → one (met D b d e) ≤ one e + counting.one (not (futile D b d))
unfolding met entered touched swept one
met-one D b d absent = go (spent D (known b 0 (d - 1)))
  where
    go : (t : Bool) → one (cond t absent (known b 0 (d - 1))) ≤ 0 + counting.one (not t)
    go true = omega arith
    go false = omega arith
met-one D b d (known x zero n) = omega (arith, one-most (swept D (known (min b x) 0 (n - 1))))
met-one D b d (known x (suc s) n) = omega (arith, one-most (swept D (known x (suc s) (n - 1))))

-- one record at most, told in two ways
pub few-is : (d : ℕ) → ltb d 2 ≡ eqb (d - 1) 0
few-is zero = refl
few-is (suc zero) = refl
few-is (suc (suc d)) = le-ltb (suc (suc d)) 2 (omega arith) ∙ sym (ne_eqb (suc (suc d) - 1) 0 (λ e. absurd (omega arith)))
