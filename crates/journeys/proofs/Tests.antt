-- Laws of tests. A test that holds is an equation `b ≡ true`, as a branch of the code gives it. Assumes nothing.
use mathlib.Core.Path.{◌≡◌, refl, sym}
use mathlib.Core.Logic.{◌⊎◌, inl, inr, ◌≢◌}
use mathlib.Core.Bool.{Bool, true, false, cond, ◌&&◌, ◌||◌}
use Prim.Native.Nat.{ℕ, suc, ◌≤◌, ◌<◌}
use native.Mathlib.Nat.{eq-or-lt_of_le, le_of_suc-le-suc}
use native.Mathlib.Decide.{dec_le}
use native.Mathlib.Omega.{arith}
use lib.Dec.{eqb, leb}
use borrow.Author.Tests.{eqb-true, eqb-false, leb-true, leb-false}

pub split : (b : Bool) → (b ≡ true) ⊎ (b ≡ false)
split true = inl refl
split false = inr refl

pub never {ℓ} : {A : Type ℓ} {b : Bool} → b ≡ true → b ≡ false → A
never {A} {b} p q = absurd (let z : ◌≡◌ {A = ℕ} 0 1 = cc in omega arith)

pub and_both : (a b : Bool) → a && b ≡ true → (a ≡ true) × (b ≡ true)
and_both true b e = (refl, e)
and_both false b e = never e refl

pub and-true : {a b : Bool} → a ≡ true → b ≡ true → a && b ≡ true
and-true p q = cc

pub and_left : {a : Bool} (b : Bool) → a ≡ false → a && b ≡ false
and_left b p = cc

pub and_right : (a : Bool) {b : Bool} → b ≡ false → a && b ≡ false
and_right true p = p
and_right false p = refl

pub or_cases : (a b : Bool) → a || b ≡ true → (a ≡ true) ⊎ (b ≡ true)
or_cases true b e = inl refl
or_cases false b e = inr e

pub or_left : {a : Bool} (b : Bool) → a ≡ true → a || b ≡ true
or_left b p = cc

pub or_right : (a : Bool) {b : Bool} → b ≡ true → a || b ≡ true
or_right true p = refl
or_right false p = p

pub or-none : (a b : Bool) → a || b ≡ false → (a ≡ false) × (b ≡ false)
or-none true b e = never refl e
or-none false b e = (refl, e)

pub cond-true {ℓ} : {A : Type ℓ} {b : Bool} (x y : A) → b ≡ true → cond b x y ≡ x
cond-true x y e = cc

pub cond-false {ℓ} : {A : Type ℓ} {b : Bool} (x y : A) → b ≡ false → cond b x y ≡ y
cond-false x y e = cc

-- two tests that hold together are one
pub same_test : (a b : Bool) → (a ≡ true → b ≡ true) → (b ≡ true → a ≡ true) → a ≡ b
same_test true b f g = sym (f refl)
same_test false true f g = g refl
same_test false false f g = refl

-- what a test of two numbers says, by its value
pub data Test (a b : ℕ) : Bool → Type 0 where
  same : a ≡ b → Test a b true
  other : a ≢ b → Test a b false

pub test : (a b : ℕ) → Test a b (eqb a b)
test a b = go (eqb a b) refl
  where
    go : (t : Bool) → eqb a b ≡ t → Test a b t
    go true e = same (eqb-true a b e)
    go false e = other (eqb-false a b e)

-- two numbers compared
pub le-or-lt : (a b : ℕ) → (a ≤ b) ⊎ (b < a)
le-or-lt a b = go (dec_le a b)
  where
    go : Dec (a ≤ b) → (a ≤ b) ⊎ (b < a)
    go (yes h) = inl h
    go (no h) = inr (omega arith)

pub same-or-below : {i j : ℕ} → i ≤ j → (i ≡ j) ⊎ (i < j)
same-or-below h = eq-or-lt_of_le h

pub last-or-below : {i n : ℕ} → i < suc n → (i ≡ n) ⊎ (i < n)
last-or-below h = same-or-below (le_of_suc-le-suc h)

pub data TestLe (a b : ℕ) : Bool → Type 0 where
  fits : a ≤ b → TestLe a b true
  over : b < a → TestLe a b false

pub test_le : (a b : ℕ) → TestLe a b (leb a b)
test_le a b = go (leb a b) refl
  where
    go : (t : Bool) → leb a b ≡ t → TestLe a b t
    go true e = fits (leb-true a b e)
    go false e = over (leb-false a b e)
