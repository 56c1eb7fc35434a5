-- What the definitions count with. Assumes nothing.
use Rattle.std.specs.Prelude.{◌≡◌, ◌⊎◌, Bool, cond, List, [], ◌∷◌, ◌++◌, ℕ, zero, suc, ◌+◌, min}

-- "None": FFFFFFFF, which no figure reaches
abbrev pub none : ℕ
none = 4294967295

-- the least of f 0 .. f (n - 1); none if no number among them is below it
unfoldable pub least : (ℕ → ℕ) → ℕ → ℕ
least f zero = none
least f (suc n) = min (least f n) (f n)

-- a test as a number, and how many of 0 .. n - 1 pass one
abbrev pub one : Bool → ℕ
one b = cond b 1 0

unfoldable pub count : (ℕ → Bool) → ℕ → ℕ
count p zero = 0
count p (suc n) = count p n + one (p n)

-- f 0 ++ f 1 ++ .. ++ f (n - 1)
unfoldable pub joined {ℓ} : {A : Type ℓ} → (ℕ → List A) → ℕ → List A
joined f zero = []
joined f (suc n) = joined f n ++ f n

-- a is in the list
abbrev pub In : {A : Type 0} → A → List A → Type 0
In a [] = ⊥
In a (x ∷ xs) = (a ≡ x) ⊎ In a xs
