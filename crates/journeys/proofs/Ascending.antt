-- Ascending lists: one with given members is the only one, and of two that hold what comes before theirs the shorter begins the longer. Assumes nothing.
use mathlib.Core.Path.{◌≡◌, refl, sym, ap, ◌∙◌}
use mathlib.Core.Logic.{inl, inr}
use mathlib.Core.List.{List, [], ◌∷◌, ◌++◌, append-nil}
use Prim.Native.Nat.{ℕ, ◌≤◌, ◌<◌}
use native.Mathlib.Decide.{dec_lt}
use native.Mathlib.Omega.{arith}
use lib.ListN.{length, length-append}
use Rattle.journeys.specs.Counting.{In}

-- ascending by a figure
abbrev pub Asc : {A : Type 0} → (A → ℕ) → List A → Type 0
Asc {A} k [] = Unit {0}
Asc {A} k (x ∷ xs) = ((y : A) → In y xs → k x < k y) × Asc k xs

pub prefix : {A : Type 0} (k : A → ℕ) (xs ys : List A) → Asc k xs → Asc k ys → length xs ≤ length ys
    → ((x y : A) → In x xs → In y ys → k x ≡ k y → x ≡ y)
    → ((x y : A) → In x xs → In y ys → k y < k x → In y xs)
    → ((x y : A) → In x xs → In y ys → k x < k y → In x ys)
    → (zs : List A) × (ys ≡ xs ++ zs)
prefix k [] ys ax ay l inj dx dy = (ys, refl)
prefix k (x ∷ xs) [] ax ay l inj dx dy = absurd (omega arith)
prefix {A} k (x ∷ xs) (y ∷ ys) ax ay l inj dx dy =
    let t : (zs : List A) × (ys ≡ xs ++ zs) =
    prefix k xs ys ax.1 ay.1 (omega arith) (λ a b i j. inj a b (inr i) (inr j)) (λ a b i j h. in-x b j (dx a b (inr i) (inr j) h))
    (λ a b i j h. in-y a i (dy a b (inr i) (inr j) h)) in
    (t.0, cc (t.1, p))
  where
    from-y : k x < k y → In x (y ∷ ys) → x ≡ y
    from-y q (inl e) = e
    from-y q (inr i) = absurd (omega (arith, ay.0 x i))

    from-x : k y < k x → In y (x ∷ xs) → x ≡ y
    from-x q (inl e) = sym e
    from-x q (inr i) = absurd (omega (arith, ax.0 y i))

    heads : Dec (k x < k y) → Dec (k y < k x) → x ≡ y
    heads (yes q) r = from-y q (dy x y (inl refl) (inl refl) q)
    heads (no q) (yes r) = from-x r (dx x y (inl refl) (inl refl) r)
    heads (no q) (no r) = inj x y (inl refl) (inl refl) (omega arith)

    p : x ≡ y
    p = heads (dec_lt (k x) (k y)) (dec_lt (k y) (k x))

    in-x : (b : A) → In b ys → In b (x ∷ xs) → In b xs
    in-x b j (inl e) = absurd (omega (arith, ay.0 b j, ap k e, ap k p))
    in-x b j (inr i) = i

    in-y : (a : A) → In a xs → In a (y ∷ ys) → In a ys
    in-y a i (inl e) = absurd (omega (arith, ax.0 a i, ap k e, ap k p))
    in-y a i (inr j) = j

pub sub-length : {A : Type 0} (k : A → ℕ) (ys xs : List A) → Asc k ys → Asc k xs → ((x : A) → In x xs → In x ys) → length xs ≤ length ys
sub-length k [] [] ay ax h = omega arith
sub-length k [] (x ∷ xs) ay ax h = absurd (h x (inl refl))
sub-length k (y ∷ ys) [] ay ax h = omega arith
sub-length {A} k (y ∷ ys) (x ∷ xs) ay ax h = go (λ zs az s. sub-length k ys zs ay.1 az s) (h x (inl refl))
  where
    later : (a : A) → k y < k a → In a (y ∷ ys) → In a ys
    later a l (inl e) = absurd (omega (arith, ap k e))
    later a l (inr i) = i

    after-x : k y < k x → (a : A) → In a (x ∷ xs) → k y < k a
    after-x l a (inl e) = rw e l
    after-x l a (inr i) = omega (arith, ax.0 a i)

    go : ((zs : List A) → Asc k zs → ((z : A) → In z zs → In z ys) → length zs ≤ length ys) → In x (y ∷ ys) → length (x ∷ xs) ≤ length (y ∷ ys)
    go ih (inl e) = omega (arith, ih xs ax.1 (λ a i. later a (omega (arith, ax.0 a i, ap k e)) (h a (inr i))))
    go ih (inr i) = omega (arith, ih (x ∷ xs) ax (λ a j. later a (after-x (ay.0 x i) a j) (h a j)))

-- a beginning that is as long as the whole is the whole
pub prefix-all : {A : Type 0} (xs ys : List A) → (zs : List A) × (ys ≡ xs ++ zs) → length ys ≤ length xs → xs ≡ ys
prefix-all {A} xs ys z h = go z.0 z.1
  where
    go : (zs : List A) → ys ≡ xs ++ zs → xs ≡ ys
    go [] e = cc (append-nil xs)
    go (w ∷ zs) e = absurd (omega (arith, simp length-append at (ap length e)))

asc-inj : {A : Type 0} (k : A → ℕ) (xs : List A) → Asc k xs → (x y : A) → In x xs → In y xs → k x ≡ k y → x ≡ y
asc-inj k [] h x y i j e = absurd i
asc-inj k (a ∷ xs) h x y (inl p) (inl q) e = p ∙ sym q
asc-inj k (a ∷ xs) h x y (inl p) (inr j) e = absurd (omega (arith, h.0 y j, ap k p))
asc-inj k (a ∷ xs) h x y (inr i) (inl q) e = absurd (omega (arith, h.0 x i, ap k q))
asc-inj k (a ∷ xs) h x y (inr i) (inr j) e = asc-inj k xs h.1 x y i j e

-- two ascending lists with the same members are one
pub asc-same : {A : Type 0} (k : A → ℕ) (xs ys : List A) → Asc k xs → Asc k ys → ((x : A) → In x xs → In x ys) → ((y : A) → In y ys → In y xs) → xs ≡ ys
asc-same k xs ys ax ay f g =
    prefix-all xs ys
    (prefix k xs ys ax ay (sub-length k ys xs ay ax f) (λ x y i j e. asc-inj k ys ay x y (f x i) j e) (λ x y i j h. g y j) (λ x y i j h. f x i))
    (sub-length k xs ys ax ay g)
