-- Laws of `least`, `count`, `joined` and `In`. Assumes nothing.
use mathlib.Core.Path.{◌≡◌, refl, sym, ap, ap₂, ◌∙◌, subst}
use mathlib.Core.Logic.{◌⊎◌, inl, inr, ⊎_elim}
use mathlib.Core.Bool.{Bool, true, false}
use mathlib.Core.List.{List, [], ◌∷◌, ◌++◌, flat_map, append-nil, append_assoc}
use Prim.Native.Nat.{ℕ, zero, suc, ◌+◌, ◌*◌, ◌≤◌, ◌<◌, min}
use native.Mathlib.Omega.{arith}
use lib.ListN.{length, get_or, length-append, get_or-append}
use lib.Seq.{get_or_at}
use Rattle.journeys.specs.Counting.{none, least, one, count, joined, In}
use Rattle.journeys.proofs.Tests.{split, le-or-lt, same-or-below, last-or-below}

-- what holds below n and at n holds below suc n
pub below_suc : {P : ℕ → Type 0} (n : ℕ) → ((i : ℕ) → i < n → P i) → P n → (i : ℕ) → i < suc n → P i
below_suc {P} n h p i l = ⊎_elim (λ (e : i ≡ n). subst P (sym e) p) (λ (k : i < n). h i k) (last-or-below l)

pub least-none : (f : ℕ → ℕ) (n : ℕ) → least f n ≤ none
unfolding least
least-none f zero = omega arith
least-none f (suc n) = omega (arith, least-none f n)

pub least-empty : (f : ℕ → ℕ) → least f 0 ≡ none
unfolding least
least-empty f = refl

pub least-le : (f : ℕ → ℕ) (n i : ℕ) → i < n → least f n ≤ f i
unfolding least
least-le f zero i h = absurd (omega arith)
least-le f (suc n) i h = below_suc {P = λ i. least f (suc n) ≤ f i} n (λ i l. omega (arith, least-le f n i l)) (omega arith) i h

pub least-is : (f : ℕ → ℕ) (n b : ℕ) → b < none → least f n ≤ b → (i : ℕ) × (i < n) × (f i ≤ b)
unfolding least
least-is f zero b l h = absurd (omega arith)
least-is f (suc n) b l h =
    ⊎_elim (λ (q : least f n ≤ b). let r = least-is f n b l q in (r.0, omega (arith, r.1), r.2))
    (λ (q : b < least f n). (n, omega arith, omega arith))
    (le-or-lt (least f n) b)

cap : (x y : ℕ) → x ≤ none → min x y ≡ min x (min none y)
cap x y h = omega arith

min-swap : (a b c d : ℕ) → min (min a b) (min c d) ≡ min (min a c) (min b d)
min-swap a b c d = omega arith

-- offers that are one by one the lesser of two, where none and all above it count as none
pub least-min : (f g h : ℕ → ℕ) (n : ℕ) → ((i : ℕ) → i < n → min none (f i) ≡ min none (min (g i) (h i))) → least f n ≡ min (least g n) (least h n)
unfolding least
least-min f g h zero e = omega arith
least-min f g h (suc n) e =
    cap (least f n) (f n) (least-none f n)
    ∙ ap₂ min (least-min f g h n (λ i l. e i (omega arith))) (e n (omega arith))
    ∙ sym (min-swap (least g n) (g n) (least h n) (h n) ∙ cap (min (least g n) (least h n)) (min (g n) (h n)) (omega (arith, least-none g n)))

-- what makes no offer may be left out
pub least_skip : (f : ℕ → ℕ) (i j : ℕ) → i ≤ j → ((e : ℕ) → i ≤ e → e < j → none ≤ f e) → least f j ≡ least f i
unfolding least
least_skip f i zero h q = let e : i ≡ 0 = omega arith in rw e
least_skip f i (suc j) h q =
    ⊎_elim (λ (e : i ≡ suc j). rw e)
    (λ (l : i < suc j). omega (arith, least_skip f i j (omega arith) (λ k a b. q k a (omega arith)), q j (omega arith) (omega arith), least-none f j))
    (same-or-below h)

-- ---- count
pub is_one : {b : Bool} → b ≡ true → one b ≡ 1
is_one e = cc

pub is_zero : {b : Bool} → b ≡ false → one b ≡ 0
is_zero e = cc

pub one-most : (b : Bool) → one b ≤ 1
one-most true = omega arith
one-most false = omega arith

pub count_most : (p : ℕ → Bool) (n : ℕ) → count p n ≤ n
unfolding count
count_most p zero = omega arith
count_most p (suc n) = omega (arith, count_most p n, one-most (p n))

-- a test that splits in two
pub count-join : (p q r : ℕ → Bool) (n : ℕ) → ((i : ℕ) → i < n → one (p i) ≡ one (q i) + one (r i)) → count p n ≡ count q n + count r n
unfolding count
count-join p q r zero h = refl
count-join p q r (suc n) h = omega (arith, count-join p q r n (λ i l. h i (omega arith)), h n (omega arith))

pub count-mono : (p q : ℕ → Bool) (n : ℕ) → ((i : ℕ) → i < n → one (p i) ≤ one (q i)) → count p n ≤ count q n
unfolding count
count-mono p q zero h = omega arith
count-mono p q (suc n) h = omega (arith, count-mono p q n (λ i l. h i (omega arith)), h n (omega arith))

pub count_same : (p q : ℕ → Bool) (n : ℕ) → ((i : ℕ) → i < n → p i ≡ q i) → count p n ≡ count q n
unfolding count
count_same p q zero h = refl
count_same p q (suc n) h = ap₂ (λ (x : ℕ) (b : Bool). x + one b) (count_same p q n (λ i l. h i (omega arith))) (h n (omega arith))

pub some-count : (p : ℕ → Bool) (n i : ℕ) → i < n → p i ≡ true → 0 < count p n
unfolding count
some-count p zero i l e = absurd (omega arith)
some-count p (suc n) i l e =
    ⊎_elim (λ (q : i ≡ n). omega (arith, is_one (subst (λ (k : ℕ). p k ≡ true) q e)))
    (λ (k : i < n). omega (arith, some-count p n i k e))
    (last-or-below l)

pub count-some : (p : ℕ → Bool) (n : ℕ) → 0 < count p n → (i : ℕ) × (i < n) × (p i ≡ true)
unfolding count
count-some p zero h = absurd (omega arith)
count-some p (suc n) h =
    ⊎_elim (λ (e : p n ≡ true). (n, omega arith, e))
    (λ (e : p n ≡ false). let r = count-some p n (omega (arith, is_zero e)) in (r.0, omega (arith, r.1), r.2))
    (split (p n))

pub count_none : (p : ℕ → Bool) (n : ℕ) → count p n ≡ 0 → (i : ℕ) → i < n → p i ≡ false
count_none p n h i l = ⊎_elim (λ (e : p i ≡ true). absurd (let z : ⊥ = omega (arith, some-count p n i l e) in z)) (λ (e : p i ≡ false). e) (split (p i))

pub none-count : (p : ℕ → Bool) (n : ℕ) → ((i : ℕ) → i < n → p i ≡ false) → count p n ≡ 0
unfolding count
none-count p zero h = refl
none-count p (suc n) h = omega (arith, none-count p n (λ i l. h i (omega arith)), is_zero (h n (omega arith)))

pub count-all : (p : ℕ → Bool) (n : ℕ) → n ≤ count p n → (i : ℕ) → i < n → p i ≡ true
unfolding count
count-all p zero h i l = absurd (omega arith)
count-all p (suc n) h i l =
    below_suc {P = λ i. p i ≡ true} n (count-all p n (omega (arith, one-most (p n))))
    (⊎_elim (λ (e : p n ≡ true). e) (λ (e : p n ≡ false). absurd (let z : ⊥ = omega (arith, count_most p n, is_zero e) in z)) (split (p n))) i l

pub all-count : (p : ℕ → Bool) (n : ℕ) → ((i : ℕ) → i < n → p i ≡ true) → count p n ≡ n
unfolding count
all-count p zero h = refl
all-count p (suc n) h = omega (arith, all-count p n (λ i l. h i (omega arith)), is_one (h n (omega arith)))

-- what does not pass may be left out
pub count-skip : (p : ℕ → Bool) (i j : ℕ) → i ≤ j → ((e : ℕ) → i ≤ e → e < j → p e ≡ false) → count p j ≡ count p i
unfolding count
count-skip p i zero h q = let e : i ≡ 0 = omega arith in rw e
count-skip p i (suc j) h q =
    ⊎_elim (λ (e : i ≡ suc j). rw e)
    (λ (l : i < suc j). omega (arith, count-skip p i j (omega arith) (λ k a b. q k a (omega arith)), is_zero (q j (omega arith) (omega arith))))
    (same-or-below h)

pub count-grows : (p : ℕ → Bool) (i j : ℕ) → i ≤ j → count p i ≤ count p j
unfolding count
count-grows p i zero h = let e : i ≡ 0 = omega arith in rw e (omega arith)
count-grows p i (suc j) h = ⊎_elim (λ (e : i ≡ suc j). rw e (omega arith)) (λ (l : i < suc j). omega (arith, count-grows p i j (omega arith))) (same-or-below h)

-- the tests of two tables, one behind the other
pub count-append : (p : ℕ → Bool) (m n : ℕ) → count p (m + n) ≡ count p m + count (λ j. p (m + j)) n
unfolding count
count-append p m zero = omega (arith, ap (count p) (let e : m + 0 ≡ m = omega arith in e))
count-append p m (suc n) = let e : m + suc n ≡ suc (m + n) = omega arith in ap (count p) e ∙ omega (arith, count-append p m n)

-- ---- members
pub in_left : {A : Type 0} (xs ys : List A) (x : A) → In x xs → In x (xs ++ ys)
in_left [] ys x i = absurd i
in_left (a ∷ xs) ys x (inl e) = inl e
in_left (a ∷ xs) ys x (inr i) = inr (in_left xs ys x i)

pub in_right : {A : Type 0} (xs ys : List A) (x : A) → In x ys → In x (xs ++ ys)
in_right [] ys x i = i
in_right (a ∷ xs) ys x i = inr (in_right xs ys x i)

pub in-append : {A : Type 0} (xs ys : List A) (x : A) → In x (xs ++ ys) → In x xs ⊎ In x ys
in-append [] ys x i = inr i
in-append (a ∷ xs) ys x (inl e) = inl (inl e)
in-append (a ∷ xs) ys x (inr i) = go (in-append xs ys x i)
  where
    go : In x xs ⊎ In x ys → In x (a ∷ xs) ⊎ In x ys
    go (inl j) = inl (inr j)
    go (inr j) = inr j

pub in-snoc : {A : Type 0} (xs : List A) (a y : A) → In y (xs ++ a ∷ []) → In y xs ⊎ (y ≡ a)
in-snoc xs a y i = go (in-append xs (a ∷ []) y i)
  where
    go : In y xs ⊎ In y (a ∷ []) → In y xs ⊎ (y ≡ a)
    go (inl j) = inl j
    go (inr (inl e)) = inr e
    go (inr (inr x'')) = elim x'' [ ]

pub in-flat : {A B : Type 0} (f : A → List B) (l : List A) (a : A) (b : B) → In a l → In b (f a) → In b (flat_map f l)
unfolding flat_map
in-flat f [] a b i j = absurd i
in-flat f (x ∷ l) a b (inl e) j = in_left (f x) (flat_map f l) b (subst (λ y. In b (f y)) e j)
in-flat f (x ∷ l) a b (inr i) j = in_right (f x) (flat_map f l) b (in-flat f l a b i j)

pub flat_in : {A B : Type 0} (f : A → List B) (l : List A) (b : B) → In b (flat_map f l) → (a : A) × In a l × In b (f a)
unfolding flat_map
flat_in f [] b i = absurd i
flat_in f (x ∷ l) b i =
    ⊎_elim (λ j. (x, inl refl, j)) (λ j. let r = flat_in f l b j in (r.0, inr r.1, r.2)) (in-append (f x) (flat_map f l) b i)

pub in-joined : {A : Type 0} (f : ℕ → List A) (n i : ℕ) (a : A) → i < n → In a (f i) → In a (joined f n)
unfolding joined
in-joined f zero i a l j = absurd (omega arith)
in-joined f (suc n) i a l j =
    ⊎_elim (λ (e : i ≡ n). in_right (joined f n) (f n) a (subst (λ (k : ℕ). In a (f k)) e j))
    (λ (k : i < n). in_left (joined f n) (f n) a (in-joined f n i a k j))
    (last-or-below l)

pub joined_in : {A : Type 0} (f : ℕ → List A) (n : ℕ) (a : A) → In a (joined f n) → (i : ℕ) × (i < n) × In a (f i)
unfolding joined
joined_in f zero a j = absurd j
joined_in f (suc n) a j =
    ⊎_elim (λ k. let r = joined_in f n a k in (r.0, omega (arith, r.1), r.2)) (λ k. (n, omega arith, k)) (in-append (joined f n) (f n) a j)

pub joined_same {ℓ} : {A : Type ℓ} (f g : ℕ → List A) (n : ℕ) → ((i : ℕ) → i < n → f i ≡ g i) → joined f n ≡ joined g n
unfolding joined
joined_same f g zero h = refl
joined_same f g (suc n) h = ap₂ (λ x y. x ++ y) (joined_same f g n (λ i l. h i (omega arith))) (h n (omega arith))

-- a list with one element for each number
pub length-joined {ℓ} : {A : Type ℓ} (f : ℕ → A) (n : ℕ) → length (joined (λ i. f i ∷ []) n) ≡ n
unfolding joined
length-joined f zero = refl
length-joined f (suc n) = length-append (joined (λ i. f i ∷ []) n) (f n ∷ []) ∙ omega (arith, length-joined f n)

pub get_d-joined {ℓ} : {A : Type ℓ} (f : ℕ → A) (n i : ℕ) (d : A) → i < n → get_or (joined (λ i. f i ∷ []) n) i d ≡ f i
unfolding joined
get_d-joined f zero i d h = absurd (omega arith)
get_d-joined f (suc n) i d h =
    ⊎_elim (λ (e : i ≡ n). get_or_at (joined (λ i. f i ∷ []) n) (f n) [] d i (length-joined f n ∙ sym e) ∙ ap f (sym e))
    (λ (l : i < n). get_or-append (joined (λ i. f i ∷ []) n) (f n ∷ []) d i (rw (length-joined f n) l) ∙ get_d-joined f n i d l)
    (last-or-below h)

-- ---- bytes of records, one behind the other
pub flat-snoc : {A B : Type 0} (f : A → List B) (xs : List A) (y : A) → flat_map f (xs ++ y ∷ []) ≡ flat_map f xs ++ f y
unfolding flat_map
flat-snoc f [] y = append-nil (f y)
flat-snoc f (x ∷ xs) y = ap (λ z. f x ++ z) (flat-snoc f xs y) ∙ sym (append_assoc (f x) (flat_map f xs) (f y))

pub flat_append : {A B : Type 0} (f : A → List B) (xs ys : List A) → flat_map f (xs ++ ys) ≡ flat_map f xs ++ flat_map f ys
unfolding flat_map
flat_append f [] ys = refl
flat_append f (x ∷ xs) ys = ap (λ z. f x ++ z) (flat_append f xs ys) ∙ sym (append_assoc (f x) (flat_map f xs) (flat_map f ys))

pub flat-length : {A B : Type 0} (f : A → List B) (n : ℕ) → ((x : A) → length (f x) ≡ n) → (xs : List A) → length (flat_map f xs) ≡ n * length xs
unfolding flat_map
flat-length f n e [] = omega arith
flat-length f n e (x ∷ xs) = simp length-append (omega (arith, e x, flat-length f n e xs))
