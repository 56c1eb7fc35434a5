-- Figures of 4 bytes one behind the other: what reads back, and one of them written anew. Assumes nothing.
use mathlib.Core.Path.{◌≡◌, refl, sym, ap, ap₂, ◌∙◌}
use mathlib.Core.Bool.{cond}
use mathlib.Core.List.{List, ◌∷◌, ◌++◌, append_assoc, append-nil}
use Prim.Native.Nat.{ℕ, zero, suc, ◌+◌, ◌-◌, ◌*◌, ◌<◌}
use native.Mathlib.Omega.{arith}
use lib.Dec.{eqb}
use lib.ListN.{length, take, drop, length-append, replicate}
use lib.Seq.{take_at, drop_at}
use borrow.Author.Tests.{eq-eqb, ne_eqb}
use Rattle.journeys.specs.Counting.{joined}
use Rattle.journeys.specs.Bytes.{be32, word}
use Rattle.journeys.proofs.Counting.{joined_same}
use Rattle.words.specs.Written.{written}
use Rattle.words.proofs.Written.{length-word, be32-word}
use Rattle.evening.specs.Patients.{figures}

pub figures-long : (f : ℕ → ℕ) (n : ℕ) → length (figures f n) ≡ 4 * n
unfolding joined
figures-long f zero = refl
figures-long f (suc n) = length-append (figures f n) (word (f n)) ∙ omega (arith, figures-long f n, length-word (f n))

pub figures-same : (f g : ℕ → ℕ) (n : ℕ) → ((i : ℕ) → i < n → f i ≡ g i) → figures f n ≡ figures g n
figures-same f g n h = joined_same (λ i. word (f i)) (λ i. word (g i)) n (λ i l. ap word (h i l))

pub figures-split : (f : ℕ → ℕ) (a b : ℕ) → figures f (a + b) ≡ figures f a ++ figures (λ i. f (a + i)) b
unfolding joined
figures-split f a zero = let e : a + 0 ≡ a = omega arith in ap (figures f) e ∙ sym (append-nil (figures f a))
figures-split f a (suc b) =
    let e : a + suc b ≡ suc (a + b) = omega arith in
    ap (figures f) e ∙ ap (λ (l : List ℕ). l ++ word (f (a + b))) (figures-split f a b) ∙ append_assoc (figures f a) (figures (λ i. f (a + i)) b) (word (f (a + b)))

-- the figures before v, that of v, and those behind it
pub figures-around : (f : ℕ → ℕ) (n v : ℕ) → v < n → figures f n ≡ figures f v ++ word (f v) ++ figures (λ i. f (v + 1 + i)) (n - (v + 1))
unfolding joined
figures-around f n v h =
    let e : n ≡ suc v + (n - (v + 1)) = omega arith in
    let g : (i : ℕ) → i < n - (v + 1) → f (suc v + i) ≡ f (v + 1 + i) = λ i l. ap f (omega arith) in
    ap (figures f) e ∙ figures-split f (suc v) (n - (v + 1)) ∙ ap (λ (l : List ℕ). (figures f v ++ word (f v)) ++ l) (figures-same (λ i. f (suc v + i)) (λ i. f (v + 1 + i)) (n - (v + 1)) g)

pub figure-read : (f : ℕ → ℕ) (n v : ℕ) → v < n → be32 (figures f n) (4 * v) ≡ f v
figure-read f n v h =
    ap₂ be32 (figures-around f n v h) (sym (figures-long f v)) ∙ be32-word (figures f v) (figures (λ i. f (v + 1 + i)) (n - (v + 1))) (f v)

-- one figure anew
abbrev pub anew : (ℕ → ℕ) → ℕ → ℕ → ℕ → ℕ
anew f v x i = cond (eqb i v) x (f i)

pub figure-written : (f : ℕ → ℕ) (n v x : ℕ) → v < n → written (figures f n) (4 * v) (word x) ≡ figures (anew f v x) n
unfolding written
figure-written f n v x h =
    let rest = figures (λ i. f (v + 1 + i)) (n - (v + 1)) in
    let long : length (figures f v ++ word (f v)) ≡ 4 * v + length (word x) = length-append (figures f v) (word (f v)) ∙ omega (arith, figures-long f v, length-word (f v), length-word x) in
    let front : take (4 * v) (figures f n) ≡ figures f v = ap (take (4 * v)) (figures-around f n v h ∙ append_assoc (figures f v) (word (f v)) rest) ∙ take_at (figures f v) (word (f v) ++ rest) (4 * v) (figures-long f v) in
    let back : drop (4 * v + length (word x)) (figures f n) ≡ rest = ap (drop (4 * v + length (word x))) (figures-around f n v h) ∙ drop_at (figures f v ++ word (f v)) rest (4 * v + length (word x)) long in
    let same : figures f v ≡ figures (anew f v x) v = figures-same f (anew f v x) v (λ i l. sym (other i (omega arith))) in
    let behind : rest ≡ figures (λ i. anew f v x (v + 1 + i)) (n - (v + 1)) = figures-same (λ i. f (v + 1 + i)) (λ i. anew f v x (v + 1 + i)) (n - (v + 1)) (λ i l. sym (other (v + 1 + i) (omega arith))) in
    ap₂ (λ (a b : List ℕ). a ++ word x ++ b) (front ∙ same) (back ∙ behind)
    ∙ ap (λ (y : ℕ). figures (anew f v x) v ++ word y ++ figures (λ i. anew f v x (v + 1 + i)) (n - (v + 1))) (sym here)
    ∙ sym (figures-around (anew f v x) n v h)
  where
    here : anew f v x v ≡ x
    here = rw (eq-eqb v v refl)

    other : (i : ℕ) → (i ≡ v → ⊥) → anew f v x i ≡ f i
    other i q = rw (ne_eqb i v q)

-- a report of zeros
zeros-more : (m n : ℕ) → replicate {A = ℕ} (m + n) 0 ≡ replicate m 0 ++ replicate n 0
zeros-more zero n = let e : 0 + n ≡ n = omega arith in ap (λ (k : ℕ). replicate {A = ℕ} k 0) e
zeros-more (suc m) n = let e : suc m + n ≡ suc (m + n) = omega arith in ap (λ (k : ℕ). replicate {A = ℕ} k 0) e ∙ ap (λ (l : List ℕ). 0 ∷ l) (zeros-more m n)

pub figures-none : (n : ℕ) → replicate {A = ℕ} (4 * n) 0 ≡ figures (λ i. 0) n
unfolding joined word
figures-none zero = refl
figures-none (suc n) =
    let e : 4 * suc n ≡ 4 * n + 4 = omega arith in
    ap (λ (k : ℕ). replicate {A = ℕ} k 0) e ∙ zeros-more (4 * n) 4 ∙ ap (λ (l : List ℕ). l ++ word 0) (figures-none n)
