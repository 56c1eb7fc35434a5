-- Bytes above CR end no line, so a line goes on behind several of them; bytes above the comma end no plain field. Assumes nothing.
use Prim.Native.Nat.{ℕ, ◌+◌, ◌<◌, ◌≤◌}
use native.Mathlib.Omega.{arith}
use mathlib.Core.Path.{◌≡◌, refl, sym, ap, ◌∙◌}
use mathlib.Core.Bool.{true, false, ◌||◌}
use mathlib.Core.List.{List, ◌∷◌}
use lib.Dec.{eqb, ltb}
use lib.ListN.{length, get_or, drop}
use lib.Seq.{drop-cons}
use borrow.Author.Tests.{ltb-true, ne_eqb}
use Rattle.lines.specs.Ends.{ends, width}
use Rattle.lines.specs.Passing.{plain_stop}
use Rattle.lines.proofs.Steps.{width-on, plain-on}

byte-on : (b : ℕ) (r : List ℕ) → ltb 13 b ≡ true → ends (b ∷ r) ≡ false
unfolding ends
byte-on b r e =
    let h = ltb-true 13 b e in
    rw (ne_eqb b 10 (λ q. absurd (omega (arith, h, q))), ne_eqb b 13 (λ q. absurd (omega (arith, h, q)))) refl

module _ (s : List ℕ) (i : ℕ) where
  on-here : i < length s → ltb 13 (get_or s i 0) ≡ true → ends (drop i s) ≡ false
  on-here h e = ap ends (drop-cons s i 0 h) ∙ byte-on (get_or s i 0) _ e

pub two-on-is : (s : List ℕ) (i : ℕ) → i + 2 ≤ length s → ltb 13 (get_or s i 0) ≡ true → ltb 13 (get_or s (i + 1) 0) ≡ true → i + width (drop i s) ≡ i + 2 + width (drop (i + 2) s)
two-on-is s i h p q =
    let a = width-on s i (omega (arith, h)) (on-here s i (omega (arith, h)) p) in
    let b = width-on s (i + 1) (omega (arith, h)) (on-here s (i + 1) (omega (arith, h)) q) in
    let m : i + 1 + 1 ≡ i + 2 = omega arith in
    let e : width (drop (i + 1 + 1) s) ≡ width (drop (i + 2) s) = ap (λ (k : ℕ). width (drop k s)) m in
    omega (arith, a, b, e)

-- two strides
pub both-on : (s : List ℕ) (i j k : ℕ) → k ≡ i + j + j → i + width (drop i s) ≡ i + j + width (drop (i + j) s) → i + j + width (drop (i + j) s) ≡ i + j + j + width (drop (i + j + j) s) → i + width (drop i s) ≡ k + width (drop k s)
both-on s i j k e p q = p ∙ q ∙ ap (λ (m : ℕ). m + width (drop m s)) (sym e)

-- ---- a plain field
plain-here-on : (s : List ℕ) (i : ℕ) → i < length s → ltb 44 (get_or s i 0) ≡ true → plain_stop s i ≡ plain_stop s (i + 1)
plain-here-on s i h e =
    let l = ltb-true 44 (get_or s i 0) e in
    let none : (eqb (get_or s i 0) 44 || eqb (get_or s i 0) 34) ≡ false = rw (ne_eqb (get_or s i 0) 44 (λ q. absurd (omega (arith, l, q))), ne_eqb (get_or s i 0) 34 (λ q. absurd (omega (arith, l, q)))) refl in
    plain-on s i h none

pub two-plain-is : (s : List ℕ) (i : ℕ) → i + 2 ≤ length s → ltb 44 (get_or s i 0) ≡ true → ltb 44 (get_or s (i + 1) 0) ≡ true → plain_stop s i ≡ plain_stop s (i + 2)
two-plain-is s i h p q =
    let m : i + 1 + 1 ≡ i + 2 = omega arith in
    plain-here-on s i (omega (arith, h)) p ∙ plain-here-on s (i + 1) (omega (arith, h)) q ∙ ap (plain_stop s) m

pub four-plain-is : (s : List ℕ) (i : ℕ) → plain_stop s i ≡ plain_stop s (i + 2) → plain_stop s (i + 2) ≡ plain_stop s (i + 2 + 2) → plain_stop s i ≡ plain_stop s (i + 4)
four-plain-is s i p q = let m : i + 2 + 2 ≡ i + 4 = omega arith in p ∙ q ∙ ap (plain_stop s) m
