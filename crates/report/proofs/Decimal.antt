-- A number's decimal digits: those of `io`, and how many there are. Assumes nothing.
use mathlib.Core.Path.{◌≡◌, sym, ap, ap₂, ◌∙◌}
use mathlib.Core.Logic.{⊎_elim}
use mathlib.Core.List.{List, [], ◌∷◌, ◌++◌}
use Prim.Native.Nat.{ℕ, zero, suc, ◌+◌, ◌-◌, ◌*◌, ◌/◌, ◌%◌, ◌^◌, ◌≤◌, ◌<◌}
use native.Mathlib.Nat.{pow-suc, pow-le-pow_right}
use native.Mathlib.Omega.{arith}
use lib.ListN.{length, length-append}
use borrow.Author.Tests.{lt-ltb, le-ltb}
use Rattle.io.specs.Digits.{hex_digit_ascii, last_digits, IsDigitCount}
use Rattle.journeys.proofs.Tests.{le-or-lt}
use Rattle.report.specs.Text.{decimal_in, decimal}

small : (places n : ℕ) → n < 10 → decimal_in (suc places) n ≡ (48 + n) ∷ []
unfolding decimal_in
small places n l = rw (lt-ltb n 10 l)

large : (places n : ℕ) → 10 ≤ n → decimal_in (suc places) n ≡ decimal_in places (n / 10) ++ ((48 + n % 10) ∷ [])
unfolding decimal_in
large places n l = rw (le-ltb n 10 l)

digit : (d : ℕ) → d < 10 → hex_digit_ascii d ≡ 48 + d
digit d l = rw (lt-ltb d 10 l)

ten-pos : (k : ℕ) → 1 ≤ 10 ^ k
ten-pos zero = omega arith
ten-pos (suc k) = omega (arith, ten-pos k, pow-suc 10 k)

same : (places k n : ℕ) → suc k ≤ places → n < 10 ^ suc k → (0 < k → 10 ^ k ≤ n) → last_digits 10 (suc k) n ≡ decimal_in places n
same zero k n a b c = absurd (omega arith)
same (suc p) zero n a b c =
    let l : n < 10 = omega arith in
    let e : n % 10 ≡ n = omega arith in
    ap (λ (x : ℕ). x ∷ []) (ap hex_digit_ascii e ∙ digit n l) ∙ sym (small p n l)
same (suc p) (suc k) n a b c =
    let low : 10 ^ k * 10 ≤ n = omega (arith, c (omega arith), pow-suc 10 k) in
    let l : 10 ≤ n = omega (arith, ten-pos k) in
    let rest = same p k (n / 10) (omega arith) (omega (arith, pow-suc 10 (suc k))) (λ h. omega arith) in
    ap₂ (λ (x : List ℕ) (y : ℕ). x ++ (y ∷ [])) rest (digit (n % 10) (omega arith)) ∙ sym (large p n l)

few : (n k : ℕ) → n < 18446744073709551616 → IsDigitCount 10 1 n k → k ≤ 20
few n k b f = ⊎_elim (λ (l : k ≤ 20). l) (λ (l : 20 < k). absurd (many l)) (le-or-lt k 20)
  where
    many : 20 < k → ⊥
    many l =
        let h : 20 ≤ k - 1 = omega arith in
        let ten : 1 ≤ 10 = omega arith in
        omega (arith, f.2 (omega arith), pow-le-pow_right {n = 10} ten h)

-- what `io` writes is the decimal number
pub decimal-is : (n k : ℕ) → n < 18446744073709551616 → IsDigitCount 10 1 n k → last_digits 10 k n ≡ decimal n
unfolding decimal
decimal-is n zero b f = absurd (omega (arith, f.0))
decimal-is n (suc k) b f = same 20 k n (few n (suc k) b f) f.1 (λ h. low h (omega arith))
  where
    low : 0 < k → suc k - 1 ≡ k → 10 ^ k ≤ n
    low h e = rw e at (f.2 (omega arith))

-- ---- how many digits
at_most : (places m n : ℕ) → n < 10 ^ suc m → length (decimal_in places n) ≤ suc m
unfolding decimal_in
at_most zero m n b = omega arith
at_most (suc p) zero n b = rw (small p n (omega arith)) (omega arith)
at_most (suc p) (suc m) n b =
    ⊎_elim (λ (l : 10 ≤ n). rw (large p n l, length-append) (omega (arith, at_most p m (n / 10) (omega (arith, pow-suc 10 (suc m))))))
    (λ (l : n < 10). rw (small p n l) (omega arith))
    (le-or-lt 10 n)

pub length-32 : (n : ℕ) → n < 4294967296 → length (decimal n) ≤ 10
unfolding decimal
length-32 n b = at_most 20 9 n (omega arith)

pub length-64 : (n : ℕ) → n < 18446744073709551616 → length (decimal n) ≤ 20
unfolding decimal
length-64 n b = at_most 20 19 n (omega arith)
