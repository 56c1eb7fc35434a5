-- Signed seconds (ℤ, as the code's i32 has them) and seconds by `clock` (ℕ, as the definitions have them): the same order, the same differences.
-- Assumes nothing.
use mathlib.Core.Path.{◌≡◌, sym, ap, ◌∙◌}
use mathlib.Core.Logic.{⊎_elim}
use mathlib.Core.Bool.{Bool, true, false, cond}
use Prim.Native.Nat.{ℕ, zero, suc, ◌+◌, ◌-◌, ◌≤◌, ◌<◌}
use native.Mathlib.Omega.{arith}
use lib.Dec.{leb, ltb}
use lib.IntN.{ℤ, pos, negsuc, sub_ℕ, ◌-ℤ◌}
use lib.Signed.{mag, le_z}
use mir.Syntax.{w32}
use mir.Val.{to_z, sel}
use borrow.Author.Tests.{leb-true, leb-false, ltb-true, ltb-false, le-leb, lt-leb, le-ltb}
use Rattle.journeys.specs.Bytes.{clock, clocked}
use Rattle.journeys.proofs.Tests.{split}

pub same-leb : (a b c d : ℕ) → (a ≤ b → c ≤ d) → (b < a → d < c) → leb a b ≡ leb c d
same-leb a b c d f g = ⊎_elim (λ t. t ∙ sym (le-leb c d (f (leb-true a b t)))) (λ t. t ∙ sym (lt-leb c d (g (leb-false a b t)))) (split (leb a b))

pub clocked-le : (a b : ℤ) → mag a < 2147483648 → mag b < 2147483648 → le_z a b ≡ leb (clocked a) (clocked b)
clocked-le (pos a) (pos b) h k = same-leb a b (2147483648 + a) (2147483648 + b) (omega arith) (omega arith)
clocked-le (pos a) (negsuc b) h k = sym (lt-leb (2147483648 + a) (2147483647 - b) (omega arith))
clocked-le (negsuc a) (pos b) h k = sym (le-leb (2147483647 - a) (2147483648 + b) (omega arith))
clocked-le (negsuc a) (negsuc b) h k = same-leb b a (2147483647 - a) (2147483647 - b) (omega arith) (omega arith)

-- the bits of a signed second
pub clocked-bits : (bits : ℕ) → bits < 4294967296 → clocked (to_z w32 bits) ≡ clock bits
unfolding clock
clocked-bits bits h =
    ⊎_elim (λ (t : ltb bits 2147483648 ≡ true). ap (λ (b : Bool). clocked (sel b (pos bits) (negsuc (4294967296 - suc bits)))) t ∙ omega (arith, ltb-true))
    (λ (t : ltb bits 2147483648 ≡ false). ap (λ (b : Bool). clocked (sel b (pos bits) (negsuc (4294967296 - suc bits)))) t ∙ omega (arith, ltb-false))
    (split _)

sub-pos : (a b : ℕ) → a ≤ b → sub_ℕ b a ≡ pos (b - a)
sub-pos a b h = ap (λ (t : Bool). cond t (negsuc (a - suc b)) (pos (b - a))) (le-ltb b a h)

pub clocked-less : (a b : ℤ) → mag a < 2147483648 → mag b < 2147483648 → clocked a ≤ clocked b → b -ℤ a ≡ pos (clocked b - clocked a)
clocked-less (pos zero) (pos b) h k l = ap pos (omega arith)
clocked-less (pos (suc a)) (pos b) h k l = sub-pos (suc a) b (omega arith) ∙ ap pos (omega arith)
clocked-less (pos zero) (negsuc b) h k l = absurd (let z : ⊥ = omega arith in z)
clocked-less (pos (suc a)) (negsuc b) h k l = absurd (let z : ⊥ = omega arith in z)
clocked-less (negsuc a) (pos b) h k l = ap pos (omega arith)
clocked-less (negsuc a) (negsuc b) h k l = sub-pos (suc b) (suc a) (omega arith) ∙ ap pos (omega arith)
