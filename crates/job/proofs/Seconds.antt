-- The two readings of 32 bits as signed seconds are the same. Assumes nothing.
use mathlib.Core.Path.{◌≡◌, refl, ap, ◌∙◌}
use mathlib.Core.Logic.{◌⊎◌, inl, inr, ⊎_elim}
use mathlib.Core.Bool.{Bool, cond}
use Prim.Native.Nat.{ℕ, suc, ◌+◌, ◌-◌, ◌%◌, ◌≤◌, ◌<◌}
use native.Mathlib.Omega.{arith}
use lib.IntN.{pos, negsuc, sub_ℕ}
use borrow.Author.Tests.{lt-ltb, le-ltb}
use Rattle.journeys.specs.Bytes.{clock, midnight, clocked}
use Rattle.journeys.proofs.Tests.{le-or-lt}
use Rattle.words.specs.Quantities.{seconds_of}
use Rattle.job.specs.Job.{seconds}

-- what `records` reads of the bits
pub seconds-is : (bits : ℕ) → (seconds_of (clock bits)).0 ≡ seconds bits
unfolding seconds
seconds-is bits = refl

sub-le : (a b : ℕ) → b ≤ a → sub_ℕ a b ≡ pos (a - b)
sub-le a b h = ap (λ (t : Bool). cond t (negsuc (b - suc a)) (pos (a - b))) (le-ltb a b h)

sub-lt : (a b : ℕ) → a < b → sub_ℕ a b ≡ negsuc (b - suc a)
sub-lt a b h = ap (λ (t : Bool). cond t (negsuc (b - suc a)) (pos (a - b))) (lt-ltb a b h)

seconds-low : (bits : ℕ) → bits < 2147483648 → seconds bits ≡ pos bits
unfolding seconds clock
seconds-low bits h = sub-le ((bits + 2147483648) % 4294967296) midnight (omega arith) ∙ ap pos (omega arith)

seconds-high : (bits : ℕ) → 2147483648 ≤ bits → bits < 4294967296 → seconds bits ≡ negsuc (4294967295 - bits)
unfolding seconds clock
seconds-high bits h k = sub-lt ((bits + 2147483648) % 4294967296) midnight (omega arith) ∙ ap negsuc (omega arith)

below : (a b : ℕ) → (a < b) ⊎ (b ≤ a)
below a b = ⊎_elim inr inl (le-or-lt b a)

-- signed seconds back by `clock`
pub seconds-clocked : (bits : ℕ) → bits < 4294967296 → clocked (seconds bits) ≡ clock bits
unfolding clock
seconds-clocked bits h =
    ⊎_elim (λ (l : bits < 2147483648). ap clocked (seconds-low bits l) ∙ omega arith)
    (λ (l : 2147483648 ≤ bits). ap clocked (seconds-high bits l h) ∙ omega arith)
    (below bits 2147483648)
