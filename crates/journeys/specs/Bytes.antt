-- Numbers in bytes, big-endian: RULES 3.1. Assumes nothing.
use Rattle.std.specs.Prelude.{List, [], ◌∷◌, ◌++◌, ℕ, ◌+◌, ◌-◌, ◌*◌, ◌/◌, ◌%◌, ℤ, pos, negsuc, length, get_or, replicate}

-- the 16 bits and the 32 bits that stand at a place
unfoldable pub be16 : List ℕ → ℕ → ℕ
be16 b i = get_or b i 0 * 256 + get_or b (i + 1) 0

unfoldable pub be32 : List ℕ → ℕ → ℕ
be32 b i = get_or b i 0 * 16777216 + get_or b (i + 1) 0 * 65536 + get_or b (i + 2) 0 * 256 + get_or b (i + 3) 0

-- 32 bits read as signed seconds from midnight, and counted from 2 ^ 31 seconds before midnight instead: a natural number, in the same order and
-- at the same distances over all 32 bits (`Clock` tells the same journeys in signed time)
unfoldable pub clock : ℕ → ℕ
clock bits = (bits + 2147483648) % 4294967296

abbrev pub midnight : ℕ
midnight = 2147483648

-- the same of a signed second
abbrev pub clocked : ℤ → ℕ
clocked (pos n) = 2147483648 + n
clocked (negsuc n) = 2147483647 - n

-- the four bytes of a number
unfoldable pub word : ℕ → List ℕ
word x = x / 16777216 ∷ x / 65536 % 256 ∷ x / 256 % 256 ∷ x % 256 ∷ []

-- a lent buffer that takes these bytes and zero in its rest; one that is zero altogether
unfoldable pub filled : List ℕ → List ℕ → List ℕ
filled buffer bytes = bytes ++ replicate (length buffer - length bytes) 0

unfoldable pub cleared : List ℕ → List ℕ
cleared buffer = replicate (length buffer) 0
