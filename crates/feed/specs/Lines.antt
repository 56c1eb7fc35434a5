-- A text as lines: each ends in LF or CRLF, the last perhaps in neither. Assumes nothing.
use Rattle.std.specs.Prelude.{Bool, true, false, cond, ◌&&◌, ◌||◌, List, [], ◌∷◌, ℕ, ◌+◌, min, eqb}
use Prim.Native.Char.{code}
use Prim.Native.String.{String, [] as none_left, ◌∷◌ as ◌then◌}
use Rattle.journeys.specs.Counting.{none}
use Rattle.journeys.specs.Refusals.{Refusal, fine, unless, or_else}

-- a text that is written out in these definitions, as bytes
abbrev pub bytes : String → List ℕ
bytes none_left = []
bytes (c then s) = code c ∷ bytes s

unfoldable pub empty : List ℕ → Bool
empty [] = true
empty (b ∷ r) = false

-- LF is the next byte
unfoldable pub ends_now : List ℕ → Bool
ends_now [] = false
ends_now (b ∷ r) = eqb b 10

-- a byte in front of the first line
unfoldable pub onto : ℕ → List (List ℕ) → List (List ℕ)
onto b [] = (b ∷ []) ∷ []
onto b (l ∷ ls) = (b ∷ l) ∷ ls

-- the lines without their ends: a CR belongs to the end only where LF follows it
unfoldable pub lines_of : List ℕ → List (List ℕ)
lines_of [] = []
lines_of (b ∷ r) = cond (eqb b 10) ([] ∷ lines_of r) (cond (eqb b 13 && ends_now r) (lines_of r) (onto b (lines_of r)))

-- lines count from 1; where 32 bits do not hold the number, FFFFFFFF is told
unfoldable pub place : ℕ → ℕ
place i = min i none

-- the first line of these that is not good, the first of them being line i: empty ones are passed over, but counted
unfoldable pub first_bad_line : ℕ → (List ℕ → Bool) → ℕ → List (List ℕ) → Refusal
first_bad_line number good i [] = fine
first_bad_line number good i (l ∷ ls) = or_else (unless (empty l || good l) number (place i)) (first_bad_line number good (i + 1) ls)
