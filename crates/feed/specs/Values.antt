-- What fields say: numbers and times. Assumes nothing.
use Rattle.std.specs.Prelude.{Bool, true, false, ◌&&◌, ◌||◌, List, [], ◌∷◌, ℕ, ◌+◌, ◌-◌, ◌*◌, eqb, leb, length, get_or, take, drop}
use Rattle.feed.specs.Lines.{empty}

unfoldable pub digit : ℕ → Bool
digit b = leb 48 b && leb b 57

-- one or more digits and nothing else
unfoldable pub digits : List ℕ → Bool
digits [] = false
digits (b ∷ []) = digit b
digits (b ∷ c ∷ r) = digit b && digits (c ∷ r)

-- the value of digits, behind those that were read as v
unfoldable pub value_from : ℕ → List ℕ → ℕ
value_from v [] = v
value_from v (b ∷ r) = value_from (10 * v + (b - 48)) r

unfoldable pub value_of : List ℕ → ℕ
value_of f = value_from 0 f

-- a number up to a greatest, judged by its value: zeros may lead
unfoldable pub number : ℕ → List ℕ → Bool
number most f = digits f && leb (value_of f) most

-- H:MM:SS or HH:MM:SS, 58 being the colon, to 47:59:59
unfoldable pub time : List ℕ → Bool
time f =
    let h = length f - 6 in
    (eqb (length f) 7 || eqb (length f) 8)
    && number 47 (take h f)
    && eqb (get_or f h 0) 58
    && number 59 (take 2 (drop (h + 1) f))
    && eqb (get_or f (h + 3) 0) 58
    && number 59 (take 2 (drop (h + 4) f))

unfoldable pub seconds_of : List ℕ → ℕ
seconds_of f = let h = length f - 6 in 3600 * value_of (take h f) + 60 * value_of (take 2 (drop (h + 1) f)) + value_of (take 2 (drop (h + 4) f))

-- a time may be left blank
unfoldable pub time_or_blank : List ℕ → Bool
time_or_blank f = empty f || time f
