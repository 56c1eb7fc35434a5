-- How many bytes the first line of a text has, and how many its end. Assumes nothing.
use Rattle.std.specs.Prelude.{Bool, false, cond, ◌&&◌, ◌||◌, List, [], ◌∷◌, ℕ, suc, eqb}
use Rattle.feed.specs.Lines.{ends_now}

-- LF, or CR with LF behind it
unfoldable pub ends : List ℕ → Bool
ends [] = false
ends (b ∷ r) = eqb b 10 || (eqb b 13 && ends_now r)

unfoldable pub width : List ℕ → ℕ
width [] = 0
width (b ∷ r) = cond (ends (b ∷ r)) 0 (suc (width r))

unfoldable pub end_width : List ℕ → ℕ
end_width [] = 0
end_width (b ∷ r) = cond (ends (b ∷ r)) (cond (eqb b 10) 1 2) 0
