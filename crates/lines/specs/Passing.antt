-- Fields passed over by their places in a line. What it means is said by `feed`, and shown in proofs/. Assumes nothing.
use Rattle.std.specs.Prelude.{Bool, true, false, cond, ◌||◌, List, [], ◌∷◌, ℕ, zero, suc, ◌+◌, eqb, length, get_or, drop}
use Rattle.lines.specs.declared.Stand.{Stand}
use Rattle.lines.specs.declared.Stand.TheVariants.{Begins, Ended, Broken}

-- a quote stands first
unfoldable pub quote : List ℕ → Bool
quote [] = false
quote (b ∷ r) = eqb b 34

-- the bytes of a plain field; of a quoted one between its quotes, inside it and behind a quote
unfoldable pub plain_width : List ℕ → ℕ
plain_width [] = 0
plain_width (b ∷ r) = cond (eqb b 44 || eqb b 34) 0 (suc (plain_width r))

unfoldable pub quoted_width : Bool → List ℕ → ℕ
quoted_width false [] = 0
quoted_width true [] = 0
quoted_width false (b ∷ r) = cond (eqb b 34) (quoted_width true r) (suc (quoted_width false r))
quoted_width true (b ∷ r) = cond (eqb b 34) (suc (suc (quoted_width false r))) 0

unfoldable pub opens_at : List ℕ → ℕ → Bool
opens_at s at = quote (drop at s)

unfoldable pub plain_stop : List ℕ → ℕ → ℕ
plain_stop s at = at + plain_width (drop at s)

unfoldable pub quoted_stop : List ℕ → ℕ → ℕ
quoted_stop s at = at + quoted_width false (drop at s)

-- where the reading of a line stands after so many fields, the first of which begins at a place
unfoldable pub stand : List ℕ → ℕ → ℕ → Stand
stand s zero at = Begins at
stand s (suc k) at =
    cond (opens_at s at)
    (let close = quoted_stop s (at + 1) in
    cond (eqb close (length s)) (Broken (suc k))
    (cond (eqb (close + 1) (length s)) (Ended k) (cond (eqb (get_or s (close + 1) 0) 44) (stand s k (close + 1 + 1)) (Broken (suc k)))))
    (let stop = plain_stop s at in
    cond (eqb stop (length s)) (Ended k) (cond (eqb (get_or s stop 0) 34) (Broken (suc k)) (stand s k (stop + 1))))
