-- What the fields of a line are, read from a place where a field begins. Assumes nothing.
use Rattle.std.specs.Prelude.{◌≡◌, true, false, cond, List, [], ◌∷◌, ℕ, ◌+◌, ◌≤◌, eqb, length, drop}
use Rattle.feed.specs.Fields.{Row, begins, row}
use Rattle.lines.specs.declared.Stand.{Stand}
use Rattle.lines.specs.declared.Stand.TheVariants.{Begins, Ended, Broken}

unfoldable pub row_at : List ℕ → ℕ → Row
row_at s at = row begins (drop at s)

-- the same row without its first n fields
abbrev pub behind : ℕ → Row → Row
behind n t = record { fields = drop n t.fields; sound = t.sound }

-- what an answer tells of a row of which n fields were to be passed
abbrev pub Stood : List ℕ → Row → ℕ → Stand → Type 0
Stood s t n (Begins p) = (n ≤ length t.fields) × (p ≤ length s) × (row_at s p ≡ behind n t)
Stood s t n (Ended over) = (over + length t.fields ≡ n) × (t.sound ≡ true)
Stood s t n (Broken over) = (over + length t.fields ≡ n) × (t.sound ≡ false)

-- the bytes between the quotes of a field, each doubled quote taken once
unfoldable pub undoubled : List ℕ → List ℕ
undoubled [] = []
undoubled (b ∷ []) = b ∷ []
undoubled (b ∷ c ∷ r) = b ∷ cond (eqb b 34) (undoubled r) (undoubled (c ∷ r))
