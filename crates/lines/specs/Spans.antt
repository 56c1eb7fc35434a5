-- The bytes of a field that begins at a place, without the quotes around it. Assumes nothing.
use Rattle.std.specs.Prelude.{Bool, true, false, cond, ◌&&◌, ◌||◌, List, [], ◌∷◌, ℕ, ◌+◌, ◌-◌, eqb, take, drop}
use Rattle.lines.specs.declared.Span.{Span}
use Rattle.lines.specs.Passing.{opens_at, plain_stop, quoted_stop}

unfoldable pub span_at : List ℕ → ℕ → Span
span_at s at = cond (opens_at s at) (record { start = at + 1; stop = quoted_stop s (at + 1) }) (record { start = at; stop = plain_stop s at })

unfoldable pub bytes_in : List ℕ → Span → List ℕ
bytes_in s p = take (p.stop - p.start) (drop p.start s)

-- a quote is among these bytes; every quote among them has another behind it
unfoldable pub quotes : List ℕ → Bool
quotes [] = false
quotes (b ∷ r) = eqb b 34 || quotes r

unfoldable pub paired : List ℕ → Bool
paired [] = true
paired (b ∷ []) = cond (eqb b 34) false true
paired (b ∷ c ∷ r) = cond (eqb b 34) (eqb c 34 && paired r) (paired (c ∷ r))
