-- Hop tables of 16-byte and of 20-byte records, moved. A hop of 20 bytes ends in its trip, 0 for unknown. Assumes nothing.
use Rattle.std.specs.Prelude.{cond, List, [], ◌∷◌, ◌++◌, ℕ, ◌+◌, ◌*◌, ◌/◌, eqb, length, take, drop}
use Rattle.journeys.specs.Counting.{joined}
use Rattle.journeys.specs.Bytes.{be32, word}
use Rattle.journeys.specs.Refusals.{Refusal, unless, chain, first_bad, table_of}

-- what both sizes have: "from", "to", departure and arrival
unfoldable pub common : ℕ → List ℕ → ℕ → List ℕ
common size b i = take 16 (drop (size * i) b)

unfoldable pub trip : List ℕ → ℕ → ℕ
trip b i = be32 b (20 * i + 16)

-- the table moved forward: every trip is 0
unfoldable pub lengthened : List ℕ → List ℕ
lengthened b = joined (λ i. common 16 b i ++ word 0) (length b / 16)

-- and moved backward
unfoldable pub shortened : List ℕ → List ℕ
shortened b = joined (common 20 b) (length b / 20)

-- 1: place 2 for the source, place 6 for a target that is not exactly as many records long
unfoldable pub move_lengths : ℕ → ℕ → List ℕ → List ℕ → Refusal
move_lengths from to source target =
    chain (unless (table_of from 0 262144 source) 1 2 ∷ unless (eqb (length target) (to * (length source / from))) 1 6 ∷ [])

abbrev pub forward_refusal : List ℕ → List ℕ → Refusal
forward_refusal = move_lengths 16 20

-- 11: a trip that is not 0
unfoldable pub backward_refusal : List ℕ → List ℕ → Refusal
backward_refusal source target = chain (move_lengths 20 16 source target ∷ first_bad 11 (λ i. eqb (trip source i) 0) (length source / 20) ∷ [])

-- a refused move leaves the target as it was
unfoldable pub leaves : Refusal → List ℕ → List ℕ → List ℕ
leaves r moved target = cond (eqb r.number 0) moved target
