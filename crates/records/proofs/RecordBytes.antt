-- The bytes of the records that are written: how many, and that they read back. Assumes nothing.
use mathlib.Core.Path.{◌≡◌, refl}
use mathlib.Core.List.{List, ◌++◌}
use Prim.Native.Nat.{ℕ}
use lib.ListN.{length}
use Rattle.journeys.specs.Bytes.{be32, word}
use Rattle.journeys.specs.Network.{Held}
use Rattle.journeys.specs.Order.{Settled}
use Rattle.journeys.specs.Parts.{Part, part_bytes}
use Rattle.journeys.specs.Answers.{held_bytes, settled_bytes}
use Rattle.words.proofs.Written.{word_back}

pub length-held : (x : Held) → length (held_bytes x) ≡ 16
unfolding word
length-held x = refl

pub length-settled : (x : Settled) → length (settled_bytes x) ≡ 8
unfolding word
length-settled x = refl

pub length_part : (x : Part) → length (part_bytes x) ≡ 12
unfolding word
length_part x = refl

-- the records read back, whatever stands behind them
pub held_back_lem : (x : Held) (l : List ℕ)
    → (be32 (held_bytes x ++ l) 0 ≡ x.vertex) × (be32 (held_bytes x ++ l) 4 ≡ x.distance) × (be32 (held_bytes x ++ l) 8 ≡ x.state) × (be32 (held_bytes x ++ l) 12 ≡ x.remaining)
unfolding be32 word
held_back_lem x l = (word_back x.vertex, word_back x.distance, word_back x.state, word_back x.remaining)

pub settled_back : (x : Settled) (l : List ℕ) → (be32 (settled_bytes x ++ l) 0 ≡ x.vertex) × (be32 (settled_bytes x ++ l) 4 ≡ x.distance)
unfolding be32 word
settled_back x l = (word_back x.vertex, word_back x.distance)

pub part-back : (x : Part) (l : List ℕ)
    → (be32 (part_bytes x ++ l) 0 ≡ x.walk) × (be32 (part_bytes x ++ l) 4 ≡ x.start) × (be32 (part_bytes x ++ l) 8 ≡ x.end)
unfolding be32 word
part-back x l = (word_back x.walk, word_back x.start, word_back x.end)
