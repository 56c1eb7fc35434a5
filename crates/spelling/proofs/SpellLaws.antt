-- The number of a list line, and a hop as five words. Assumes nothing.
use mathlib.Core.Path.{◌≡◌, ap, ◌∙◌}
use mathlib.Core.Bool.{true, ◌&&◌}
use mathlib.Core.List.{List, ◌++◌}
use Prim.Native.Nat.{ℕ, ◌+◌, ◌-◌, ◌<◌, ◌≤◌}
use native.Mathlib.Omega.{arith}
use lib.Dec.{eqb}
use lib.ListN.{length, take, drop}
use borrow.Author.Tests.{eqb-true}
use Rattle.journeys.specs.Counting.{none}
use Rattle.journeys.specs.Bytes.{word}
use Rattle.journeys.proofs.Tests.{and_both}
use Rattle.words.specs.Written.{written}
use Rattle.words.proofs.Written.{written_next}
use Rattle.feed.specs.Fields.{row_of, field}
use Rattle.feed.specs.Values.{number, value_of}
use Rattle.feed.specs.Ids.{list_line}
use Rattle.lines.specs.Ends.{width}
use Rattle.naming.specs.Named.{line_at}
use Rattle.naming.proofs.Places.{line-is}
use Rattle.spelling.specs.Spelled.{number_at}

-- ---- the number of a list line
pub second-good : (l : List ℕ) → list_line none l ≡ true → (1 < length (row_of l).fields) × (number none (field (row_of l) 1) ≡ true)
unfolding list_line
second-good l g =
    let a = and_both ((row_of l).sound && eqb (length (row_of l).fields) 2) (number none (field (row_of l) 1)) g in
    let two = eqb-true (length (row_of l).fields) 2 (and_both (row_of l).sound _ a.0).1 in
    (omega (arith, two), a.1)

pub line-good : (list : List ℕ) (place stop : ℕ) → stop ≡ place + width (drop place list) → list_line none (line_at list place) ≡ true → list_line none (take (stop - place) (drop place list)) ≡ true
line-good list place stop e g = ap (list_line none) (line-is list place stop e) ∙ g

pub number-there : (list : List ℕ) (place stop : ℕ) → stop ≡ place + width (drop place list) → value_of (field (row_of (take (stop - place) (drop place list))) 1) ≡ number_at list place
unfolding number_at
number-there list place stop e = ap (λ (l : List ℕ). value_of (field (row_of l) 1)) (line-is list place stop e)

-- ---- five words one behind the other
module _ (d : List ℕ) (p a b c e f : ℕ) (h : p + 20 ≤ length d) where
  pub five-words : written (written (written (written (written d p (word a)) (p + 4) (word b)) (p + 8) (word c)) (p + 12) (word e)) (p + 16) (word f) ≡ written d p (word a ++ word b ++ word c ++ word e ++ word f)
  unfolding word
  five-words =
      ap (λ (l : List ℕ). written (written (written l (p + 8) (word c)) (p + 12) (word e)) (p + 16) (word f)) (written_next d p (word a) (omega arith) (word b))
      ∙ ap (λ (l : List ℕ). written (written l (p + 12) (word e)) (p + 16) (word f)) (written_next d p (word a ++ word b) (omega arith) (word c))
      ∙ ap (λ (l : List ℕ). written l (p + 16) (word f)) (written_next d p (word a ++ word b ++ word c) (omega arith) (word e))
      ∙ written_next d p (word a ++ word b ++ word c ++ word e) (omega arith) (word f)
