-- Six numbers written one behind the other fill 24 bytes. Assumes nothing.
use mathlib.Core.Path.{◌≡◌, ap, ◌∙◌}
use mathlib.Core.List.{List, ◌++◌, append-nil}
use Prim.Native.Nat.{ℕ}
use native.Mathlib.Omega.{arith}
use lib.ListN.{length, drop_of_length-le}
use Rattle.journeys.specs.Bytes.{word}
use Rattle.words.specs.Written.{written}
use Rattle.words.proofs.Written.{front, written_next, four-words}

module _ (d : List ℕ) (a b c e f g : ℕ) (long : length d ≡ 24) where
  abbrev all : List ℕ
  all = word a ++ word b ++ word c ++ word e ++ word f ++ word g

  together : written (written (written (written (written (written d 0 (word a)) 4 (word b)) 8 (word c)) 12 (word e)) 16 (word f)) 20 (word g) ≡ written d 0 all
  unfolding word
  together =
      ap (λ (l : List ℕ). written (written l 16 (word f)) 20 (word g)) (four-words d a b c e (omega arith))
      ∙ ap (λ (l : List ℕ). written l 20 (word g)) (written_next d 0 (word a ++ word b ++ word c ++ word e) (omega arith) (word f))
      ∙ written_next d 0 (word a ++ word b ++ word c ++ word e ++ word f) (omega arith) (word g)

  fill : written d 0 all ≡ all
  unfolding word
  fill = front d all ∙ ap (λ (l : List ℕ). all ++ l) (drop_of_length-le d {i = 24} (omega arith)) ∙ append-nil all

  -- as the code writes them
  pub six-numbers : (l1 l2 l3 l4 l5 l6 : List ℕ) → l1 ≡ written d 0 (word a) → l2 ≡ written l1 4 (word b) → l3 ≡ written l2 8 (word c) → l4 ≡ written l3 12 (word e) → l5 ≡ written l4 16 (word f) → l6 ≡ written l5 20 (word g)
      → l6 ≡ all
  six-numbers l1 l2 l3 l4 l5 l6 e1 e2 e3 e4 e5 e6 =
      e6
      ∙ ap (λ (l : List ℕ). written l 20 (word g)) (e5
      ∙ ap (λ (l : List ℕ). written l 16 (word f)) (e4
      ∙ ap (λ (l : List ℕ). written l 12 (word e)) (e3 ∙ ap (λ (l : List ℕ). written l 8 (word c)) (e2 ∙ ap (λ (l : List ℕ). written l 4 (word b)) e1))))
      ∙ together
      ∙ fill
