-- Three numbers written one behind the other fill 12 bytes. Assumes nothing.
use mathlib.Core.Path.{◌≡◌, ap, ◌∙◌}
use mathlib.Core.List.{List, ◌++◌, append-nil}
use Prim.Native.Nat.{ℕ}
use native.Mathlib.Omega.{arith}
use lib.ListN.{length, drop_of_length-le}
use Rattle.journeys.specs.Bytes.{word}
use Rattle.words.specs.Written.{written}
use Rattle.words.proofs.Written.{front, three-words}

module _ (d : List ℕ) (a b c : ℕ) (long : length d ≡ 12) where
  three-fill : written d 0 (word a ++ word b ++ word c) ≡ word a ++ word b ++ word c
  unfolding word
  three-fill =
      let all = word a ++ word b ++ word c in
      front d all ∙ ap (λ (l : List ℕ). all ++ l) (drop_of_length-le d {i = 12} (omega arith)) ∙ append-nil all

  -- as the code writes them
  pub three-numbers : (l1 l2 l3 : List ℕ) → l1 ≡ written d 0 (word a) → l2 ≡ written l1 4 (word b) → l3 ≡ written l2 8 (word c) → l3 ≡ word a ++ word b ++ word c
  three-numbers l1 l2 l3 e1 e2 e3 =
      e3
      ∙ ap (λ (l : List ℕ). written l 8 (word c)) (e2 ∙ ap (λ (l : List ℕ). written l 4 (word b)) e1)
      ∙ three-words d a b c (omega arith)
      ∙ three-fill
