-- The six numbers of an answer as they stand in its 24 bytes. Assumes nothing.
use mathlib.Core.Path.{◌≡◌}
use mathlib.Core.List.{List, ◌++◌}
use Prim.Native.Nat.{ℕ}
use Rattle.journeys.specs.Bytes.{be32, word}
use Rattle.words.proofs.Written.{word_back}

module _ (a b c d e f : ℕ) where
  abbrev pub six : List ℕ
  six = word a ++ word b ++ word c ++ word d ++ word e ++ word f

  pub six-0 : be32 six 0 ≡ a
  unfolding be32 word
  six-0 = word_back a

  pub six-4 : be32 six 4 ≡ b
  unfolding be32 word
  six-4 = word_back b

  pub six-8 : be32 six 8 ≡ c
  unfolding be32 word
  six-8 = word_back c

  pub six-12 : be32 six 12 ≡ d
  unfolding be32 word
  six-12 = word_back d

  pub six-16 : be32 six 16 ≡ e
  unfolding be32 word
  six-16 = word_back e

  pub six-20 : be32 six 20 ≡ f
  unfolding be32 word
  six-20 = word_back f
