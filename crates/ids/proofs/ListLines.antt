-- A line of a list, and a line between two places. Assumes nothing.
use Prim.Native.Nat.{ℕ, ◌-◌, ◌<◌}
use native.Mathlib.Omega.{arith}
use mathlib.Core.Path.{◌≡◌, refl, sym}
use mathlib.Core.Bool.{Bool, true, false, ◌&&◌, ◌||◌}
use mathlib.Core.List.{List, [], ◌∷◌}
use lib.Dec.{eqb}
use lib.ListN.{length, take, drop}
use borrow.Author.Tests.{eqb-true}
use Rattle.journeys.proofs.Tests.{and_left, and_both}
use Rattle.feed.specs.Lines.{empty, lines_of, first_bad_line}
use Rattle.feed.specs.Fields.{row_of, field}
use Rattle.feed.specs.Ids.{list_line, ids_refusal}
use Rattle.std.specs.Prelude.{Option, Some, None}
use Rattle.std.specs.Option.{is_some}
use Rattle.values.specs.Readings.{number_read}
use Rattle.values.proofs.Times.{read-value, read-bad}

module _ (s : List ℕ) (most : ℕ) where
  abbrev two : Bool
  two = (row_of s).sound && eqb (length (row_of s).fields) 2

  pub not-two : two ≡ false → list_line most s ≡ false
  unfolding list_line
  not-two e = and_left _ e

  module _ (h : two ≡ true) where
    pub second-there : 1 < length (row_of s).fields
    second-there = let long = eqb-true (length (row_of s).fields) 2 (and_both (row_of s).sound (eqb (length (row_of s).fields) 2) h).1 in omega arith

    pub second-number : (v : ℕ) → number_read most (field (row_of s) 1) ≡ Some v → list_line most s ≡ true
    unfolding list_line
    second-number v e = rw h (read-value most v (field (row_of s) 1) e).0

    pub second_none : number_read most (field (row_of s) 1) ≡ None → list_line most s ≡ false
    unfolding list_line
    second_none e = rw h (read-bad most (field (row_of s) 1) e)

    pub second-told : (o : Option ℕ) → number_read most (field (row_of s) 1) ≡ o → is_some o ≡ list_line most s
    second-told (Some v) e = sym (second-number v e)
    second-told None e = sym (second_none e)

-- a line between two places of a text
pub nothing-there : (text : List ℕ) (at stop : ℕ) → at ≡ stop → empty (take (stop - at) (drop at text)) ≡ true
unfolding empty
nothing-there text at stop e = let z : stop - at ≡ 0 = omega arith in rw z refl

pub some-there : (l : List ℕ) (good : Bool) → 0 < length l → good ≡ (empty l || good)
unfolding empty
some-there [] good h = absurd (omega arith)
some-there (b ∷ r) good h = refl

pub ids_refusal-is : (most : ℕ) (text : List ℕ) → first_bad_line 29 (list_line most) 1 (lines_of text) ≡ ids_refusal most text
unfolding ids_refusal
ids_refusal-is most text = refl
