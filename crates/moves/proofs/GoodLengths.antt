-- What lengths that are not refused say. Assumes nothing.
use mathlib.Core.Path.{◌≡◌}
use mathlib.Core.Bool.{◌&&◌}
use Prim.Native.Nat.{ℕ, ◌*◌, ◌/◌, ◌≤◌}
use lib.Dec.{leb}
use lib.ListN.{length}
use mathlib.Core.List.{List}
use borrow.Author.Tests.{eqb-true, leb-true}
use native.Mathlib.Omega.{arith}
use Rattle.journeys.specs.Refusals.{unless, whole_of, table_of}
use Rattle.journeys.proofs.Tests.{and_both}
use Rattle.journeys.proofs.Refusals.{or-fine, unless-fine}
use Rattle.moves.specs.Moved.{move_lengths}

module _ (from to : ℕ) (source target : List ℕ) (e : (move_lengths from to source target).number ≡ 0) where
  pub source-few : length source / from ≤ 262144
  unfolding move_lengths table_of
  source-few =
      leb-true _ _
      (and_both (whole_of from source && leb 0 (length source / from)) _
      (unless-fine (table_of from 0 262144 source) 1 2 (omega arith) (or-fine (unless (table_of from 0 262144 source) 1 2) _ e).0)).1

  pub target-long : length target ≡ to * (length source / from)
  unfolding move_lengths
  target-long =
      eqb-true _ _ (unless-fine _ 1 6 (omega arith) (or-fine (unless (table_of from 0 262144 source) 1 2) _ e).1)
