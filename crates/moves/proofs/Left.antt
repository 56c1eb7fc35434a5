-- What a move leaves in its target, refused and done. Assumes nothing.
use mathlib.Core.Path.{◌≡◌}
use mathlib.Core.Logic.{◌≢◌}
use mathlib.Core.List.{List}
use Prim.Native.Nat.{ℕ}
use borrow.Author.Tests.{eq-eqb, ne_eqb}
use Rattle.journeys.specs.Refusals.{Refusal}
use Rattle.journeys.proofs.Tests.{cond-true, cond-false}
use Rattle.moves.specs.Moved.{leaves}

pub refused-leaves : (r : Refusal) (moved target : List ℕ) → r.number ≢ 0 → leaves r moved target ≡ target
unfolding leaves
refused-leaves r moved target n = cond-false moved target (ne_eqb r.number 0 n)

pub done-leaves : (r : Refusal) (moved target : List ℕ) → r.number ≡ 0 → leaves r moved target ≡ moved
unfolding leaves
done-leaves r moved target e = cond-true moved target (eq-eqb r.number 0 e)
