-- Whatever the pieces mean by number, the parts of those passed stand behind the others. Assumes nothing.
use Rattle.std.proofs.Common.{◌≡◌, List, ℕ, ◌-◌, ◌/◌, ◌<◌, ◌≤◌, length}
use Rattle.std.specs.Prelude.{Some}
use Rattle.journeys.specs.Parts.{Part}
use Rattle.parts.specs.Listing.{part_in, run_on, ListedIs}
use Rattle.parts.specs.declared.Piece.{Piece}
use Rattle.parts.proofs.list_each.Given as goal

abbrev pub invariant-loop-i : goal.invariant-loop-i
invariant-loop-i g l =
    (l.first ≤ l.i) × (l.listed ≤ length l.parts / 12)
    × ((f : ℕ → List Part) → ((i : ℕ) (p : Piece) → l.first ≤ i → i < l.end → goal.F-post g l.piece i p → part_in p ≡ f i)
    → ListedIs l.count (run_on f l.first (l.i - l.first)) l.initial.parts l.parts (Some l.listed))
