-- Whatever each call lists, the parts of the entries passed stand behind those of step 0. Assumes nothing.
use Rattle.std.proofs.Common.{List, ℕ, Some, ◌/◌, ◌≤◌, length}
use Rattle.journeys.specs.Parts.{Part}
use Rattle.parts.specs.Listing.{ListedIs}
use Rattle.covering.specs.Covering.{Lists}
use Rattle.covering.proofs.Entries.{Going}
use Rattle.covering.proofs.cover.Given as goal

abbrev pub invariant-loop-i : goal.invariant-loop-i
invariant-loop-i g l =
    (l.count ≤ length l.parts / 12)
    × ((b : List ℕ) (step : List Part) (f : ℕ → List Part) → ListedIs 0 step b l.initial.parts (Some l.known) → Lists f l.n (goal.F-post g l.entry) → Going f l.initial.parts l.known l.parts l.count l.i)
