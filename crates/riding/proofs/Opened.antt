-- The search begins: the seeds stand in the map, nothing is settled, no hop is marked or pending. Assumes nothing.
use mathlib.Core.Path.{◌≡◌, refl, sym, ap, subst, fun_ext, ◌∙◌}
use mathlib.Core.Logic.{◌⊎◌, inl, inr}
use mathlib.Core.Bool.{Bool, true, false}
use mathlib.Core.List.{List, []}
use Prim.Native.Nat.{ℕ, ◌/◌, ◌%◌, ◌≤◌, ◌<◌}
use native.Mathlib.Nat.{zero-div}
use native.Mathlib.Omega.{arith}
use lib.Dec.{eqb}
use lib.ListN.{length, get_or, replicate, length-replicate, get_or-eq_default}
use Rattle.journeys.specs.Tables.{Tables, vertex_count}
use Rattle.journeys.specs.Query.{Query, allowed}
use Rattle.journeys.specs.Settled.{Settled}
use Rattle.journeys.specs.Network.{distance_in, within}
use Rattle.journeys.specs.Records.{seed}
use Rattle.journeys.specs.Valid.{Valid}
use Rattle.journeys.proofs.Tests.{never, le-or-lt}
use Rattle.journeys.proofs.Known.{not_within}
use Rattle.boarding.specs.Rides.{Mode}
use Rattle.boarding.specs.RideOrder.{IsRideOrder}
use Rattle.boarding.proofs.Searching.{Searching, begins}
use Rattle.worktable.specs.declared.Table.{Table}
use Rattle.marks.specs.Marks.{power, bit}
use Rattle.bitset.proofs.Joins.{none-joined}
use Rattle.improving.specs.Figures.{Ready, figures}
use Rattle.marking.specs.Pends.{State, marks_of, figures_of, state, Fit}
use Rattle.marking.specs.declared.Pending.{Pending}
use Rattle.ride_opening.proofs.SeedFigures.{seed-low}
use Rattle.ridesteps.specs.Between.{Between, Opened}

-- An array of zeros has no number, below its end or behind it.
no-bit : (n i : ℕ) → bit (replicate n 0) i ≡ false
unfolding bit
no-bit n i = go (le-or-lt n (i / 16))
  where
    behind : n ≤ i / 16 → bit (replicate n 0) i ≡ false
    behind h =
        ap (λ (x : ℕ). eqb (x / power (i % 16) % 2) 1) (get_or-eq_default (replicate n 0) 0 (omega (arith, h, length-replicate {A = ℕ} n 0)))
        ∙ ap (λ (x : ℕ). eqb (x % 2) 1) (zero-div (power (i % 16)))

    go : (n ≤ i / 16) ⊎ (i / 16 < n) → bit (replicate n 0) i ≡ false
    go (inl h) = behind h
    go (inr h) = none-joined n i h

nothing-within : (v : ℕ) → within (distance_in []) v ≡ false
unfolding distance_in
nothing-within v = not_within (distance_in []) v (omega arith)

module _ (N : Tables) (Q : Query) (M : Mode) (ok : Valid N Q) (p : Pending) (table marks set stack : List ℕ) (ready : Ready p.table table) (seeds : figures p.table table ≡ seed N Q)
    (low : p.height ≡ 0) (no-marks : marks ≡ replicate 16384 0) (none-set : set ≡ replicate 4096 0) (long : length stack ≡ 16384) where
  abbrev s : State
  s = state p table marks stack

  unmarked : (j : ℕ) → marks_of s j ≡ false
  unmarked j = ap (λ (x : List ℕ). bit x j) no-marks ∙ no-bit 16384 j

  figure-is : (u : ℕ) → figures_of s u ≡ seed N Q u
  figure-is u = ap (λ (f : ℕ → ℕ). f u) seeds

  fit : Fit N Q set s
  fit =
      record {
        ready = ready;
        marks_long = ap length no-marks ∙ length-replicate {A = ℕ} 16384 0;
        set_long = ap length none-set ∙ length-replicate {A = ℕ} 4096 0;
        stack_long = long;
        height = omega (arith, low);
        stacked = λ i h. absurd (let z : ⊥ = omega (arith, h, low) in z);
        low = λ j h. never h (unmarked j);
        timely = λ j h. never h (unmarked j);
      }

  pub opened : Opened N Q M set s
  opened l O =
      record {
        fit = fit;
        members = λ v. ap (λ (x : List ℕ). bit x v) none-set ∙ no-bit 4096 v ∙ sym (nothing-within v);
        searching = λ ok O.
            subst (λ (m : ℕ → Bool). Searching N Q M ok O 0 m (figures_of s)) (fun_ext (λ j. sym (unmarked j)))
            (begins N Q M ok O (figures_of s) (λ u h. seed-low N Q ok u (omega (arith, h, figure-is u))) (λ u h. figure-is u));
        prefix = λ i j a b c d e h. never h (unmarked j);
        empty = low;
      }
