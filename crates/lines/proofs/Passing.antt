-- Some of the fields to be passed, and then the others. Assumes nothing.
use Prim.Native.Nat.{ℕ, ◌+◌, ◌-◌, ◌≤◌}
use native.Mathlib.Omega.{arith}
use mathlib.Core.Path.{◌≡◌, sym, ap, subst, ◌∙◌}
use mathlib.Core.List.{List}
use lib.ListN.{length}
use Rattle.lines.specs.declared.Stand.{Stand}
use Rattle.lines.specs.declared.Stand.TheVariants.{Begins, Ended, Broken}
use Rattle.lines.specs.Passing.{stand}
use Rattle.lines.specs.Onward.{onward}
use Rattle.lines.specs.Rows.{row_at, Stood}
use Rattle.lines.proofs.Onward.{stand-more}
use Rattle.lines.proofs.Reading.{stand-row}

module _ (s : List ℕ) (most left at : ℕ) (h : at ≤ length s) (few : most ≤ left) where
  told : {r : Stand} → stand s most at ≡ r → Stood s (row_at s at) most r
  told e = subst (λ r. Stood s (row_at s at) most r) e (stand-row s most at h)

  all : {r : Stand} → stand s most at ≡ r → stand s left at ≡ onward s (left - most) r
  all e =
      let sum : left ≡ most + (left - most) = omega arith in
      ap (λ n. stand s n at) sum ∙ sym (stand-more s most (left - most) at) ∙ ap (onward s (left - most)) e

  pub goes_on : (p : ℕ) → stand s most at ≡ Begins p → (p ≤ length s) × (stand s (left - most) p ≡ stand s left at)
  goes_on p e = ((told e).1, sym (all e))

  pub ends-here : (over : ℕ) → stand s most at ≡ Ended over → (over ≤ most) × (stand s left at ≡ Ended (over + (left - most)))
  ends-here over e = (omega (arith, (told e).0), all e)

  pub breaks-here : (over : ℕ) → stand s most at ≡ Broken over → (over ≤ most) × (stand s left at ≡ Broken (over + (left - most)))
  breaks-here over e = (omega (arith, (told e).0), all e)
