-- Line 1 and what stands behind it, by their places. Assumes nothing.
use mathlib.Core.Path.{◌≡◌, refl, ap, subst, ◌∙◌}
use mathlib.Core.Bool.{true}
use mathlib.Core.List.{List, [], ◌∷◌}
use Prim.Native.Nat.{ℕ, ◌+◌, ◌-◌}
use native.Mathlib.Omega.{arith}
use lib.ListN.{get_or, take, drop}
use lib.Seq.{take-nil, drop-nil}
use Rattle.feed.specs.Lines.{lines_of}
use Rattle.feed.specs.Fields.{row_of}
use Rattle.feed.specs.Stops.{header, columns_once, below}
use Rattle.lines.specs.Ends.{width, end_width}
use Rattle.lines.proofs.Lines.{line-at}
use Rattle.lines.proofs.Passes.{next-within}
use Rattle.stoplist.specs.declared.Columns.{Columns}
use Rattle.headings.specs.Found.{Found}
use Rattle.headings.specs.Opened.{Opened}
use Rattle.headings.proofs.Inside.{found_inside}

module _ (text : List ℕ) (stop next : ℕ) (s : stop ≡ 0 + width (drop 0 text)) (n : next ≡ stop + end_width (drop stop text)) where
  parts : (t : List ℕ) → stop ≡ 0 + width (drop 0 t) → next ≡ stop + end_width (drop stop t) → (take stop t ≡ get_or (lines_of t) 0 []) × (lines_of (drop next t) ≡ below t)
  unfolding below lines_of
  parts [] p q = (take-nil stop, ap lines_of (drop-nil next))
  parts (b ∷ r) p q =
      let first : lines_of (b ∷ r) ≡ take (stop - 0) (b ∷ r) ∷ lines_of (drop next (b ∷ r)) = line-at (b ∷ r) 0 stop next (omega arith) p q in
      let whole : stop - 0 ≡ stop = omega arith in
      (rw (first, whole) refl, rw first refl)

  pub first-row : row_of (take stop text) ≡ header text
  unfolding header
  first-row = ap row_of (parts text s n).0

  pub opened : (C : Columns) → columns_once (header text) ≡ true → Found (take stop text) C → Opened text next C
  unfolding header
  opened C h f =
      let p = parts text s n in
      record {
        within = (next-within text 0 stop next (omega arith) s n).1;
        rest = p.1;
        found = subst (λ (l : List ℕ). Found l C) p.0 f;
        inside = found_inside (take stop text) C (ap (λ (l : List ℕ). columns_once (row_of l)) p.0 ∙ h) f;
      }
