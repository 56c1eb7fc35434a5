-- The stops of lines, line by line. Assumes nothing.
use mathlib.Core.Path.{◌≡◌, refl, ◌∙◌}
use mathlib.Core.Bool.{Bool, true, false, ◌||◌}
use mathlib.Core.List.{List, [], ◌∷◌}
use Prim.Native.Nat.{ℕ, ◌+◌, ◌-◌, ◌≤◌, ◌<◌}
use native.Mathlib.Omega.{arith}
use native.Mathlib.Decide.{ℕ_discrete}
use lib.ListN.{length, take, drop, drop_of_length-le}
use Rattle.feed.specs.Lines.{empty, lines_of}
use Rattle.lines.specs.Ends.{width, end_width}
use Rattle.lines.proofs.Lines.{line-at}
use Rattle.rows.proofs.Quoteless.{empty-part}
use Rattle.lines.proofs.Passes.{stop-within}
use Rattle.naming.proofs.Meaning.{or-rest}
use borrow.Author.Tests.{eq-eqb, ne_eqb}
use lib.Dec.{eqb}
use Rattle.stoplist.specs.declared.Columns.{Columns}
use Rattle.stoplist.specs.Made.{stop_made, stops_made}

-- ---- the stops of the lines from a place on
module _ (C : Columns) (stops trips text : List ℕ) (place stop next i : ℕ) (h : place < length text) (s : stop ≡ place + width (drop place text)) (n : next ≡ stop + end_width (drop stop text)) where
  abbrev line : List ℕ
  line = take (stop - place) (drop place text)

  empty-is : empty line ≡ eqb place stop
  empty-is = let w = stop-within text place stop 0 (omega arith) s in empty-part text place stop w.0 w.1

  pub some-here : place < stop → empty line ≡ false
  some-here l = empty-is ∙ ne_eqb place stop (λ e. absurd (omega (arith, e)))

  pub made-past : (place < stop → ⊥) → stops_made C stops trips i (lines_of (drop place text)) ≡ stops_made C stops trips (i + 1) (lines_of (drop next text))
  unfolding stops_made
  made-past l =
      let w = stop-within text place stop 0 (omega arith) s in
      rw (line-at text place stop next h s n, empty-is ∙ eq-eqb place stop (level w.0 l)) refl
    where
      level : {a b : ℕ} → a ≤ b → (a < b → ⊥) → a ≡ b
      level {a} {b} p q = go (ℕ_discrete a b)
        where
          go : Dec (a ≡ b) → a ≡ b
          go (yes e) = e
          go (no e) = absurd (q (omega arith))

  pub made-here : place < stop → stops_made C stops trips i (lines_of (drop place text)) ≡ stop_made C stops trips i line ∷ stops_made C stops trips (i + 1) (lines_of (drop next text))
  unfolding stops_made
  made-here l = rw (line-at text place stop next h s n, some-here l) refl

pub made-over : (C : Columns) (stops trips text : List ℕ) (place i : ℕ) → length text ≤ place → stops_made C stops trips i (lines_of (drop place text)) ≡ []
unfolding stops_made lines_of
made-over C stops trips text place i h = rw (drop_of_length-le text h) refl

pub full-not : {j n : ℕ} → j ≤ n → (j ≡ n → ⊥) → j < n
full-not {j} {n} h q = go (ℕ_discrete j n)
  where
    go : Dec (j ≡ n) → j < n
    go (yes e) = absurd (q e)
    go (no e) = omega arith

pub good-some : {a b : Bool} → (a || b) ≡ true → a ≡ false → b ≡ true
good-some e f = or-rest e f
