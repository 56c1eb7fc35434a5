-- An id that stands in a line, looked up. Assumes nothing.
use Prim.Native.Nat.{ℕ, ◌+◌, ◌-◌, ◌<◌}
use native.Mathlib.Omega.{arith}
use mathlib.Core.Path.{◌≡◌, refl, sym, ap, ◌∙◌}
use mathlib.Core.Logic.{⊎_elim}
use mathlib.Core.Bool.{Bool, true, false, not, ◌||◌}
use mathlib.Core.List.{List, [], ◌∷◌}
use lib.Dec.{eqb}
use lib.ListN.{length, take, drop}
use borrow.Author.Tests.{eqb-true, eqb-false}
use Rattle.journeys.specs.Refusals.{Refusal, fine}
use Rattle.journeys.proofs.Tests.{split, and_both}
use Rattle.feed.specs.Lines.{empty, lines_of, first_bad_line}
use Rattle.feed.specs.Fields.{row_of}
use Rattle.feed.specs.Ids.{ids_refusal, known}
use Rattle.lines.specs.declared.Span.{Span}
use Rattle.lines.specs.Ends.{width, end_width}
use Rattle.lines.specs.Spans.{bytes_in}
use Rattle.lines.proofs.Passes.{pass-good, pass-bad}
use Rattle.rows.specs.Placed.{field_span}
use Rattle.rows.proofs.Fields.{value, pairs}
use Rattle.naming.specs.Named.{found_from}
use Rattle.naming.proofs.Meaning.{known_is, or-rest}
use Rattle.known.specs.Counted.{counted, id_known}

-- the bytes of a field
pub bytes-between : (list l : List ℕ) (k : ℕ) (p : Span) → p ≡ field_span l k → found_from list 0 (take (p.stop - p.start) (drop p.start l)) ≡ found_from list 0 (bytes_in l (field_span l k))
unfolding bytes_in
bytes-between list l k p e = ap (λ (q : Span). found_from list 0 (bytes_in l q)) e

pub has-field : (count k : ℕ) (l : List ℕ) → counted count l ≡ true → k < count → k < length (row_of l).fields
unfolding counted
has-field count k l e h = let q = eqb-true (length (row_of l).fields) count (and_both (row_of l).sound _ e).1 in omega (arith, q)

-- listed is what is found
pub listed-is : (most : ℕ) (list l : List ℕ) (k : ℕ) → ids_refusal most list ≡ fine → k < length (row_of l).fields → id_known list k l ≡ not (eqb (found_from list 0 (bytes_in l (field_span l k))) 0)
unfolding id_known
listed-is most list l k e h = ap (known list) (value l k h) ∙ known_is most list (bytes_in l (field_span l k)) (pairs l k h) e

pub empty-none : (l : List ℕ) → length l ≡ 0 → empty l ≡ true
unfolding empty
empty-none [] e = refl
empty-none (b ∷ r) e = absurd (omega (arith, e))

pub empty-some : (l : List ℕ) → (length l ≡ 0 → ⊥) → empty l ≡ false
unfolding empty
empty-some [] e = absurd (e refl)
empty-some (b ∷ r) e = refl

pub counted-some : (count : ℕ) (l : List ℕ) → (empty l || counted count l) ≡ true → (length l ≡ 0 → ⊥) → counted count l ≡ true
counted-some count l g e = or-rest g (empty-some l e)

pub or-true : {a : Bool} (b : Bool) → a ≡ true → true ≡ (a || b)
or-true b e = rw e refl

pub or-false : {a b c : Bool} → a ≡ false → c ≡ b → c ≡ (a || b)
or-false e f = rw e f

-- where no line is refused, the one at a place is good, and so are those behind it
module _ (number : ℕ) (good : List ℕ → Bool) (text : List ℕ) (i at stop next : ℕ) (h : at < length text) (s : stop ≡ at + width (drop at text)) (n : next ≡ stop + end_width (drop stop text)) (z : eqb number 0 ≡ false)
    (e : first_bad_line number good i (lines_of (drop at text)) ≡ fine) where
  abbrev line : List ℕ
  line = take (stop - at) (drop at text)

  pub good-here : (empty line || good line) ≡ true
  good-here =
      ⊎_elim (λ (t : (empty line || good line) ≡ true). t)
      (λ (t : (empty line || good line) ≡ false). absurd (eqb-false number 0 z (ap (λ (r : Refusal). r.number) (sym (pass-bad number good text i at stop next h s n z t) ∙ e))))
      (split (empty line || good line))

  pub good-on : first_bad_line number good (i + 1) (lines_of (drop next text)) ≡ fine
  good-on = sym (pass-good number good text i at stop next h s n good-here) ∙ e
