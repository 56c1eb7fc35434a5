-- The first line that is found by its place is the one that the definitions of `feed` mean. Assumes nothing.
use Prim.Native.Nat.{ℕ, zero, suc, ◌+◌, ◌-◌, ◌≤◌, ◌<◌}
use native.Mathlib.Omega.{arith}
use mathlib.Core.Path.{◌≡◌, refl, sym, ap, subst, ◌∙◌}
use mathlib.Core.Logic.{⊎_elim}
use mathlib.Core.Bool.{Bool, true, false, not, ◌&&◌, ◌||◌}
use mathlib.Core.List.{List, ◌∷◌}
use lib.Dec.{eqb, eqb-suc-zero}
use lib.ListN.{length, drop, drop_of_length-le}
use borrow.Author.Tests.{eqb-true, eqb-false, ne_eqb}
use Rattle.journeys.specs.Refusals.{Refusal, fine}
use Rattle.journeys.proofs.Tests.{split, never, and_both, cond-true, cond-false, le-or-lt}
use Rattle.feed.specs.Lines.{empty, lines_of, first_bad_line}
use Rattle.feed.specs.Fields.{row_of, field, same}
use Rattle.feed.specs.Values.{value_of}
use Rattle.feed.specs.Ids.{list_line, ids_refusal, names, first_naming, number_in, line_of, number_of, known}
use Rattle.lines.specs.Rows.{undoubled}
use Rattle.lines.specs.Spans.{paired, span_at, bytes_in}
use Rattle.lines.proofs.Lines.{line-at}
use Rattle.lines.proofs.Passes.{pass-good, pass-bad}
use Rattle.lines.proofs.Spans.{whole, span_value, span-paired, same_bytes}
use Rattle.naming.specs.Named.{stop_at, line_at, next_at, first_bytes, names_at, found_from}
use Rattle.naming.proofs.Places.{next-is, found-over, found-step, names-is, names-none}

module _ (text : List ℕ) (at : ℕ) (h : at < length text) where
  -- the lines from a place on
  pub lines_step : lines_of (drop at text) ≡ line_at text at ∷ lines_of (drop (next_at text at) text)
  unfolding line_at next_at stop_at
  lines_step = line-at text at (stop_at text at) (next_at text at) h refl refl

  module _ (number : ℕ) (good : List ℕ → Bool) (i : ℕ) where
    pub step-good : (empty (line_at text at) || good (line_at text at)) ≡ true → first_bad_line number good i (lines_of (drop at text)) ≡ first_bad_line number good (i + 1) (lines_of (drop (next_at text at) text))
    unfolding line_at next_at stop_at
    step-good e = pass-good number good text i at (stop_at text at) (next_at text at) h refl refl e

    -- where no line is refused, this one is good, and so are those behind it
    pub all-good : eqb number 0 ≡ false → first_bad_line number good i (lines_of (drop at text)) ≡ fine
        → ((empty (line_at text at) || good (line_at text at)) ≡ true) × (first_bad_line number good (i + 1) (lines_of (drop (next_at text at) text)) ≡ fine)
    unfolding line_at next_at stop_at
    all-good z e =
        ⊎_elim
        (λ (t : (empty (line_at text at) || good (line_at text at)) ≡ true). (t, sym (step-good t) ∙ e))
        (λ (t : (empty (line_at text at) || good (line_at text at)) ≡ false).
        let q = sym (pass-bad number good text i at (stop_at text at) (next_at text at) h refl refl z t) ∙ e in
        absurd (eqb-false number 0 z (ap (λ (r : Refusal). r.number) q)))
        (split (empty (line_at text at) || good (line_at text at)))

pub or-rest : {a b : Bool} → (a || b) ≡ true → a ≡ false → b ≡ true
or-rest {a = true} {b = b} e z = never refl z
or-rest {a = false} {b = b} e z = e

-- ---- an id, given by the bytes between its ends
module _ (most : ℕ) (text y : List ℕ) (p : paired y ≡ true) where
  names-bytes : (l : List ℕ) → empty l ≡ false → list_line most l ≡ true → names (undoubled y) l ≡ same y (first_bytes l)
  unfolding names list_line first_bytes
  names-bytes l n g =
      let two = eqb-true (length (row_of l).fields) 2 (and_both (row_of l).sound _ (and_both ((row_of l).sound && eqb (length (row_of l).fields) 2) _ g).0).1 in
      let some : 0 < length (row_of l).fields = omega (arith, two) in
      let value = ap (λ t. field t 0) (sym (whole l)) ∙ span_value l 0 (subst (λ t. 0 < length t.fields) (sym (whole l)) some) in
      rw n (ap (λ f. same (undoubled y) f) value ∙ same_bytes y (bytes_in l (span_at l 0)) p (span-paired l 0))

  names-empty : (l : List ℕ) → empty l ≡ true → names (undoubled y) l ≡ false
  unfolding names
  names-empty l e = rw e refl

  -- the tests of the definition and of the reading agree
  tests : (at : ℕ) → (empty (line_at text at) || list_line most (line_at text at)) ≡ true → names (undoubled y) (line_at text at) ≡ names_at text at y
  tests at g =
      ⊎_elim (λ (e : empty (line_at text at) ≡ true). names-empty (line_at text at) e ∙ sym (names-none text at y e))
      (λ (e : empty (line_at text at) ≡ false). names-bytes (line_at text at) e (or-rest g e) ∙ sym (names-is text at y e))
      (split (empty (line_at text at)))

  some-named : (at : ℕ) → names_at text at y ≡ true → empty (line_at text at) ≡ false
  some-named at t = ⊎_elim (λ (e : empty (line_at text at) ≡ true). never t (names-none text at y e)) (λ (e : empty (line_at text at) ≡ false). e) (split (empty (line_at text at)))

  -- what a place that is found tells
  pub record Tells (at i : ℕ) : Type 0 where
    pub number : eqb (first_naming (undoubled y) i (lines_of (drop at text))) 0 ≡ eqb (found_from text at y) 0
    pub here : (q : ℕ) → found_from text at y ≡ suc q
        → (q < length text) × (empty (line_at text q) ≡ false) × (list_line most (line_at text q) ≡ true) × (number_in (undoubled y) (lines_of (drop at text)) ≡ value_of (field (row_of (line_at text q)) 1))

  tells-over : (at i : ℕ) → length text ≤ at → Tells at i
  unfolding first_naming lines_of
  tells-over at i h =
      let z = found-over text at y h in
      record { number = rw (drop_of_length-le text h, z) refl; here = λ q e. absurd (omega (arith, z, e)) }

  module _ (at i : ℕ) (h : at < length text) (g : (empty (line_at text at) || list_line most (line_at text at)) ≡ true) where
    tells-here : 0 < i → names_at text at y ≡ true → Tells at i
    unfolding first_naming number_in
    tells-here s t =
        let n = tests at g ∙ t in
        let r : found_from text at y ≡ suc at = found-step text at y h ∙ cond-true _ _ t in
        let some : empty (line_at text at) ≡ false = some-named at t in
        record {
          number = rw (lines_step text at h, n, r) (ne_eqb i 0 (λ z. absurd (omega (arith, z))) ∙ sym (eqb-suc-zero at));
          here = λ q e. let w : at ≡ q = omega (arith, r, e) in (
            subst (λ k. k < length text) w h,
            subst (λ k. empty (line_at text k) ≡ false) w some,
            subst (λ k. list_line most (line_at text k) ≡ true) w (or-rest g some),
            rw (lines_step text at h, n) (ap (λ (k : ℕ). value_of (field (row_of (line_at text k)) 1)) w),
          );
        }

    tells-past : names_at text at y ≡ false → Tells (next_at text at) (i + 1) → Tells at i
    unfolding first_naming number_in
    tells-past t u =
        let n = tests at g ∙ t in
        let r : found_from text at y ≡ found_from text (next_at text at) y = found-step text at y h ∙ cond-false _ _ t in
        record {
          number = rw (lines_step text at h, n, r) u.number;
          here = λ q e. let w = u.here q (sym r ∙ e) in (w.0, w.1, w.2, rw (lines_step text at h, n) w.3);
        }

  tells : (f at i : ℕ) → length text - at ≤ f → 0 < i → first_bad_line 29 (list_line most) i (lines_of (drop at text)) ≡ fine → Tells at i
  tells zero at i b s e = tells-over at i (omega arith)
  tells (suc f) at i b s e =
      ⊎_elim (λ (h : length text ≤ at). tells-over at i h)
      (λ (h : at < length text).
      let g = all-good text at h 29 (list_line most) i refl e in
      let n = next-is text at h in
      ⊎_elim (λ (t : names_at text at y ≡ true). tells-here at i h g.0 s t)
      (λ (t : names_at text at y ≡ false). tells-past at i h g.0 t (tells f (next_at text at) (i + 1) (omega (arith, n)) (omega arith) g.1))
      (split (names_at text at y)))
      (le-or-lt (length text) at)

  -- an id is known exactly where a line is found, and its number stands there
  module _ (e : ids_refusal most text ≡ fine) where
    told : Tells 0 1
    unfolding ids_refusal
    told = tells (length text) 0 1 (omega arith) (omega arith) e

    pub known_is : known text (undoubled y) ≡ not (eqb (found_from text 0 y) 0)
    unfolding known line_of
    known_is = ap not told.number

    pub number_is : (q : ℕ) → found_from text 0 y ≡ suc q
        → (q < length text) × (empty (line_at text q) ≡ false) × (list_line most (line_at text q) ≡ true) × (number_of text (undoubled y) ≡ value_of (field (row_of (line_at text q)) 1))
    unfolding number_of
    number_is = told.here
