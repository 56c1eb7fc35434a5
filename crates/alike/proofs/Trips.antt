-- Two ids have one first line in the definition exactly where they have one first place. Assumes nothing.
use mathlib.Core.Path.{◌≡◌, refl, sym, ap, ap₂, subst, ◌∙◌}
use mathlib.Core.Logic.{◌⊎◌, inl, inr, ⊎_elim}
use mathlib.Core.Bool.{Bool, true, false, not, cond, ◌&&◌, ◌||◌}
use mathlib.Core.List.{List, [], ◌∷◌}
use Prim.Native.Nat.{ℕ, zero, suc, ◌+◌, ◌-◌, ◌≤◌, ◌<◌}
use native.Mathlib.Omega.{arith}
use lib.Dec.{eqb}
use lib.ListN.{length, drop, drop_of_length-le}
use borrow.Author.Tests.{eqb-true, eq-eqb, ne_eqb}
use Rattle.journeys.specs.Refusals.{fine}
use Rattle.journeys.proofs.Tests.{split, never, and_both, cond-true, cond-false, le-or-lt}
use Rattle.feed.specs.Lines.{empty, lines_of, first_bad_line}
use Rattle.feed.specs.Fields.{row_of, field, same}
use Rattle.feed.specs.Ids.{list_line, ids_refusal, names, first_naming, line_of}
use Rattle.lines.specs.Rows.{undoubled}
use Rattle.lines.specs.Spans.{paired, span_at, bytes_in}
use Rattle.lines.proofs.Spans.{whole, span_value, span-paired, same_bytes}
use Rattle.naming.specs.Named.{line_at, next_at, first_bytes, names_at, found_from}
use Rattle.naming.proofs.Places.{next-is, found-over, found-step, names-is, names-none}
use Rattle.naming.proofs.Meaning.{lines_step, all-good, or-rest}

module _ (most : ℕ) (text : List ℕ) where
  -- the tests of the definition and of the reading agree
  module _ (y : List ℕ) (p : paired y ≡ true) where
    names-bytes : (l : List ℕ) → empty l ≡ false → list_line most l ≡ true → names (undoubled y) l ≡ same y (first_bytes l)
    unfolding names list_line first_bytes
    names-bytes l n g =
        let two = eqb-true (length (row_of l).fields) 2 (and_both (row_of l).sound _ (and_both ((row_of l).sound && eqb (length (row_of l).fields) 2) _ g).0).1 in
        let some : 0 < length (row_of l).fields = omega (arith, two) in
        let value = ap (λ t. field t 0) (sym (whole l)) ∙ span_value l 0 (subst (λ t. 0 < length t.fields) (sym (whole l)) some) in
        rw n (ap (λ f. same (undoubled y) f) value ∙ same_bytes y (bytes_in l (span_at l 0)) p (span-paired l 0))

    names-empty : (l : List ℕ) → empty l ≡ true → names (undoubled y) l ≡ false
    unfolding names
    names-empty l e = rw e refl

    tests : (at : ℕ) → (empty (line_at text at) || list_line most (line_at text at)) ≡ true → names (undoubled y) (line_at text at) ≡ names_at text at y
    tests at g =
        ⊎_elim (λ (e : empty (line_at text at) ≡ true). names-empty (line_at text at) e ∙ sym (names-none text at y e))
        (λ (e : empty (line_at text at) ≡ false). names-bytes (line_at text at) e (or-rest g e) ∙ sym (names-is text at y e))
        (split (empty (line_at text at)))

  -- a line behind is none or a later one
  naming-later : (id : List ℕ) (i : ℕ) (ls : List (List ℕ)) → (first_naming id i ls ≡ 0) ⊎ (i ≤ first_naming id i ls)
  unfolding first_naming
  naming-later id i [] = inl refl
  naming-later id i (l ∷ ls) = ⊎_elim (λ (t : names id l ≡ true). inr (rw t (omega arith))) (λ (t : names id l ≡ false). rw t (⊎_elim (λ e. inl e) (λ h. inr (omega (arith, h))) (naming-later id (i + 1) ls))) (split (names id l))

  found-later : (f at : ℕ) (y : List ℕ) → length text - at ≤ f → (found_from text at y ≡ 0) ⊎ (at < found_from text at y)
  found-later zero at y h = inl (found-over text at y (omega arith))
  found-later (suc f) at y h =
      ⊎_elim (λ (l : length text ≤ at). inl (found-over text at y l))
      (λ (l : at < length text).
      let s = found-step text at y l in
      let n = next-is text at l in
      ⊎_elim (λ (t : names_at text at y ≡ true). inr (let e = s ∙ cond-true _ _ t in omega (arith, e)))
      (λ (t : names_at text at y ≡ false).
      let e = s ∙ cond-false _ _ t in
      ⊎_elim (λ q. inl (e ∙ q)) (λ q. inr (omega (arith, e, q, n))) (found-later f (next_at text at) y (omega (arith, n))))
      (split (names_at text at y)))
      (le-or-lt (length text) at)

  apart : (a b : ℕ) → (b ≡ 0) ⊎ (suc a ≤ b) → 0 < a → (eqb a b ≡ false) × (eqb b a ≡ false)
  apart a b (inl e) h = (ne_eqb a b (λ q. absurd (omega (arith, q, e, h))), ne_eqb b a (λ q. absurd (omega (arith, q, e, h))))
  apart a b (inr k) h = (ne_eqb a b (λ q. absurd (omega (arith, q, k))), ne_eqb b a (λ q. absurd (omega (arith, q, k))))

  up_one : {i r : ℕ} → (r ≡ 0) ⊎ (i + 1 ≤ r) → (r ≡ 0) ⊎ (suc i ≤ r)
  up_one (inl e) = inl e
  up_one (inr h) = inr (omega (arith, h))

  -- ---- two ids
  module _ (y z : List ℕ) (py : paired y ≡ true) (pz : paired z ≡ true) where
    abbrev PairAt : ℕ → ℕ → Type 0
    PairAt at i = eqb (first_naming (undoubled y) i (lines_of (drop at text))) (first_naming (undoubled z) i (lines_of (drop at text))) ≡ eqb (found_from text at y) (found_from text at z)

    pair-over : (at i : ℕ) → length text ≤ at → PairAt at i
    unfolding first_naming lines_of
    pair-over at i h = rw (drop_of_length-le text h, found-over text at y h, found-over text at z h) refl

    module _ (at i : ℕ) (h : at < length text) (g : (empty (line_at text at) || list_line most (line_at text at)) ≡ true) (s : 0 < i) where
      abbrev rest : List (List ℕ)
      rest = lines_of (drop (next_at text at) text)

      later-found : (w : List ℕ) → (found_from text (next_at text at) w ≡ 0) ⊎ (suc (suc at) ≤ found_from text (next_at text at) w)
      later-found w = let n = next-is text at h in ⊎_elim (λ e. inl e) (λ q. inr (omega (arith, q, n))) (found-later (length text - next_at text at) (next_at text at) w (omega arith))

      both-here : names_at text at y ≡ true → names_at text at z ≡ true → PairAt at i
      unfolding first_naming
      both-here a b =
          rw (lines_step text at h, tests y py at g ∙ a, tests z pz at g ∙ b, found-step text at y h ∙ cond-true _ _ a, found-step text at z h ∙ cond-true _ _ b) (eq-eqb i i refl ∙ sym (eq-eqb (suc at) (suc at) refl))

      first-here : names_at text at y ≡ true → names_at text at z ≡ false → PairAt at i
      unfolding first_naming
      first-here a b =
          rw (lines_step text at h, tests y py at g ∙ a, tests z pz at g ∙ b, found-step text at y h ∙ cond-true _ _ a, found-step text at z h ∙ cond-false _ _ b)
          ((apart i (first_naming (undoubled z) (i + 1) rest) (up_one (naming-later (undoubled z) (i + 1) rest)) s).0 ∙ sym (apart (suc at) (found_from text (next_at text at) z) (later-found z) (omega arith)).0)

      second-here : names_at text at y ≡ false → names_at text at z ≡ true → PairAt at i
      unfolding first_naming
      second-here a b =
          rw (lines_step text at h, tests y py at g ∙ a, tests z pz at g ∙ b, found-step text at y h ∙ cond-false _ _ a, found-step text at z h ∙ cond-true _ _ b)
          ((apart i (first_naming (undoubled y) (i + 1) rest) (up_one (naming-later (undoubled y) (i + 1) rest)) s).1 ∙ sym (apart (suc at) (found_from text (next_at text at) y) (later-found y) (omega arith)).1)

      neither-here : names_at text at y ≡ false → names_at text at z ≡ false → PairAt (next_at text at) (i + 1) → PairAt at i
      unfolding first_naming
      neither-here a b r = rw (lines_step text at h, tests y py at g ∙ a, tests z pz at g ∙ b, found-step text at y h ∙ cond-false _ _ a, found-step text at z h ∙ cond-false _ _ b) r

    pair : (f at i : ℕ) → length text - at ≤ f → 0 < i → first_bad_line 29 (list_line most) i (lines_of (drop at text)) ≡ fine → PairAt at i
    pair zero at i b s e = pair-over at i (omega arith)
    pair (suc f) at i b s e =
        ⊎_elim (λ (h : length text ≤ at). pair-over at i h)
        (λ (h : at < length text).
        let g = all-good text at h 29 (list_line most) i refl e in
        let n = next-is text at h in
        ⊎_elim
        (λ (a : names_at text at y ≡ true). ⊎_elim (λ (c : names_at text at z ≡ true). both-here at i h g.0 s a c) (λ (c : names_at text at z ≡ false). first-here at i h g.0 s a c) (split (names_at text at z)))
        (λ (a : names_at text at y ≡ false).
        ⊎_elim (λ (c : names_at text at z ≡ true). second-here at i h g.0 s a c)
        (λ (c : names_at text at z ≡ false). neither-here at i h g.0 s a c (pair f (next_at text at) (i + 1) (omega (arith, n)) (omega arith) g.1))
        (split (names_at text at z)))
        (split (names_at text at y)))
        (le-or-lt (length text) at)

    pub one_trip : ids_refusal most text ≡ fine → eqb (line_of text (undoubled y)) (line_of text (undoubled z)) ≡ eqb (found_from text 0 y) (found_from text 0 z)
    unfolding ids_refusal line_of
    one_trip e = pair (length text) 0 1 (omega arith) (omega arith) e
