-- The fields of a line by their numbers are those of its definition. Assumes nothing.
use Prim.Native.Nat.{ℕ, ◌+◌, ◌-◌, ◌≤◌, ◌<◌}
use native.Mathlib.Omega.{arith}
use mathlib.Core.Path.{◌≡◌, refl, sym, ap, subst, ◌∙◌}
use mathlib.Core.Bool.{Bool, true, false, ◌&&◌}
use mathlib.Core.List.{List}
use lib.Dec.{eqb}
use lib.ListN.{length, take, drop}
use borrow.Author.Tests.{eq-eqb, ne_eqb, eqb-true}
use Rattle.journeys.proofs.Tests.{and_left, and_right, same_test}
use Rattle.feed.specs.Fields.{row_of, field}
use Rattle.lines.specs.declared.Stand.{Stand}
use Rattle.lines.specs.declared.Stand.TheVariants.{Begins, Ended, Broken}
use Rattle.lines.specs.declared.Span.{Span}
use Rattle.lines.specs.Passing.{stand}
use Rattle.lines.specs.Rows.{row_at, Stood, undoubled}
use Rattle.lines.specs.Spans.{bytes_in, paired}
use Rattle.lines.proofs.Reading.{stand-row}
use Rattle.lines.proofs.Spans.{whole, field-value, span-paired, span-within}
use Rattle.feed.specs.Lines.{empty}
use Rattle.values.specs.Readings.{number_read, time_read}
use Rattle.rows.proofs.Quoteless.{number_read_lem, time-read, empty-bytes, empty-part}
use Rattle.rows.specs.Placed.{place_in, place_of, field_span}

module _ (s : List ℕ) where
  -- what an answer for n fields tells of the whole line
  told : (n : ℕ) {r : Stand} → stand s n 0 ≡ r → Stood s (row_of s) n r
  told n {r} e = subst (λ t. Stood s t n r) (whole s) (subst (λ q. Stood s (row_at s 0) n q) e (stand-row s n 0 (omega arith)))

  -- asked for one field more than are wanted, a line with these ends with one to spare
  module _ (n : ℕ) where
    abbrev these : Bool
    these = (row_of s).sound && eqb (length (row_of s).fields) n

    pub ended-these : (over : ℕ) → stand s (n + 1) 0 ≡ Ended over → these ≡ eqb over 1
    ended-these over e =
        let t : (over + length (row_of s).fields ≡ n + 1) × ((row_of s).sound ≡ true) = told (n + 1) e in
        rw t.1
        (same_test _ _ (λ p. eq-eqb over 1 (let q = eqb-true (length (row_of s).fields) n p in omega arith))
        (λ p. eq-eqb (length (row_of s).fields) n (let q = eqb-true over 1 p in omega arith)))

    pub longer-these : (at : ℕ) → stand s (n + 1) 0 ≡ Begins at → these ≡ false
    longer-these at e =
        let long : n + 1 ≤ length (row_of s).fields = (told (n + 1) e).0 in
        and_right (row_of s).sound (ne_eqb _ _ (λ (p : length (row_of s).fields ≡ n). omega arith))

    pub broken-these : (over : ℕ) → stand s (n + 1) 0 ≡ Broken over → these ≡ false
    broken-these over e = and_left _ (told (n + 1) e).1

  -- a field that is there
  module _ (k : ℕ) (h : k < length (row_of s).fields) where
    begins : stand s k 0 ≡ Begins (place_of s k)
    unfolding place_of
    begins = go (stand s k 0) refl where
      go : (r : Stand) → stand s k 0 ≡ r → stand s k 0 ≡ Begins (place_in (stand s k 0))
      go (Begins at) e = e ∙ ap (λ q. Begins (place_in q)) (sym e)
      go (Ended over) e = let t : over + length (row_of s).fields ≡ k = (told k e).0 in absurd (omega arith)
      go (Broken over) e = let t : over + length (row_of s).fields ≡ k = (told k e).0 in absurd (omega arith)

    pub place-within : place_of s k ≤ length s
    place-within = (told k begins).1

    -- its bytes lie in the line, and are its value but for doubled quotes
    pub within : (p : Span) → p ≡ field_span s k → (p.start ≤ p.stop) × (p.stop ≤ length s)
    unfolding field_span
    within p e = span-within s (place_of s k) p place-within e

    pub value : field (row_of s) k ≡ undoubled (bytes_in s (field_span s k))
    unfolding field_span
    value = field-value s k (place_of s k) begins h

    pub pairs : paired (bytes_in s (field_span s k)) ≡ true
    unfolding field_span
    pairs = span-paired s (place_of s k)

    -- what is asked of its value, asked of the bytes between its ends
    module _ (p : Span) (e : p ≡ field_span s k) where
      abbrev between : List ℕ
      between = take (p.stop - p.start) (drop p.start s)

      value_of : field (row_of s) k ≡ undoubled between
      unfolding bytes_in
      value_of = value ∙ ap (λ q. undoubled (bytes_in s q)) (sym e)

      pairs_of : paired between ≡ true
      unfolding bytes_in
      pairs_of = ap (λ q. paired (bytes_in s q)) e ∙ pairs

      pub as_number : (most : ℕ) → number_read most between ≡ number_read most (field (row_of s) k)
      as_number most = sym (ap (number_read most) value_of ∙ number_read_lem most between pairs_of)

      pub as-time : time_read between ≡ time_read (field (row_of s) k)
      as-time = sym (ap time_read value_of ∙ time-read between pairs_of)

      pub as-blank : eqb p.start p.stop ≡ empty (field (row_of s) k)
      as-blank = sym (ap empty value_of ∙ empty-bytes between ∙ empty-part s p.start p.stop (within p e).0 (within p e).1)
