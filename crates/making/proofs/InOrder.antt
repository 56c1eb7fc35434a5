-- The refusals of making in their order, and what the target holds after each. Assumes nothing.
use mathlib.Core.Path.{◌≡◌, sym, ap, ◌∙◌}
use mathlib.Core.Logic.{◌≢◌}
use mathlib.Core.List.{List}
use Prim.Native.Nat.{ℕ, ◌*◌}
use native.Mathlib.Omega.{arith}
use lib.ListN.{length}
use borrow.Author.Tests.{eq-eqb, ne_eqb, eqb-true}
use Rattle.journeys.specs.Tables.{tables_of}
use Rattle.journeys.specs.Records.{record_count}
use Rattle.journeys.specs.Refusals.{Refusal, fine, table_lengths, contents}
use Rattle.journeys.specs.CourierList.{list_bytes, list_length}
use Rattle.journeys.proofs.Tests.{cond-true, cond-false}
use Rattle.journeys.proofs.Refusals.{or-first, or-next, unless-good, unless-bad, unless-fine}
use Rattle.listing.specs.Places.{total}
use Rattle.listing.proofs.Froms.{total-is}
use Rattle.audit.proofs.Scan.{same_number}
use Rattle.journeys.specs.CourierMaking.{making_refusal, made}

module _ (size : ℕ) (v w h list : List ℕ) where
  -- ---- the length
  pub long-enough : length list ≡ 4 * total size w h → fine ≡ list_length (tables_of size v w h) list
  unfolding list_length
  long-enough e = sym (unless-good _ 1 6 (eq-eqb _ _ (e ∙ ap (λ (n : ℕ). 4 * n) (sym (total-is size v w h)))))

  pub other_length : length list ≢ 4 * total size w h → record { number = 1; place = 6 } ≡ list_length (tables_of size v w h) list
  unfolding list_length
  other_length n = sym (unless-bad _ 1 6 (ne_eqb _ _ (λ z. n (z ∙ ap (λ (n : ℕ). 4 * n) (total-is size v w h)))))

  pub length_is : (list_length (tables_of size v w h) list).number ≡ 0 → length list ≡ 4 * record_count (tables_of size v w h)
  unfolding list_length
  length_is e = eqb-true _ _ (unless-fine _ 1 6 (omega arith) e)

  -- ---- the order
  pub by-tables : {r : Refusal} → r ≡ table_lengths size v w h → r.number ≢ 0 → r ≡ making_refusal size v w h list
  unfolding making_refusal
  by-tables e n = e ∙ sym (or-first (table_lengths size v w h) _ (λ z. n (same_number e ∙ z)))

  module _ (a : (table_lengths size v w h).number ≡ 0) where
    pub by_length : {r : Refusal} → r ≡ list_length (tables_of size v w h) list → r.number ≢ 0 → r ≡ making_refusal size v w h list
    unfolding making_refusal
    by_length e n = e ∙ sym (or-next (table_lengths size v w h) _ a ∙ or-first (list_length (tables_of size v w h) list) _ (λ z. n (same_number e ∙ z)))

    pub by-contents : (list_length (tables_of size v w h) list).number ≡ 0 → {r : Refusal} → r ≡ contents (tables_of size v w h) → r ≡ making_refusal size v w h list
    unfolding making_refusal
    by-contents b e = e ∙ sym (or-next (table_lengths size v w h) _ a ∙ or-next (list_length (tables_of size v w h) list) _ b)

  -- ---- the target
  pub kept_by : {r : Refusal} → r ≡ making_refusal size v w h list → r.number ≢ 0 → list ≡ (made size v w h list).list
  unfolding made
  kept_by e n = sym (cond-false _ _ (ne_eqb (making_refusal size v w h list).number 0 (λ z. n (same_number e ∙ z))))

  pub made_by : {r : Refusal} → r ≡ making_refusal size v w h list → r.number ≡ 0 → list_bytes (tables_of size v w h) ≡ (made size v w h list).list
  unfolding made
  made_by e z = sym (cond-true _ _ (eq-eqb (making_refusal size v w h list).number 0 (sym (same_number e) ∙ z)))
