-- Refusals 25, 26 and 27 in their order. Assumes nothing.
use mathlib.Core.Path.{◌≡◌, sym, ◌∙◌}
use mathlib.Core.List.{List}
use Prim.Native.Nat.{ℕ, ◌≤◌, ◌<◌}
use native.Mathlib.Omega.{arith}
use Rattle.journeys.specs.Counting.{none}
use Rattle.journeys.specs.Refusals.{or_else, first_bad}
use Rattle.journeys.specs.Lists.{entry_ok}
use Rattle.journeys.specs.VendorLists.{size, in_time}
use Rattle.journeys.proofs.Refusals.{or-first, or-next}
use Rattle.audit.proofs.Scan.{same_number}
use Rattle.lists.specs.Passes.{First}
use Rattle.lists.proofs.Entries.{first-refused, none-refused, good-few}
use Rattle.entries.specs.Noted.{entry_refusal}

-- entry i is the first with which anything is wrong
module _ (vertices D : ℕ) (few : vertices ≤ 65536) (list : List ℕ) (i a : ℕ) (A : First (entry_ok 12 vertices none list) (size list) a) where
  pub old-few : a ≤ 65536
  old-few = omega (arith, good-few 12 vertices none list few a A.before, few)

  pub old-told : a < size list → record { number = 25; place = a } ≡ entry_refusal vertices D list i
  unfolding entry_refusal
  old-told h =
      let e = first-refused 25 (omega arith) (entry_ok 12 vertices none list) (size list) a A h in
      e ∙ sym (or-first (first_bad 25 (entry_ok 12 vertices none list) (size list)) _ (λ z. omega (arith, same_number e)))

  module _ (all : size list ≤ a) (b : ℕ) (B : First (in_time D list) (size list) b) where
    past-old : entry_refusal vertices D list i ≡ or_else (first_bad 26 (in_time D list) (size list)) (record { number = 27; place = i })
    unfolding entry_refusal
    past-old =
        or-next (first_bad 25 (entry_ok 12 vertices none list) (size list)) _
        (sym (same_number (none-refused 25 (omega arith) (entry_ok 12 vertices none list) (size list) a A all)))

    pub late-told : b < size list → record { number = 26; place = b } ≡ entry_refusal vertices D list i
    late-told h =
        let e = first-refused 26 (omega arith) (in_time D list) (size list) b B h in
        e ∙ sym (past-old ∙ or-first (first_bad 26 (in_time D list) (size list)) _ (λ z. omega (arith, same_number e)))

    pub wrong-told : size list ≤ b → record { number = 27; place = i } ≡ entry_refusal vertices D list i
    wrong-told h =
        sym
        (past-old
        ∙ or-next (first_bad 26 (in_time D list) (size list)) _ (sym (same_number (none-refused 26 (omega arith) (in_time D list) (size list) b B h))))
