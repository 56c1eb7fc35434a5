-- A chain of tests that `?` joins: the first that refuses is the answer, and one that does not leaves the answer to the rest. Assumes nothing.
use Rattle.std.specs.Prelude.{◌≡◌, ◌≢◌, Result, Ok, Err, IsErr, IsErrAnd}
use mathlib.Core.Path.{◌≡◌, sym, ap, ◌∙◌}
use Rattle.std.proofs.lemmas.Result.{err_from_is_err_and}
use Rattle.journeys.specs.Refusals as refusals
use Rattle.journeys.specs.Refusals.{or_else}
use Rattle.journeys.proofs.Refusals.{or-first, or-next}
use Rattle.words.specs.Refusal.{Refusal}
use Rattle.words.specs.Told.{number_of, told}
use Rattle.words.proofs.Told.{named}

by_number : {a b : refusals.Refusal} → a ≡ b → a.number ≡ b.number
by_number e = ap (λ (r : refusals.Refusal). r.number) e

module _ {T : Type 0} {r : Result T Refusal} where
  -- what `?` gives back tells what it stopped at
  pub kept : {U : Type 0} {e : Refusal} (x : Result U Refusal) → r ≡ Err e → IsErr x × IsErrAnd x (λ y. y ≡ e) → told x ≡ told r
  kept x q p =
      let w = err_from_is_err_and x p.1 in
      ap told w.1 ∙ ap (λ (y : Refusal). record { number = number_of y.reason; place = y.place }) w.2 ∙ sym (ap told q)

  -- an Err refuses, and an Ok does not
  pub refuses : {e : Refusal} {a : refusals.Refusal} → r ≡ Err e → told r ≡ a → a.number ≢ 0
  refuses {e} {a} q f z = named e.reason (by_number (sym (ap told q) ∙ f) ∙ z)

  pub passes : {v : T} {a : refusals.Refusal} → r ≡ Ok v → told r ≡ a → a.number ≡ 0
  passes q f = sym (by_number (sym (ap told q) ∙ f))

  -- the two ways on
  pub stops : {U : Type 0} {e : Refusal} {a : refusals.Refusal} (x : Result U Refusal) (b : refusals.Refusal)
      → r ≡ Err e → told r ≡ a → IsErr x × IsErrAnd x (λ y. y ≡ e) → told x ≡ or_else a b
  stops {U} {e} {a} x b q f p = kept x q p ∙ f ∙ sym (or-first a b (refuses q f))

  pub goes-on : {v : T} {a b c : refusals.Refusal} → r ≡ Ok v → told r ≡ a → c ≡ b → c ≡ or_else a b
  goes-on {v} {a} {b} q f g = g ∙ sym (or-next a b (passes q f))
