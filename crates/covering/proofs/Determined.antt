-- Any two answers that the contract allows are equal, and so is every byte of the part buffer after them. Assumes nothing.
use mathlib.Core.Path.{◌≡◌, sym, ap, ◌∙◌}
use mathlib.Core.List.{List}
use Prim.Native.Nat.{ℕ}
use Rattle.std.specs.Prelude.{Result, Ok, Err}
use Rattle.journeys.specs.PartAnswers as answers
use Rattle.words.specs.Refusal.{Refusal}
use Rattle.words.proofs.Told.{named, refused-injective}
use Rattle.covering.specs.Lending.{parts_answer_of}
use Rattle.covering.proofs.parts.Reads as parts
use Rattle.covering.proofs.courier_parts.Reads as courier-parts

-- the three numbers make the answer
numbers-one : (x y : Result ℕ Refusal) (b c : List ℕ) → parts_answer_of x b ≡ parts_answer_of y c → x ≡ y
numbers-one (Ok m) (Ok n) b c e = ap Ok (ap (λ (a : answers.PartsAnswer). a.part_count) e)
numbers-one (Ok m) (Err r) b c e = absurd (named r.reason (sym (ap (λ (a : answers.PartsAnswer). a.refusal) e)))
numbers-one (Err r) (Ok n) b c e = absurd (named r.reason (ap (λ (a : answers.PartsAnswer). a.refusal) e))
numbers-one (Err r) (Err s) b c e = ap Err (refused-injective r s (ap (λ (a : answers.PartsAnswer). a.refusal) e) (ap (λ (a : answers.PartsAnswer). a.place) e))

pub one-parts : (κs : _) (a : _) (z z' : _) (e e' : _) → parts.Post κs a z e → parts.Post κs a z' e' → (z ≡ z') × (e.1.1.1.1.1.0.now ≡ e'.1.1.1.1.1.0.now)
one-parts κs a z z' e e' p q = (numbers-one z z' _ _ (p ∙ sym q), ap (λ (x : answers.PartsAnswer). x.parts) (p ∙ sym q))

pub one-courier-parts : (κs : _) (a : _) (z z' : _) (e e' : _) → courier-parts.Post κs a z e → courier-parts.Post κs a z' e' → (z ≡ z') × (e.1.1.1.1.1.1.0.now ≡ e'.1.1.1.1.1.1.0.now)
one-courier-parts κs a z z' e e' p q = (numbers-one z z' _ _ (p ∙ sym q), ap (λ (x : answers.PartsAnswer). x.parts) (p ∙ sym q))
