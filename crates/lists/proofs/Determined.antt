-- Any two answers that the contract of `judge` allows are equal, and so are any two states of the lent marks. Assumes nothing.
use mathlib.Core.Path.{◌≡◌, refl, sym, ap, ◌∙◌}
use Rattle.std.specs.Prelude.{⊤, Result, Ok, Err}
use Prim.Native.Nat.{ℕ}
use native.Mathlib.Omega.{arith}
use Rattle.journeys.specs.Refusals.{Refusal}
use Rattle.lists.specs.Lists.{told}
use Rattle.lists.proofs.judge.Reads as judge

pub told-injective : (a b : Result ⊤ ℕ) → told 21 a ≡ told 21 b → a ≡ b
unfolding told
told-injective (Ok _) (Ok _) e = refl
told-injective (Ok _) (Err j) e = absurd (let z : ◌≡◌ {A = ℕ} 0 21 = ap (λ (r : Refusal). r.number) e in let y : ⊥ = omega arith in y)
told-injective (Err i) (Ok _) e = absurd (let z : ◌≡◌ {A = ℕ} 21 0 = ap (λ (r : Refusal). r.number) e in let y : ⊥ = omega arith in y)
told-injective (Err i) (Err j) e = ap Err (ap (λ (r : Refusal). r.place) e)

pub one-judge : (κs : _) (a : _) (z z' : _) (e e' : _) → judge.Post κs a z e → judge.Post κs a z' e' → z ≡ z'
one-judge κs a z z' e e' p q = told-injective z z' (p.0 ∙ sym q.0)

pub one-marks : (κs : _) (a : _) (z z' : _) (e e' : _) → judge.Post κs a z e → judge.Post κs a z' e' → e.1.1.1.1.0.now ≡ e'.1.1.1.1.0.now
one-marks κs a z z' e e' p q = p.1 ∙ sym q.1
