-- Any two answers that the contracts of the seeds allow are equal; nothing is written by them. Assumes nothing.
use mathlib.Core.Path.{◌≡◌, sym, ap, ◌∙◌}
use Prim.Native.Nat.{ℕ}
use Rattle.opening.proofs.from_ticks.Reads as from-ticks
use Rattle.opening.proofs.to_ticks.Reads as to-ticks
use Rattle.opening.proofs.to_is_seed.Reads as to-is-seed
use Rattle.opening.proofs.no_records.Reads as no-records

pub one-from-ticks : (κs : _) (a : _) (z z' : _) (e e' : _) → from-ticks.Post κs a z e → from-ticks.Post κs a z' e' → z ≡ z'
one-from-ticks κs a z z' e e' p q = ap (λ (x : ℕ). record { 0 = x }) (p ∙ sym q)

pub one-to-ticks : (κs : _) (a : _) (z z' : _) (e e' : _) → to-ticks.Post κs a z e → to-ticks.Post κs a z' e' → z ≡ z'
one-to-ticks κs a z z' e e' p q = ap (λ (x : ℕ). record { 0 = x }) (p ∙ sym q)

pub one-to-is-seed : (κs : _) (a : _) (z z' : _) (e e' : _) → to-is-seed.Post κs a z e → to-is-seed.Post κs a z' e' → z ≡ z'
one-to-is-seed κs a z z' e e' p q = p ∙ sym q

pub one-no-records : (κs : _) (a : _) (z z' : _) (e e' : _) → no-records.Post κs a z e → no-records.Post κs a z' e' → z ≡ z'
one-no-records κs a z z' e e' p q = p ∙ sym q
