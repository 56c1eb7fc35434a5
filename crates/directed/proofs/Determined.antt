-- Any two answers that a contract allows are equal; nothing is written. Assumes nothing.
use mathlib.Core.Path.{◌≡◌, sym, ap, ◌∙◌}
use Prim.Native.Nat.{ℕ}
use Rattle.directed.proofs.near_at.Reads as near-at
use Rattle.directed.proofs.brings_at.Reads as brings-at
use Rattle.directed.proofs.due_at.Reads as due-at

pub one-near-at : (κs : _) (a : _) (z z' : _) (e e' : _) → near-at.Post κs a z e → near-at.Post κs a z' e' → z ≡ z'
one-near-at κs a z z' e e' p q = p ∙ sym q

pub one-brings-at : (κs : _) (a : _) (z z' : _) (e e' : _) → brings-at.Post κs a z e → brings-at.Post κs a z' e' → z ≡ z'
one-brings-at κs a z z' e e' p q = ap (λ (x : ℕ). record { 0 = x }) (p.0 ∙ sym q.0)

pub one-due-at : (κs : _) (a : _) (z z' : _) (e e' : _) → due-at.Post κs a z e → due-at.Post κs a z' e' → z ≡ z'
one-due-at κs a z z' e e' p q = p.0 ∙ sym q.0
