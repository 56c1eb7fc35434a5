-- The contracts of `carry` settle their answers. Assumes nothing.
use mathlib.Core.Path.{◌≡◌, sym, ap₂, ◌∙◌}
use Prim.Native.Nat.{ℕ}
use Rattle.carry.specs.declared.Carry.{Carry}
use Rattle.carry.specs.declared.Piece.{Piece}
use Rattle.carry.proofs.item_at.Reads as item-at
use Rattle.carry.proofs.pass.Reads as pass
use Rattle.carry.proofs.late.Reads as late

pub one-item-at : (κs : _) (a : _) (z z' : _) (e e' : _) → item-at.Post κs a z e → item-at.Post κs a z' e' → z ≡ z'
one-item-at κs a z z' e e' p q = p ∙ sym q

one_piece : (x y : Piece) → x.carry ≡ y.carry → x.hops ≡ y.hops → x ≡ y
one_piece x y p q = ap₂ (λ (c : Carry) (n : ℕ). record { carry = c; hops = n }) p q

pub one-pass : (κs : _) (a : _) (z z' : _) (e e' : _) → pass.Post κs a z e → pass.Post κs a z' e' → z ≡ z'
one-pass κs a z z' e e' p q = one_piece z z' (p.0 ∙ sym q.0) (p.1 ∙ sym q.1)

pub one-late : (κs : _) (a : _) (z z' : _) (e e' : _) → late.Post κs a z e → late.Post κs a z' e' → z ≡ z'
one-late κs a z z' e e' p q = p ∙ sym q
