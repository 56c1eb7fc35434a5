-- Any two answers that a contract allows are equal. Assumes nothing.
use mathlib.Core.Path.{◌≡◌, sym, ap₂, ◌∙◌}
use Rattle.header.proofs.same_bytes.Reads as same_bytes
use Rattle.header.proofs.times_named.Reads as times-named
use Rattle.header.proofs.column_of.Reads as column-of
use Rattle.header.proofs.columns_once.Reads as columns-once
use Rattle.header.proofs.count_fields.Reads as count-fields
use Rattle.header.specs.declared.Fields.{Fields}
use mathlib.Core.Bool.{Bool}
use Prim.Native.Nat.{ℕ}

pub one-same-bytes : (κs : _) (a : _) (z z' : _) (e e' : _) → same_bytes.Post κs a z e → same_bytes.Post κs a z' e' → z ≡ z'
one-same-bytes κs a z z' e e' p q = p ∙ sym q

pub one-times-named : (κs : _) (a : _) (z z' : _) (e e' : _) → times-named.Post κs a z e → times-named.Post κs a z' e' → z ≡ z'
one-times-named κs a z z' e e' p q = p ∙ sym q

pub one-column-of : (κs : _) (a : _) (z z' : _) (e e' : _) → column-of.Post κs a z e → column-of.Post κs a z' e' → z ≡ z'
one-column-of κs a z z' e e' p q = p ∙ sym q

pub one-columns-once : (κs : _) (a : _) (z z' : _) (e e' : _) → columns-once.Post κs a z e → columns-once.Post κs a z' e' → z ≡ z'
one-columns-once κs a z z' e e' p q = p ∙ sym q

fields_of : ℕ → Bool → Fields
fields_of n b = record { count = n; sound = b }

pub one-count-fields : (κs : _) (a : _) (z z' : _) (e e' : _) → count-fields.Post κs a z e → count-fields.Post κs a z' e' → z ≡ z'
unfolding fields_of
one-count-fields κs a z z' e e' p q = ap₂ fields_of (p.many ∙ sym q.many) (p.sound ∙ sym q.sound)
