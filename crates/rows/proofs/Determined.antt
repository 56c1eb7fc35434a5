-- Any two answers that a contract allows are equal. Assumes nothing.
use mathlib.Core.Path.{◌≡◌, sym, ◌∙◌}
use Rattle.rows.proofs.has_fields.Reads as has-fields
use Rattle.rows.proofs.field_span.Reads as field-span
use Rattle.rows.proofs.number_in.Reads as number_in
use Rattle.rows.proofs.places_of.Reads as places_of
use Rattle.rows.proofs.number_from.Reads as number-from
use Rattle.rows.proofs.span_from.Reads as span-from
use Rattle.rows.proofs.field_place.Reads as field-place

pub one-has-fields : (κs : _) (a : _) (z z' : _) (e e' : _) → has-fields.Post κs a z e → has-fields.Post κs a z' e' → z ≡ z'
one-has-fields κs a z z' e e' p q = p ∙ sym q

pub one-field-span : (κs : _) (a : _) (z z' : _) (e e' : _) → field-span.Post κs a z e → field-span.Post κs a z' e' → z ≡ z'
one-field-span κs a z z' e e' p q = p ∙ sym q

pub one-number-in : (κs : _) (a : _) (z z' : _) (e e' : _) → number_in.Post κs a z e → number_in.Post κs a z' e' → z ≡ z'
one-number-in κs a z z' e e' p q = p ∙ sym q

pub one-field-place : (κs : _) (a : _) (z z' : _) (e e' : _) → field-place.Post κs a z e → field-place.Post κs a z' e' → z ≡ z'
one-field-place κs a z z' e e' p q = p ∙ sym q

pub one-span-from : (κs : _) (a : _) (z z' : _) (e e' : _) → span-from.Post κs a z e → span-from.Post κs a z' e' → z ≡ z'
one-span-from κs a z z' e e' p q = p ∙ sym q

pub one-number-from : (κs : _) (a : _) (z z' : _) (e e' : _) → number-from.Post κs a z e → number-from.Post κs a z' e' → z ≡ z'
one-number-from κs a z z' e e' p q = p ∙ sym q

pub one-places-of : (κs : _) (a : _) (z z' : _) (e e' : _) → places_of.Post κs a z e → places_of.Post κs a z' e' → z ≡ z'
one-places-of κs a z z' e e' p q = p ∙ sym q
