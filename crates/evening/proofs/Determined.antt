-- Any two answers that a contract allows are equal, and so is every byte of what was lent. Of a moment that is what its clock tells. Assumes nothing.
use mathlib.Core.Path.{◌≡◌, sym, ◌∙◌}
use Rattle.journeys.specs.Bytes.{clocked}
use Rattle.words.proofs.Told.{told-injective}
use Rattle.evening.proofs.first_fault.Reads as first-fault
use Rattle.evening.proofs.later.Reads as later
use Rattle.evening.proofs.tally.Reads as tally
use Rattle.evening.proofs.all_patients.Reads as all-patients

pub one-first-fault : (κs : _) (a : _) (z z' : _) (e e' : _) → first-fault.Post κs a z e → first-fault.Post κs a z' e' → z ≡ z'
one-first-fault κs a z z' e e' p q = told-injective z z' (p.0 ∙ sym q.0)

pub one_later : (κs : _) (a : _) (z z' : _) (e e' : _) → later.Post κs a z e → later.Post κs a z' e' → clocked z.0 ≡ clocked z'.0
one_later κs a z z' e e' p q = p ∙ sym q

pub one-tally : (κs : _) (a : _) (z z' : _) (e e' : _) → tally.Post κs a z e → tally.Post κs a z' e' → (z ≡ z') × (e.1.1.0.now ≡ e'.1.1.0.now)
one-tally κs a z z' e e' p q = (p.0 ∙ sym q.0, p.1 ∙ sym q.1)

pub one-all-patients : (κs : _) (a : _) (z z' : _) (e e' : _) → all-patients.Post κs a z e → all-patients.Post κs a z' e' → z ≡ z'
one-all-patients κs a z z' e e' p q = p ∙ sym q
