-- Any two results that a public contract allows are equal: the answers and every lent byte afterwards. Assumes nothing.
use mathlib.Core.Path.{◌≡◌, sym, ◌∙◌}
use Rattle.report.proofs.report.Reads as report
use Rattle.report.proofs.fault_line.Reads as fault-line

pub one-report : (κs : _) (a : _) (z z' : _) (e e' : _) → report.Post κs a z e → report.Post κs a z' e'
    → (z ≡ z') × (e.1.1.1.1.0.now ≡ e'.1.1.1.1.0.now)
one-report κs a z z' e e' p q = (p.1.0 ∙ sym q.1.0, p.0 ∙ sym q.0)

pub one-fault-line : (κs : _) (a : _) (z z' : _) (e e' : _) → fault-line.Post κs a z e → fault-line.Post κs a z' e'
    → (z ≡ z') × (e.1.0.now ≡ e'.1.0.now)
one-fault-line κs a z z' e e' p q = (p.1.0 ∙ sym q.1.0, p.0 ∙ sym q.0)
