-- `refuse`: the number and the place of the fault, and nothing else. Assumes nothing.
use Prim.Native.Nat.{ℕ}
use mathlib.Core.Path.{ap, ◌∙◌}
use Rattle.records.specs.Meaning.{refusal_of}
use Rattle.riding.proofs.RideAnswered.{refused-early}
use Rattle.riding.proofs.refuse.Goals as goal

pub returns : goal.returns
returns c = λ b Q boarding limit F. refused-early b Q boarding limit c.args.fault F _ (c.refusal.ensures ∙ ap (λ (n : ℕ). refusal_of n c.args.fault.place) c.from.ensures)
