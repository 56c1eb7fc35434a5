-- `refuse`: the number and the place of the fault, and nothing else. Assumes nothing.
use Prim.Native.Nat.{ℕ}
use mathlib.Core.Path.{ap, ◌∙◌}
use Rattle.records.specs.Meaning.{refusal_of}
use Rattle.records.specs.declared.Answer.{Answer}
use Rattle.search.proofs.AnswerAllowed.{refused-early, courier-refused}
use Rattle.search.proofs.refuse.Goals as goal

pub returns : goal.returns
returns c =
    let why = c.args.fault in
    let e = c.refusal.ensures ∙ ap (λ (n : ℕ). refusal_of n why.place) c.from.ensures in record {
      ordinary = λ b Q limit F. (refused-early b Q limit why F _ e).0;
      courier = λ b Q limit F. (courier-refused b Q limit why F _ e).0;
      parts_value = ap (λ (x : Answer). x.parts) e;
    }
