-- `patients::evening` meets its contract: a refusal that changes nothing, or the arrivals behind it. Assumes nothing.
use Rattle.records.specs.Meaning.{refusal_of}
use Prim.Native.Nat.{ℕ}
use mathlib.Core.Path.{ap, ◌∙◌}
use Rattle.records.specs.Asked.{query_of}
use Rattle.intake.specs.Lending.{lent}
use Rattle.patients.proofs.Evenings.{evening-refused}
use Rattle.patients.proofs.evening.Goals as goal

pub returns-in-Err : goal.returns-in-Err
returns-in-Err c =
    let all = evening-refused (lent c.args.vertices.now c.args.walks.now c.args.hops.now c.args.hop_size c.args.held.now c.args.settled.now) (query_of c.args.q) c.args.gap c.args.arrivals c.args.patients.now c.args.report.now _ c.first_fault.ensures.result_value _ c.in-Err.is _ (c.refusal.ensures ∙ ap (λ (n : ℕ). refusal_of n c.in-Err.r.place) c.from.ensures) in record { evening_allowed = all.0; parts_value = all.1 }
