-- `queries::answer_one` meets its contract: a refusal of 1 to 7, or the run behind them. Assumes nothing.
use Rattle.records.specs.Meaning.{refusal_of}
use Prim.Native.Nat.{ℕ}
use mathlib.Core.Path.{sym, ap, ◌∙◌}
use Rattle.words.specs.Told.{told}
use Rattle.records.specs.Asked.{query_of}
use Rattle.intake.specs.Lending.{lent}
use Rattle.search.proofs.AnswerAllowed.{refused-early, passed}
use Rattle.queries.proofs.Judging.{judged-asked, left-in-bytes}
use Rattle.queries.proofs.answer_one.Goals as goal

pub returns-in-Err : goal.returns-in-Err
returns-in-Err c =
    let b = lent c.args.vertices.now c.args.walks.now c.args.hops.now c.args.hop_size c.args.held.now c.args.share.now in
    let F = judged-asked b (query_of c.args.q) c.args.fault c.asked_fault.result c.requires.fault_value (c.asked_fault.ensures c.args.hop_size c.args.vertices.now c.args.hops.now) in record {
      left = left-in-bytes b (query_of c.args.q) c.args.limit _ _ _ _ (refused-early b (query_of c.args.q) c.args.limit c.in-Err.why (sym (ap told c.in-Err.is) ∙ F) _ (c.refusal.ensures ∙ ap (λ (n : ℕ). refusal_of n c.in-Err.why.place) c.from.ensures)) c.put_answer.ensures;
      scratch_after = c.requires.answer_len.1;
    }

pub run_judged-a-requires : goal.run_judged-a-requires
run_judged-a-requires c =
    let b = lent c.args.vertices.now c.args.walks.now c.args.hops.now c.args.hop_size c.args.held.now c.args.share.now in
    let F = judged-asked b (query_of c.args.q) c.args.fault c.asked_fault.result c.requires.fault_value (c.asked_fault.ensures c.args.hop_size c.args.vertices.now c.args.hops.now) in record {
      q_value = passed b (query_of c.args.q) c.args.limit (sym (ap told c.in_default.is) ∙ F);
      scratch_value = c.requires.answer_len.1;
    }
