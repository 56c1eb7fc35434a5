-- `search::run_judged` meets its contract: an ordinary run reads no list. Assumes nothing.
use Rattle.records.specs.Asked.{query_of}
use Rattle.intake.specs.Lending.{lent}
use Rattle.search.proofs.AnswerAllowed.{valid, whole-held, hop_fits, allow, no-list}
use Rattle.search.proofs.run_judged.Goals as goal

pub judged-requires : goal.judged-requires
judged-requires c =
    let b = lent c.args.vertices.now c.args.walks.now c.args.hops.now c.args.hop_size c.args.held.now c.args.settled.now in
    let p = c.requires.q_value in record {
      valid = (valid b (query_of c.args.q) c.args.limit p, c.requires.scratch_value, whole-held b (query_of c.args.q) c.args.limit p, hop_fits b (query_of c.args.q) c.args.limit p);
      lists = no-list _ _ _ _;
    }

pub returns : goal.returns
returns c =
    let b = lent c.args.vertices.now c.args.walks.now c.args.hops.now c.args.hop_size c.args.held.now c.args.settled.now in
    let e = c.judged.ensures in
    record {
      allowed = allow b (query_of c.args.q) c.args.limit c.requires.q_value _ e.answered_in;
      parts_value = e.parts_value;
      scratch_after = e.scratch_after;
    }
