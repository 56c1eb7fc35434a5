-- `reach::answer_from` meets its contract: what was read tells the text of the whole input. Assumes nothing.
use Rattle.std.proofs.Common.{rules}
use Rattle.reach.proofs.Inputs.{whole_input}
use Rattle.reach.proofs.answer_from.Goals as goal

pub returns-clause-answered : goal.returns-clause-answered
returns-clause-answered g c =
    let given = c.read_full-given in
    λ unfailing. whole_input 51221 given.result.count given.new.buf _ _ _ (search rules) (search rules) given.ensures.bytes (given.ensures.end unfailing) c.answer_read-count.ensures.by_index
