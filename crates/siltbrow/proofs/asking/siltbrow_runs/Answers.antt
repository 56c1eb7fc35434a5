-- `siltbrow::siltbrow_runs` meets its contract: nothing is written, or each query is answered in turn. Assumes nothing.
use mathlib.Core.Path.{refl}
use mathlib.Core.Logic.{⊎_elim}
use Rattle.siltbrow.proofs.ManyCalls.{all-alone}
use Rattle.siltbrow.proofs.asking.siltbrow_runs.Goals as goal

pub returns : goal.returns
returns c =
    record {
      untouched = ⊎_elim (λ n. absurd (n c.if-queries-ne0.false)) (λ n. absurd (n c.if-answers-queries.false));
      answered = λ e f. (refl, all-alone _ _ _ _ _ _ _ _ _ _ _ c.answer_all.ensures);
    }
