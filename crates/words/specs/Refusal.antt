-- A refusal for one of the reasons of RULES 12. Assumes nothing.
use Rattle.words.specs.declared.Reason.{Reason}
use Rattle.words.specs.declared.Refusal as declared

abbrev pub Refusal : Type 0
Refusal = declared.Refusal Reason
