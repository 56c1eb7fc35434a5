-- `records::put_settled` meets its contract: its numbers stand one behind the other. Assumes nothing.
use mathlib.Core.Path.{◌∙◌}
use Rattle.journeys.specs.Bytes.{word}
use Rattle.journeys.specs.Answers.{settled_bytes}
use Rattle.records.specs.Fields.{settled_of}
use Rattle.words.proofs.Written.{front, two-words}
use Rattle.records.proofs.put_settled.Goals as goal

pub returns : goal.returns
unfolding word
returns c =
    let a = c.args in
    rw (c.put_word-2.ensures, c.put_word.ensures)
    (two-words a.out.now a.vertex a.distance.0 c.requires ∙ front a.out.now (settled_bytes (settled_of a.vertex a.distance.0)))
