-- `records::put_part` meets its contract: its numbers stand one behind the other. Assumes nothing.
use mathlib.Core.Path.{◌∙◌}
use Rattle.journeys.specs.Bytes.{word}
use Rattle.journeys.specs.Parts.{part_bytes}
use Rattle.records.specs.Fields.{part_of}
use Rattle.words.proofs.Written.{front, three-words}
use Rattle.records.proofs.put_part.Goals as goal

pub returns : goal.returns
unfolding word
returns c =
    let a = c.args in
    rw (c.put_word-3.ensures, c.put_word-2.ensures, c.put_word.ensures)
    (three-words a.out.now a.walk a.start.0 a.end.0 c.requires ∙ front a.out.now (part_bytes (part_of a.walk a.start.0 a.end.0)))
