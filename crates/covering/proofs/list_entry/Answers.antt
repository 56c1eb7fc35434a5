use Rattle.covering.proofs.Entries.{entry_listed}
use Rattle.covering.proofs.list_entry.Goals as goal

pub returns : goal.returns
returns c =
    entry_listed _ _ _ _ _ _ c.requires.3 c.word_at-vertex.ensures _ _ _ _ _ _ _ _
    c.word_at.ensures c.first_arriving-first.ensures c.end_arriving-end.ensures c.list_arriving.ensures
