-- `records::read_hop` meets its contract: its tests are those of the definition. Assumes nothing.
use mathlib.Core.Path.{◌≡◌, ◌∙◌}
use mathlib.Core.Bool.{true}
use mathlib.Core.List.{[]}
use Rattle.journeys.specs.Tables.{tables_of}
use Rattle.journeys.specs.Refusals.{hop_ok}
use Rattle.words.proofs.Signed.{clocked-signed}
use Rattle.records.proofs.Judged.{hop-ok, hop-good, hop-bad}
use Rattle.records.proofs.read_hop.Goals as goal

pub returns-then-ends_ok-times_ok : goal.returns-then-ends_ok-times_ok
returns-then-ends_ok-times_ok c =
    let ok : hop_ok (tables_of c.args.size c.args.vertices.now [] c.args.hops.now) c.args.j ≡ true =
    hop-ok _ _ [] _ c.args.j c.requires.1
    ∙ simp (c.ends_ok.ensures, c.times_ok.ensures, c.hop_at-h.ensures, clocked-signed) at c.if-ends_ok-times_ok.true in
    rw c.hop_at-h.ensures (hop-good _ _ [] _ c.args.j c.requires.1 ok)

pub returns-else-ends_ok-times_ok : goal.returns-else-ends_ok-times_ok
returns-else-ends_ok-times_ok c =
    hop-bad _ _ [] _ c.args.j
    (hop-ok _ _ [] _ c.args.j c.requires.1
    ∙ simp (c.ends_ok.ensures, c.times_ok.ensures, c.hop_at-h.ensures, clocked-signed) at c.if-ends_ok-times_ok.false)
