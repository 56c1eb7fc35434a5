-- `siltbrow_judge` meets its contract: it packs what the judge answers. Assumes nothing.
use mathlib.Core.Path.{ap, ◌∙◌}
use lib.IntN.{ℤ}
use mir.Syntax.{w32}
use mir.ValLaws.{to_z-of_z}
use Rattle.journeys.specs.VendorLists.{judge_refusal}
use Rattle.records.specs.Asked.{query_by}
use Rattle.vendors.specs.Lending.{judge_lent}
use Rattle.siltbrow.specs.Packed.{packed}
use Rattle.siltbrow.proofs.judging.siltbrow_judge.Goals as goal

pub returns : goal.returns
returns c =
    let a = c.args in
    let lent = judge_lent a.vertices.now a.walks.now a.hops.now a.hop_size a.list.now in
    c.pack.ensures
    ∙ ap packed c.judge-refusal.ensures
    ∙ ap (λ (z : ℤ). packed (judge_refusal lent (query_by a.record_number a.offset z a.duration a.speed))) (to_z-of_z w32 a.arrival c.ranges.arrival)
