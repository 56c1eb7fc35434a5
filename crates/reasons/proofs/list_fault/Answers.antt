-- `reasons::list_fault` meets its contract: what the first pass has found decides between 25 to 27 and 28. Assumes nothing.
use mathlib.Core.Path.{◌≡◌, ◌∙◌}
use native.Mathlib.Omega.{arith}
use Rattle.journeys.specs.VendorLists.{size}
use Rattle.reasons.specs.Rows.{net_of}
use Rattle.reasons.proofs.OnePass.{all_new, all-in-time, noted-good, entry-told, entries-told}
use Rattle.reasons.proofs.Branches.{offers-listed}
use Rattle.reasons.proofs.list_fault.Goals as goal

pub entry_fault-requires : goal.entry_fault-requires
entry_fault-requires c =
    let a = c.args in
    let l = a.list.now in
    let G = net_of a.vertices a.walks.now a.hops.now a.all a.ends in
    let D = a.all.allowed.0 in
    let u = c.first_wrong-i in
    let good = u.ensures.first.before in
    let few = c.requires.sound.2 in record {
      vertices_bound = (few, c.if-i-list.true, noted-good G D l few u.result good c.requires.sound.0.allowed _ u.ensures.figures.0 u.ensures.figures.1);
      before = (all_new G D l few u.result good, all-in-time G D l few u.result good);
    }

pub returns-then-i-list : goal.returns-then-i-list
returns-then-i-list c =
    let a = c.args in
    let l = a.list.now in
    let G = net_of a.vertices a.walks.now a.hops.now a.all a.ends in
    let D = a.all.allowed.0 in
    let u = c.first_wrong-i in
    c.entry_fault.ensures ∙ entry-told G D l a.ends.from a.ends.to u.result u.ensures.first c.if-i-list.true

pub returns : goal.returns
returns c =
    let a = c.args in
    let l = a.list.now in
    let G = net_of a.vertices a.walks.now a.hops.now a.all a.ends in
    let D = a.all.allowed.0 in
    let u = c.first_wrong-i in
    let left = c.if-i-list.false in
    let all : u.result ≡ size l = omega (arith, u.ensures.first.within, left) in
    c.offer_fault.ensures
    ∙ offers-listed a.walks.now a.hops.now a.all a.ends _ D a.vertices c.requires.led l u.result all u.ensures.figures.0 u.ensures.figures.1 a.ends.from a.ends.to c.requires.from_bound.0 c.requires.from_bound.1
    ∙ entries-told G D l a.ends.from a.ends.to u.result u.ensures.first left
