-- Bought lists: the table of specs/VendorCases under one statement. Assumes nothing.
use mathlib.Core.Path.{◌≡◌, refl}
use mathlib.Core.Bool.{Bool, true, ◌&&◌}
use mathlib.Core.List.{List}
use lib.Dec.{eqb}
use borrow.Author.Tests.{eqb-true}
use Rattle.journeys.specs.Counting.{In}
use Rattle.journeys.specs.Limits.{changed}
use Rattle.journeys.specs.Moments.{circles, ties}
use Rattle.journeys.specs.VendorLists.{listed, no_better, backs, in_time, backed, seed_fair, record_fair, bought_refusal, judge_refusal}
use Rattle.journeys.specs.VendorCases.{JudgeCase, vendor_cases}
use Rattle.journeys.proofs.Tests.{and_both}
use Rattle.journeys.proofs.Cases.{every, each-passes, tested}

abbrev judged : JudgeCase → Bool
judged c = let r = judge_refusal c.lent c.query in eqb r.number c.number && eqb r.place c.place

table : every judged vendor_cases ≡ true
unfolding tested changed circles ties listed no_better backs in_time backed seed_fair record_fair bought_refusal judge_refusal vendor_cases
table = refl

-- In each row the list is refused with the number and at the place of the row; both are 0 where it is right.
pub vendor-cases : (c : JudgeCase) → In c vendor_cases → ((judge_refusal c.lent c.query).number ≡ c.number) × ((judge_refusal c.lent c.query).place ≡ c.place)
vendor-cases c i =
    let p = and_both (eqb (judge_refusal c.lent c.query).number c.number) _ (each-passes judged vendor_cases table c i) in
    (eqb-true _ _ p.0, eqb-true _ _ p.1)
