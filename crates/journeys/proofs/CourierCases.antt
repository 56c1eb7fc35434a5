-- The courier's cases: the tables of specs/CourierCases under one statement. Assumes nothing.
use mathlib.Core.Path.{◌≡◌, refl, ap, ◌∙◌}
use mathlib.Core.Bool.{Bool, true}
use mathlib.Core.List.{List}
use Prim.Native.Nat.{ℕ}
use Rattle.journeys.specs.Counting.{In}
use Rattle.journeys.specs.Answers.{Answer}
use Rattle.journeys.specs.OneRun.{own_list}
use Rattle.journeys.specs.RunAnswers.{late_for, room_for, room_up_to_for, accepted_for, answer_for}
use Rattle.journeys.specs.ListAnswers.{parts_room_at_for, parts_room_for, parts_refused_for, parts_accepted_for, parts_answer_for}
use Rattle.journeys.specs.CourierList.{leaving, by_from, list_bytes, list_length, list_refusal}
use Rattle.journeys.specs.CourierRecords as courier
use Rattle.journeys.specs.CourierParts as parts
use Rattle.journeys.specs.CourierAnswers.{courier_early, CourierAllowed}
use Rattle.journeys.specs.CourierPartAnswers.{CourierPartsLent, courier_parts_early, courier_parts_answer}
use Rattle.journeys.specs.Marked.{parts_over}
use Rattle.journeys.specs.Limits.{changed}
use Rattle.journeys.specs.CourierCases.{CourierCase, turned_of, rides_at, courier_runs, courier_seeds, courier_refusals}
use Rattle.journeys.proofs.Cases.{every, same, same-is, tested, each-passes}
use Rattle.journeys.proofs.CourierAnswers.{courier_computed, courier-is}

-- the parts of a run's own list, with the same list of records
abbrev pub own_parts : CourierCase → Answer → CourierPartsLent
own_parts c a = record { lent = parts_over c.lent.lent (own_list a) c.parts; records = c.lent.records }

abbrev pub shown : CourierCase → Answer → List ℕ
shown c a = c.view a (courier_parts_answer (own_parts c a) c.query)

abbrev passes : CourierCase → Bool
passes c = same (shown c (courier_computed c.lent c.query c.limit)) c.want

unfoldable pub courier_tested : List CourierCase → Bool
unfolding tested changed courier_computed courier_early leaving by_from list_bytes list_length list_refusal courier.offer courier.seed parts.reach parts.first_part parts.first_parts parts.part_at parts.parts_at parts.part_list courier_parts_early courier_parts_answer late_for room_for room_up_to_for accepted_for answer_for parts_room_at_for parts_room_for parts_refused_for parts_accepted_for parts_answer_for turned_of rides_at
courier_tested cs = every passes cs

runs : courier_tested courier_runs ≡ true
unfolding courier_tested courier_runs
runs = refl

seeds : courier_tested courier_seeds ≡ true
unfolding courier_tested courier_seeds
seeds = refl

refusals : courier_tested courier_refusals ≡ true
unfolding courier_tested courier_refusals
refusals = refl

-- In each row of a table that passes, whatever answer the definitions allow, with the parts of its own list, shows what the row says.
courier-hold : (cs : List CourierCase) → courier_tested cs ≡ true → (c : CourierCase) → In c cs → (a : Answer) → CourierAllowed c.lent c.query c.limit a
    → shown c a ≡ c.want
unfolding courier_tested
courier-hold cs t c i a A = ap (shown c) (courier-is c.lent c.query c.limit a A) ∙ same-is _ c.want (each-passes passes cs t c i)

pub courier-runs : (c : CourierCase) → In c courier_runs → (a : Answer) → CourierAllowed c.lent c.query c.limit a → shown c a ≡ c.want
courier-runs = courier-hold courier_runs runs

pub courier-seeds : (c : CourierCase) → In c courier_seeds → (a : Answer) → CourierAllowed c.lent c.query c.limit a → shown c a ≡ c.want
courier-seeds = courier-hold courier_seeds seeds

pub courier-refusals : (c : CourierCase) → In c courier_refusals → (a : Answer) → CourierAllowed c.lent c.query c.limit a → shown c a ≡ c.want
courier-refusals = courier-hold courier_refusals refusals
