use mathlib.Core.Path.{refl, ap, subst, ◌∙◌}
use native.Mathlib.Omega.{arith}
use Prim.Native.Nat.{ℕ}
use mathlib.Core.List.{◌++◌}
use Rattle.journeys.specs.Bytes.{word}
use Rattle.std.specs.Prelude.{Result}
use Rattle.words.specs.Refusal.{Refusal}
use Rattle.departures.specs.Answered.{hops_told}
use Rattle.timetable.specs.Lent.{feed_of, Answers}
use Rattle.timetable.proofs.FaultLaws.{hops_few, answer-bytes}
use Rattle.timetable.proofs.call.Goals as goal

pub overflow_cast-hops : goal.overflow_cast-hops
overflow_cast-hops c = let few = hops_few c.read.ensures in let told-so = ap hops_told c.in-Ok.is in omega (arith, few, told-so)

pub returns-in-Ok : goal.returns-in-Ok
returns-in-Ok c =
    let a = c.args in
    let e = subst (λ (r : Result ℕ Refusal). Answers (feed_of a.text.now a.stops.now a.trips.now a.target.now) r c.read.new.target) c.in-Ok.is c.read.ensures in
    record { untouched = λ n. absurd (n c.if-out-ne12.false); answered = λ _. (refl, e.target, c.put_three.ensures ∙ answer-bytes e) }

pub returns-in-Err : goal.returns-in-Err
returns-in-Err c =
    let a = c.args in
    let e = subst (λ (r : Result ℕ Refusal). Answers (feed_of a.text.now a.stops.now a.trips.now a.target.now) r c.read.new.target) c.in-Err.is c.read.ensures in
    record { untouched = λ n. absurd (n c.if-out-ne12.false); answered = λ _. (refl, e.target, c.put_three-in-Err.ensures ∙ ap (λ (n : ℕ). word n ++ word c.in-Err.refusal.place ++ word 0) c.from.ensures ∙ answer-bytes e) }
