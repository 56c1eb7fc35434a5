-- `run_rides` meets its contract: a refusal of the input, or the run behind it. Assumes nothing.
use mathlib.Core.Path.{◌≡◌}
use borrow.Author.Rules.{rules}
use native.Mathlib.Omega.{arith}
use Rattle.journeys.specs.Refusals.{fine}
use Rattle.journeys.proofs.Decoding.{hop-count}
use Rattle.boarding.specs.RideAnswers.{ride_early}
use Rattle.records.specs.Asked.{query_of}
use Rattle.riding.specs.Lending.{ride_lent}
use Rattle.riding.proofs.RideAnswered.{passes, wide, allow}
use Rattle.riding.proofs.run_rides.Goals as goal

pub allowed-allowed-requires : goal.allowed-allowed-requires
allowed-allowed-requires c =
    let b = ride_lent c.args.vertices.now c.args.walks.now c.args.hops.now c.args.hop_size c.args.settled.now c.args.scratch.now in
    let none : fine ≡ ride_early b (query_of c.args.q) c.args.boarding = search rules in
    let ok = (passes b (query_of c.args.q) c.args.boarding c.args.limit none).0 in
    (ok.query.duration_high, ok.query.speed_high)

pub judged-requires : goal.judged-requires
judged-requires c =
    let b = ride_lent c.args.vertices.now c.args.walks.now c.args.hops.now c.args.hop_size c.args.settled.now c.args.scratch.now in
    let none : fine ≡ ride_early b (query_of c.args.q) c.args.boarding = search rules in
    let k = passes b (query_of c.args.q) c.args.boarding c.args.limit none in (
      record {
        valid = k.0;
        wide = wide b (query_of c.args.q) c.args.boarding c.args.limit none;
        boarding = omega (arith, k.1);
        allowed = c.allowed-allowed.ensures;
      },
      omega (arith, k.2, hop-count c.args.hop_size c.args.vertices.now c.args.walks.now c.args.hops.now),
    )

pub returns-in_default : goal.returns-in_default
returns-in_default c =
    let b = ride_lent c.args.vertices.now c.args.walks.now c.args.hops.now c.args.hop_size c.args.settled.now c.args.scratch.now in
    let none : fine ≡ ride_early b (query_of c.args.q) c.args.boarding = search rules in allow b (query_of c.args.q) c.args.boarding c.args.limit none _ c.judged.ensures

pub returns : goal.returns
returns c =
    let b = ride_lent c.args.vertices.now c.args.walks.now c.args.hops.now c.args.hop_size c.args.settled.now c.args.scratch.now in c.refuse.ensures b (query_of c.args.q) c.args.boarding c.args.limit (search rules)
