-- `passing::offer_at` meets its contract; an offer is none or far below the limit of an entry. Assumes nothing.
use Rattle.passing.proofs.OfferFits.{hop-distance}
use Rattle.passing.specs.Row.{record_of}
use Rattle.journeys.specs.Bytes.{clocked}
use Rattle.journeys.specs.Records.{offer}
use Rattle.journeys.specs.Tables.{len_of, wait_of, walk_at, hop_at}
use borrow.Author.Tests.{lt-ltb, le-ltb}
use native.Mathlib.Omega.{arith}
use Prim.Native.Nat.{ℕ, ◌+◌, ◌-◌, ◌*◌, ◌≤◌, ◌<◌}
use native.Mathlib.Nat.{mul-le-mul}
use mathlib.Core.Logic.{inl}
use Rattle.worktable.specs.Map.{distance_limit}
use Rattle.passing.proofs.offer_at.Goals as goal

-- Whatever the bits of its length, a walk's ticks fit.
way-fits : (bits speed : ℕ) → bits < 4294967296 → speed ≤ 100 → len_of bits + wait_of bits * speed ≤ 16802715
way-fits bits speed l h = let m : wait_of bits * speed ≤ 255 * 100 = mul-le-mul (let q : wait_of bits ≤ 255 = omega arith in q) h in omega arith

pub returns-then-j-arriving : goal.returns-then-j-arriving
unfolding offer record_of walk_at
returns-then-j-arriving c =
    let d : c.args.arriving.distance.0 + c.walk_ticks-way.result.0 < distance_limit = omega (arith, c.requires.0.distance, c.walk_ticks-way.ensures, way-fits c.word_at.result c.args.arriving.speed (omega arith) c.requires.0.speed) in
    (rw (lt-ltb c.args.j c.args.arriving.walks c.if-j-arriving.true, c.walk_ticks-way.ensures, c.word_at.ensures), inl d)

pub returns : goal.returns
unfolding record_of
returns c =
    let r = c.args.arriving in
    let i : c.args.j - r.walks < r.hops = omega (arith, c.requires.1, c.if-j-arriving.false) in (
      rw (le-ltb c.args.j r.walks c.if-j-arriving.false, c.hop_offer.ensures),
      rw c.hop_offer.ensures (hop-distance (hop_at r.size c.args.hops.now (c.args.j - r.walks)) (clocked r.arrival.0) r.speed r.distance.0 (c.requires.0.times (c.args.j - r.walks) i).departure c.requires.0.arrival c.requires.0.speed),
    )
