-- What one more settled vertex does to what is known, remaining and met: the records that lead to it, and no others, change something.
-- Assumes nothing.
use mathlib.Core.Path.{◌≡◌, refl}
use mathlib.Core.Logic.{◌≢◌}
use mathlib.Core.Bool.{Bool, true, false, not, cond, ◌&&◌}
use Prim.Native.Nat.{ℕ, ◌+◌, ◌≤◌, ◌<◌, min}
use native.Mathlib.Omega.{arith}
use lib.Dec.{eqb}
use Rattle.journeys.specs.Counting.{none, least, count, one}
use Rattle.journeys.specs.Network.{Network, within, into, outside, offered, known, remaining}
use Rattle.journeys.proofs.Tests.{Test, same, other, test, and_right, cond-false}
use Rattle.journeys.proofs.Counting.{least-min, least_skip, count-join, count-skip}
use Rattle.journeys.proofs.Known.{upd, upd_same, upd_other, not_within, within_same, within-other}

module _ (G : Network) where
  -- record r leads from u to v; what it offers u if v has the distance d
  unfoldable pub toward : ℕ → ℕ → ℕ → Bool
  toward v u r = eqb (G.from r) u && eqb (G.to r) v

  unfoldable pub through : ℕ → ℕ → ℕ → ℕ → ℕ
  through v d u r = cond (toward v u r) (G.offer r d) none

  -- v was outside S and is settled at d
  module _ (far : ℕ → ℕ) (v d : ℕ) (out : none ≤ far v) (some : d < none) where
    offered-one : (u r : ℕ) → min none (offered G (upd far v d) u r) ≡ min none (min (offered G far u r) (through v d u r))
    unfolding offered through into toward
    offered-one u r = go (eqb (G.from r) u) (test (G.to r) v)
      where
        go : (f : Bool) {t : Bool} → Test (G.to r) v t
            → min none (cond (f && within (upd far v d) (G.to r)) (G.offer r (upd far v d (G.to r))) none)
            ≡ min none (min (cond (f && within far (G.to r)) (G.offer r (far (G.to r))) none) (cond (f && t) (G.offer r d) none))
        go false w = omega arith
        go true (same e) =
            rw (within_same far v d (G.to r) some e, upd_same far v d (G.to r) e, not_within far (G.to r) (rw e out)) (omega arith)
        go true (other q) = rw (within-other far v d (G.to r) q, upd_other far v d (G.to r) q) (omega arith)

    -- Known: the lesser of what was known and what the records to v offer.
    pub known_step : (u : ℕ) → known G (upd far v d) u ≡ min (known G far u) (least (through v d u) G.records)
    unfolding known
    known_step u = omega (arith, least-min (offered G (upd far v d) u) (offered G far u) (through v d u) G.records (λ r l. offered-one u r))

    outside-one : (u r : ℕ) → one (outside G far u r) ≡ one (outside G (upd far v d) u r) + one (toward v u r)
    unfolding outside toward
    outside-one u r = go (eqb (G.from r) u) (test (G.to r) v)
      where
        go : (f : Bool) {t : Bool} → Test (G.to r) v t → one (f && not (within far (G.to r))) ≡ one (f && not (within (upd far v d) (G.to r))) + one (f && t)
        go false w = omega arith
        go true (same e) = rw (within_same far v d (G.to r) some e, not_within far (G.to r) (rw e out)) (omega arith)
        go true (other q) = rw (within-other far v d (G.to r) q) (omega arith)

    -- Remaining: less by the records to v.
    pub remaining-step : (u : ℕ) → remaining G far u ≡ remaining G (upd far v d) u + count (toward v u) G.records
    unfolding remaining
    remaining-step u = count-join (outside G far u) (outside G (upd far v d) u) (toward v u) G.records (λ r l. outside-one u r)

    into_one : (u r : ℕ) → one (into G (upd far v d) u r) ≡ one (into G far u r) + one (toward v u r)
    unfolding into toward
    into_one u r = go (eqb (G.from r) u) (test (G.to r) v)
      where
        go : (f : Bool) {t : Bool} → Test (G.to r) v t → one (f && within (upd far v d) (G.to r)) ≡ one (f && within far (G.to r)) + one (f && t)
        go false w = omega arith
        go true (same e) = rw (within_same far v d (G.to r) some e, not_within far (G.to r) (rw e out)) (omega arith)
        go true (other q) = rw (within-other far v d (G.to r) q) (omega arith)

    -- Met: more by the records to v.
    pub into-step : (u : ℕ) → count (into G (upd far v d) u) G.records ≡ count (into G far u) G.records + count (toward v u) G.records
    into-step u = count-join (into G (upd far v d) u) (into G far u) (toward v u) G.records (λ r l. into_one u r)

  -- Records that lead elsewhere may be left out: a loop over the arriving records of v suffices.
  pub toward-other : (v u r : ℕ) → G.to r ≢ v → toward v u r ≡ false
  unfolding toward
  toward-other v u r n = and_right (eqb (G.from r) u) (go (test (G.to r) v))
    where
      go : {t : Bool} → Test (G.to r) v t → t ≡ false
      go (same e) = absurd (n e)
      go (other q) = refl

  pub through-none : (v d u r : ℕ) → toward v u r ≡ false → through v d u r ≡ none
  unfolding through
  through-none v d u r e = cond-false (G.offer r d) none e

  module _ (v i j : ℕ) (l : i ≤ j) (q : (r : ℕ) → i ≤ r → r < j → G.to r ≢ v) where
    pub toward-skip : (u : ℕ) → count (toward v u) j ≡ count (toward v u) i
    toward-skip u = count-skip (toward v u) i j l (λ r a b. toward-other v u r (q r a b))

    pub through-skip : (d u : ℕ) → least (through v d u) j ≡ least (through v d u) i
    through-skip d u = least_skip (through v d u) i j l (λ r a b. omega (arith, through-none v d u r (toward-other v u r (q r a b))))
