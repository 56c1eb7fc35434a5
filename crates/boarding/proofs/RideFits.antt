-- Every figure of the mode fits: what is known is none or at most 25,980,000. And no answer of it has a held table or says 8. Assumes nothing.
use mathlib.Core.Path.{◌≡◌, refl, sym, ap, subst, ◌∙◌}
use mathlib.Core.Logic.{◌⊎◌, inl, inr, ⊎_elim, ◌≢◌}
use mathlib.Core.Bool.{Bool, true, false, cond, ◌&&◌}
use mathlib.Core.List.{List}
use Prim.Native.Nat.{ℕ, suc, zero, ◌+◌, ◌-◌, ◌*◌, ◌≤◌, ◌<◌, min}
use native.Mathlib.Nat.{mul-le-mul}
use native.Mathlib.Omega.{arith}
use lib.Dec.{eqb, leb}
use lib.ListN.{length}
use borrow.Author.Tests.{eqb-true, eqb-false}
use Rattle.journeys.specs.Counting.{none}
use Rattle.journeys.specs.Bytes.{cleared}
use Rattle.journeys.specs.Tables.{Tables, walk, hop, walk_count, hop_count}
use Rattle.journeys.specs.Query.{Query, allowed}
use Rattle.journeys.specs.Settled.{Settled}
use Rattle.journeys.specs.Network.{known}
use Rattle.journeys.specs.Records.{Record, record_count}
use Rattle.journeys.specs.Refusals.{Refusal, unless, or_else, first_from, first_bad, whole_of, table_lengths, walk_ok, hop_ok, walk_ascends, hop_ascends, vertex_ok, contents, query_refusal}
use Rattle.journeys.specs.Valid.{Valid}
use Rattle.journeys.proofs.Tests.{split}
use Rattle.journeys.proofs.Valid.{good-walk, allowed-high, wait-most}
use Rattle.journeys.proofs.Fits as fits
use Rattle.journeys.proofs.Document.{Numbered, of-walk, of-hop, numbered}
use Rattle.boarding.specs.Rides.{Mode}
use Rattle.boarding.specs.RideJourneys.{board_ticks, standing}
use Rattle.boarding.specs.RideAnswers.{RideLent, RideAnswer, ride_tables, ride_early, ride_refused, list_room, ride_accepted, ride_over, RideAllowed}
use Rattle.boarding.proofs.Links.{pass}
use Rattle.boarding.proofs.Boards.{before-most}
use Rattle.boarding.proofs.Rides.{link_by, ride_link, network_by}

-- the largest figure: a boarding of 600 s before a departure at -86,400 s for an arrival at 172,800 s, at 100 dm/s
abbrev pub most_ride : ℕ
most_ride = 25980000

module _ (N : Tables) (Q : Query) (M : Mode) (ok : Valid N Q) (few : M.boarding ≤ 600) where
  pub board-fits : board_ticks Q M ≤ 60000
  board-fits = let m : M.boarding * Q.speed ≤ 600 * 100 = mul-le-mul few ok.query.speed_high in omega arith

  pub standing-fits : (j : ℕ) → j < hop_count N → standing Q M (hop N j).departure ≤ most_ride
  standing-fits j l = omega (arith, board-fits, before-most N Q M ok j l)

  -- Every known distance, whichever hops are marked, where all that is settled is within D.
  module _ (mark : ℕ → Bool) where
    offer-fits : (r d : ℕ) → r < record_count N → d ≤ allowed Q → fits.Within most_ride (pass Q (ride_link N Q M mark r) d)
    unfolding pass
    offer-fits r d l h = go (numbered N r l)
      where
        go : {x : Record} → Numbered N r x → fits.Within most_ride (pass Q (link_by Q M mark (r - walk_count N) x) d)
        go (of-walk i) =
            inr (omega (arith, (good-walk N ok.tables r i).len-high, wait-most ok.query (walk N r).wait (good-walk N ok.tables r i).wait-high, allowed-high ok.query))
        go (of-hop j i e) = fits.gate-within (mark (r - walk_count N) && leb d (standing Q M (hop N j).arrival)) (standing Q M (hop N j).departure) (standing-fits j i)

    seed-fits : (v : ℕ) → fits.Within most_ride ((network_by N Q M mark).seed v)
    seed-fits v = ⊎_elim (λ (e : (network_by N Q M mark).seed v ≡ none). inl e) (λ (h : (network_by N Q M mark).seed v ≤ fits.largest). inr (omega arith)) (fits.seed-fits N Q ok v)

    pub known-fits : (far : ℕ → ℕ) → ((u : ℕ) → far u < none → far u ≤ allowed Q) → (v : ℕ) → known (network_by N Q M mark) far v < none → known (network_by N Q M mark) far v ≤ most_ride
    known-fits = fits.all_fit (network_by N Q M mark) most_ride seed-fits offer-fits

-- No answer has a held table or parts.
module _ (b : RideLent) (Q : Query) (boarding limit : ℕ) where
  abbrev None : RideAnswer → Type 0
  None a = (a.held_count ≡ 0) × (a.part_count ≡ 0)

  over_none : (l : List Settled) → None (ride_over b l limit)
  unfolding ride_over ride_accepted ride_refused
  over_none l = go (eqb (list_room b l (min limit (length l))).number 0)
    where
      go : (t : Bool) → None (cond t (ride_accepted b l (min limit (length l))) (ride_refused (list_room b l (min limit (length l))) (cleared b.settled) (cleared b.scratch)))
      go true = (refl, refl)
      go false = (refl, refl)

  pub none-held : (a : RideAnswer) → RideAllowed b Q boarding limit a → (a.held_count ≡ 0) × (a.part_count ≡ 0)
  unfolding ride_refused
  none-held a A =
      ⊎_elim (λ (t : eqb (ride_early b Q boarding).number 0 ≡ true). let x = A.accepted (eqb-true _ 0 t) in subst None (sym x.2) (over_none x.0))
      (λ (t : eqb (ride_early b Q boarding).number 0 ≡ false).
      let e = A.refused (eqb-false _ 0 t) in
      (ap (λ (z : RideAnswer). z.held_count) e, ap (λ (z : RideAnswer). z.part_count) e)) (split (eqb (ride_early b Q boarding).number 0))

-- ---- 8 never occurs
unless_not : (good : Bool) (number place : ℕ) → number ≢ 8 → (unless good number place).number ≢ 8
unfolding unless
unless_not true number place n = let z : ◌≢◌ {A = ℕ} 0 8 = omega arith in z
unless_not false number place n = n

or-not : (a c : Refusal) → a.number ≢ 8 → c.number ≢ 8 → (or_else a c).number ≢ 8
unfolding or_else
or-not a c p q = go (eqb a.number 0)
  where
    go : (t : Bool) → (cond t c a).number ≢ 8
    go true = q
    go false = p

from-not : (f : ℕ → Refusal) → ((k : ℕ) → (f k).number ≢ 8) → (n i : ℕ) → (first_from f n i).number ≢ 8
unfolding first_from
from-not f h zero i = let z : ◌≢◌ {A = ℕ} 0 8 = omega arith in z
from-not f h (suc n) i = or-not (f i) (first_from f n (i + 1)) (h i) (from-not f h n (i + 1))

bad-not : (number : ℕ) (good : ℕ → Bool) (n : ℕ) → number ≢ 8 → (first_bad number good n).number ≢ 8
unfolding first_bad
bad-not number good n h = from-not (λ i. unless (good i) number i) (λ k. unless_not (good k) number k h) n 0

contents-not : (N : Tables) → (contents N).number ≢ 8
unfolding contents
contents-not N =
    or-not (first_bad 2 (walk_ok N) _) _ (bad-not 2 (walk_ok N) _ (omega arith))
    (or-not (first_bad 3 (hop_ok N) _) _ (bad-not 3 (hop_ok N) _ (omega arith))
    (or-not (first_bad 4 (walk_ascends N) _) _ (bad-not 4 (walk_ascends N) _ (omega arith))
    (or-not (first_bad 5 (hop_ascends N) _) _ (bad-not 5 (hop_ascends N) _ (omega arith)) (bad-not 6 (vertex_ok N) _ (omega arith)))))

query-not : (N : Tables) (Q : Query) → (query_refusal N Q).number ≢ 8
unfolding query_refusal
query-not N Q = let h : ◌≢◌ {A = ℕ} 7 8 = omega arith in or-not _ _ (unless_not _ 7 0 h) (or-not _ _ (unless_not _ 7 1 h) (or-not _ _ (unless_not _ 7 2 h) (or-not _ _ (unless_not _ 7 3 h) (unless_not _ 7 4 h))))

lengths-not : (size : ℕ) (v w h : List ℕ) → (table_lengths size v w h).number ≢ 8
unfolding table_lengths
lengths-not size v w h = let q : ◌≢◌ {A = ℕ} 1 8 = omega arith in or-not _ _ (unless_not _ 1 0 q) (or-not _ _ (unless_not _ 1 1 q) (unless_not _ 1 2 q))

module _ (b : RideLent) (Q : Query) (boarding limit : ℕ) where
  early-not : (ride_early b Q boarding).number ≢ 8
  unfolding ride_early
  early-not =
      or-not (table_lengths b.hop_size b.vertices b.walks b.hops) _ (lengths-not b.hop_size b.vertices b.walks b.hops)
      (or-not (unless (whole_of 8 b.settled) 1 4) _ (unless_not (whole_of 8 b.settled) 1 4 (omega arith))
      (or-not (contents (ride_tables b)) _ (contents-not (ride_tables b))
      (or-not (query_refusal (ride_tables b) Q) _ (query-not (ride_tables b) Q) (or-not (unless (leb boarding 600) 7 5) _ (unless_not (leb boarding 600) 7 5 (omega arith)) (unless_not _ 18 0 (omega arith))))))

  over-not : (l : List Settled) → (ride_over b l limit).refusal ≢ 8
  unfolding ride_over ride_accepted ride_refused list_room
  over-not l = go (eqb (list_room b l k).number 0)
    where
      k : ℕ
      k = min limit (length l)

      go : (t : Bool) → (cond t (ride_accepted b l k) (ride_refused (list_room b l k) (cleared b.settled) (cleared b.scratch))).refusal ≢ 8
      go true = let z : ◌≢◌ {A = ℕ} 0 8 = omega arith in z
      go false = from-not _ (λ j. unless_not _ 9 j (let z : ◌≢◌ {A = ℕ} 9 8 = omega arith in z)) (k + 1) 0

  pub never-8 : (a : RideAnswer) → RideAllowed b Q boarding limit a → a.refusal ≢ 8
  unfolding ride_refused
  never-8 a A e =
      ⊎_elim (λ (t : eqb (ride_early b Q boarding).number 0 ≡ true). let x = A.accepted (eqb-true _ 0 t) in over-not x.0 (sym (ap (λ (z : RideAnswer). z.refusal) x.2) ∙ e))
      (λ (t : eqb (ride_early b Q boarding).number 0 ≡ false). early-not (sym (ap (λ (z : RideAnswer). z.refusal) (A.refused (eqb-false _ 0 t))) ∙ e))
      (split (eqb (ride_early b Q boarding).number 0))
