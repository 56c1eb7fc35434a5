-- What the steps and the end leave is the answer that the rules give. Assumes nothing.
use Rattle.std.specs.Prelude.{Result, Ok, Err}
use mathlib.Core.Path.{◌≡◌, refl, subst, sym, ap, ◌∙◌}
use mathlib.Core.Bool.{Bool, true, false}
use mathlib.Core.List.{List, ◌++◌, flat_map}
use Prim.Native.Nat.{ℕ, ◌+◌, ◌-◌, ◌*◌, ◌/◌, ◌≤◌, ◌<◌, min}
use native.Mathlib.Omega.{arith}
use lib.Dec.{eqb, leb}
use lib.ListN.{length, take, replicate, length-take}
use borrow.Author.Tests.{eq-eqb, ne_eqb, le-leb, lt-leb}
use Rattle.journeys.specs.Bytes.{filled, cleared}
use Rattle.journeys.specs.Counting.{one}
use Rattle.journeys.specs.Tables.{Tables, hop_count}
use Rattle.journeys.specs.Query.{Query}
use Rattle.journeys.specs.Settled.{Settled}
use Rattle.journeys.specs.Answers.{settled_bytes}
use Rattle.journeys.specs.Refusals as refusals
use Rattle.journeys.specs.Refusals.{unless, table_lengths}
use Rattle.journeys.specs.Valid.{Valid}
use Rattle.journeys.proofs.Tests.{cond-true, cond-false}
use Rattle.journeys.proofs.Refusals.{or-fine, from-none, from_first, unless-good, unless-bad}
use Rattle.journeys.proofs.Valid.{size_fits}
use Rattle.boarding.specs.Rides.{Mode}
use Rattle.boarding.specs.RideOrder.{IsRideOrder}
use Rattle.boarding.specs.RideAnswers.{RideLent, RideAnswer, ride_tables, mode_of, ride_early, ride_refused, list_room, ride_accepted, ride_over, RideAllowed}
use Rattle.boarding.proofs.RideAnswers.{ride-links}
use Rattle.boarding.proofs.RideOrder.{order_of, order_is, order-size}
use Rattle.words.specs.Told.{number_of}
use Rattle.words.specs.declared.Reason.TheVariants.{SettledRoom}
use Rattle.words.specs.Refusal.{Refusal}
use Rattle.words.proofs.Chains as chains
use Rattle.records.specs.Meaning.{refusal_of}
use Rattle.records.specs.declared.Answer.{Answer}
use Rattle.ending.specs.Left.{GivenUp}
use Rattle.ridesteps.specs.declared.Ridden.{Ridden}
use Rattle.ridesteps.specs.Ended.{RidesOver, RidesShort, RiddenIs, RidesEnd}
use Rattle.riding.specs.Lending.{ride_answer_of}
use Rattle.riding.specs.Left.{Listed, Answered}

filled-as : (d d' bytes : List ℕ) → length d ≡ length d' → filled d bytes ≡ filled d' bytes
unfolding filled
filled-as d d' bytes e = ap (λ (n : ℕ). bytes ++ replicate (n - length bytes) 0) e

cleared-as : (d d' : List ℕ) → length d ≡ length d' → cleared d ≡ cleared d'
unfolding cleared
cleared-as d d' e = ap (λ (n : ℕ). replicate n 0) e

-- ---- the refusals of the input
module _ (b : RideLent) (Q : Query) (boarding limit : ℕ) where
  -- Nothing lent is changed.
  pub refused-early : (why : Refusal) → record { number = number_of why.reason; place = why.place } ≡ ride_early b Q boarding → (r : Answer) → r ≡ refusal_of (number_of why.reason) why.place
      → RideAllowed b Q boarding limit (ride_answer_of r b.settled b.scratch)
  unfolding ride_refused
  refused-early why F r e =
      record {
        refused = λ z. ap (λ (x : Answer). ride_answer_of x b.settled b.scratch) e ∙ ap (λ (x : refusals.Refusal). ride_refused x b.settled b.scratch) F;
        accepted = λ z. absurd (chains.refuses {T = Unit {0}} {r = Err why} refl F z);
      }

  module _ (F : refusals.fine ≡ ride_early b Q boarding) where
    none : (ride_early b Q boarding).number ≡ 0
    none = sym (ap (λ (r : refusals.Refusal). r.number) F)

    -- What the steps ask.
    pub passes : Valid (ride_tables b) Q × (boarding ≤ 600) × (4 * hop_count (ride_tables b) ≤ length b.scratch)
    passes = ride-links b Q boarding none

    pub wide : 16 ≤ b.hop_size
    unfolding ride_early
    wide = size_fits b.hop_size b.vertices b.walks b.hops (or-fine (table_lengths b.hop_size b.vertices b.walks b.hops) _ none).0

    pub allow : (a : RideAnswer) → Answered b Q boarding limit a → RideAllowed b Q boarding limit a
    allow a x = record { refused = λ n. absurd (n none); accepted = λ z. x }

-- ---- the end of the steps
module _ (b : RideLent) (Q : Query) (boarding limit : ℕ) (ok : Valid (ride_tables b) Q) where
  abbrev N : Tables
  N = ride_tables b

  abbrev M : Mode
  M = mode_of b boarding

  abbrev order : List Settled
  order = order_of N Q M ok

  order-here : IsRideOrder N Q M order
  order-here = order_is N Q M ok

  abbrev last : ℕ
  last = min limit (length order)

  abbrev lacking : ℕ → refusals.Refusal
  lacking j = unless (leb (length (take j order)) (length b.settled / 8)) 9 j

  module _ (settled : List ℕ) (end : Result Ridden Refusal) (S : RidesEnd N Q M (length b.settled) limit settled end) where
    -- Room was found for every step.
    module _ (ridden : Ridden) (done : end ≡ Ok ridden) where
      abbrev n : ℕ
      n = ridden.settled

      abbrev finished : Bool
      finished = ridden.finished

      over : RidesOver order (length b.settled) limit n finished settled
      unfolding RiddenIs
      over = subst (RiddenIs order (length b.settled) limit settled) done (S order order-here)

      all_listed : length (take n order) ≡ n
      all_listed = omega (arith, length-take n order, over.steps)

      -- the numbers that the end asks for
      pub fits-end : (8 * n ≤ length settled) × (n < 4294967296)
      fits-end =
          let room = over.lists.room n (let z : n ≤ n = omega arith in z) in
          (omega (arith, room, all_listed, over.lists.length_is), omega (arith, over.steps, order-size N Q M ok order-here, ok.tables.vertices_few))

      room : eqb (list_room b order last).number 0 ≡ true
      unfolding list_room
      room =
          eq-eqb _ 0
          (ap (λ (r : refusals.Refusal). r.number)
          (from-none lacking (last + 1) 0
          (λ j _ c. ap (λ (r : refusals.Refusal). r.number) (unless-good _ 9 j (le-leb _ _ (over.lists.room j (omega (arith, c, over.steps))))))))

      pub concluded : {scratch settled' scratch' : List ℕ} {r : Answer} → Listed ridden settled scratch settled' scratch' r → length scratch ≡ length b.scratch
          → Answered b Q boarding limit (ride_answer_of r settled' scratch')
      unfolding ride_over ride_accepted
      concluded {scratch} {settled'} {scratch'} {r} C e = (
        order,
        order-here,
        ap (λ (x : Answer). ride_answer_of x settled' scratch') C.answer
            ∙ fields
            ∙ ap (ride_accepted b order) over.steps
            ∙ sym (cond-true (ride_accepted b order last) (ride_refused (list_room b order last) (cleared b.settled) (cleared b.scratch)) room),
      )
        where
          list-end : settled' ≡ filled b.settled (flat_map settled_bytes (take n order))
          list-end = C.settled_is ∙ ap (filled settled) over.lists.listed ∙ filled-as settled b.settled _ over.lists.length_is

          scratch-end : scratch' ≡ cleared b.scratch
          scratch-end = C.scratch_is ∙ cleared-as scratch b.scratch e

          fields : ride_answer_of (record { refusal = 0; place = 0; settled = n; parts = 0; held = 0; finished = one finished }) settled' scratch' ≡ ride_accepted b order n
          fields i =
              record {
                refusal = 0;
                place = 0;
                settled_count = sym all_listed i;
                part_count = 0;
                held_count = 0;
                finished = one (over.finished_is i);
                settled = list-end i;
                scratch = scratch-end i;
              }

    -- The list is larger than lent after one step.
    module _ (why : Refusal) (full : end ≡ Err why) where
      abbrev step : ℕ
      step = why.place

      told-short : (why.reason ≡ SettledRoom) × RidesShort order (length b.settled) limit step settled
      unfolding RiddenIs
      told-short = subst (RiddenIs order (length b.settled) limit settled) full (S order order-here)

      short : RidesShort order (length b.settled) limit step settled
      short = told-short.1

      lacks : lacking step ≡ record { number = 9; place = step }
      lacks = unless-bad _ 9 step (lt-leb _ _ short.lacks)

      first_short : list_room b order last ≡ record { number = 9; place = step }
      unfolding list_room
      first_short =
          from_first lacking (last + 1) 0 step (omega arith) (omega (arith, short.made)) (λ z. omega (arith, z, ap (λ (r : refusals.Refusal). r.number) lacks))
          (λ j _ c. ap (λ (r : refusals.Refusal). r.number) (unless-good _ 9 j (le-leb _ _ (short.before j c))))
          ∙ lacks

      no_room : eqb (list_room b order last).number 0 ≡ false
      no_room = ne_eqb (list_room b order last).number 0 (λ z. let q : ⊥ = omega (arith, z, ap (λ (r : refusals.Refusal). r.number) first_short) in q)

      pub given-up : {m : ℕ} → m ≡ number_of why.reason → {scratch settled' scratch' : List ℕ} {r : Answer} → GivenUp m step scratch settled scratch' settled' r → length scratch ≡ length b.scratch
          → Answered b Q boarding limit (ride_answer_of r settled' scratch')
      unfolding ride_over ride_refused
      given-up {m} em {scratch} {settled'} {scratch'} {r} C e = (
        order,
        order-here,
        ap (λ (x : Answer). ride_answer_of x settled' scratch') (C.answer ∙ ap (λ (x : ℕ). refusal_of x step) (em ∙ ap number_of told-short.0))
            ∙ buffers
            ∙ ap (λ (x : refusals.Refusal). ride_refused x (cleared b.settled) (cleared b.scratch)) (sym first_short)
            ∙ sym (cond-false (ride_accepted b order last) (ride_refused (list_room b order last) (cleared b.settled) (cleared b.scratch)) no_room),
      )
        where
          list-end : settled' ≡ cleared b.settled
          list-end = C.settled_is ∙ cleared-as settled b.settled short.length_is

          scratch-end : scratch' ≡ cleared b.scratch
          scratch-end = C.held_is ∙ cleared-as scratch b.scratch e

          buffers : ride_answer_of (refusal_of 9 step) settled' scratch' ≡ ride_refused (record { number = 9; place = step }) (cleared b.settled) (cleared b.scratch)
          buffers i =
              record {
                refusal = 9;
                place = step;
                settled_count = 0;
                part_count = 0;
                held_count = 0;
                finished = 0;
                settled = list-end i;
                scratch = scratch-end i;
              }
