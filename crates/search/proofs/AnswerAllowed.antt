-- The answer at the end of a run is one that the rules allow. Assumes nothing.
use Rattle.std.specs.Prelude.{Result, Ok, Err}
use mathlib.Core.Path.{◌≡◌, refl, subst, sym, ap, ap₂, ◌∙◌}
use mathlib.Core.Bool.{Bool, true, false}
use mathlib.Core.List.{List, ◌++◌, flat_map}
use Prim.Native.Nat.{ℕ, ◌-◌, ◌*◌, ◌%◌, ◌≤◌, ◌<◌, min}
use native.Mathlib.Omega.{arith}
use lib.Dec.{eqb}
use lib.ListN.{length, take, replicate, length-take}
use borrow.Author.Tests.{eqb-true, eq-eqb, ne_eqb}
use Rattle.journeys.specs.Bytes.{filled, cleared}
use Rattle.journeys.specs.Tables.{Tables}
use Rattle.journeys.specs.Query.{Query}
use Rattle.journeys.specs.Order.{Settled}
use Rattle.journeys.specs.Network.{Network, Held, distance_in}
use Rattle.journeys.specs.Refusals as refusals
use Rattle.journeys.specs.Refusals.{unless, whole_of, table_lengths, buffer_lengths}
use Rattle.journeys.specs.Counting.{one}
use Rattle.journeys.specs.Answers as answers
use Rattle.journeys.specs.Answers.{Lent, tables, early, refused_early, held_bytes, settled_bytes, Allowed}
use Rattle.journeys.specs.RunAnswers.{late_for, held_for, RoomFor, room_for, room_up_to_for, accepted_for, answer_for}
use Rattle.journeys.specs.CourierAnswers.{CourierLent, courier_early, CourierAllowed}
use Rattle.journeys.proofs.Tests.{never, cond-true, cond-false}
use Rattle.journeys.proofs.CourierAnswers.{courier-links}
use Rattle.listing.proofs.Froms.{total-is, sound}
use Rattle.stretches.proofs.Numbers.{right-list}
use Rattle.making.proofs.InOrder.{length_is}
use Rattle.journeys.proofs.Valid.{early-valid, size_fits}
use Rattle.journeys.specs.Valid.{Valid}
use Rattle.journeys.proofs.Refusals.{or-fine, unless-fine, room_for-is, room_for-exactly, room_for-first}
use Rattle.journeys.proofs.Told.{order_of, order_is, order-size}
use Rattle.worktable.specs.Map.{Map, size, rows}
use Rattle.worktable.specs.Table.{map_of, InOrder}
use Rattle.words.specs.Told.{number_of}
use Rattle.words.specs.Refusal.{Refusal}
use Rattle.words.proofs.Chains as chains
use Rattle.heldmap.specs.Directions.{network_in, distance_for}
use Rattle.heldmap.specs.RowsOfTables.{Lists}
use Rattle.steps.specs.Running.{Over, Short, EndedIs, OrderIn, Ends}
use Rattle.ending.specs.Left.{Concluded, GivenUp}
use Rattle.search.specs.Outcome.{answer_of, AnsweredIn}
use Rattle.records.specs.Meaning.{refusal_of}
use Rattle.records.specs.declared.Answer.{Answer}
use Rattle.stepping.specs.declared.Progress.{Progress}
use Rattle.steps.specs.declared.Ended.{Ended}
use Rattle.heldmap.proofs.HeldMap.{Bounded, size-held, rows-held}
use Rattle.heldmap.proofs.StepIsNext.{Searched}
use Rattle.heldmap.proofs.Directions.{ways_in, searched}

filled-as : (d d' bytes : List ℕ) → length d ≡ length d' → filled d bytes ≡ filled d' bytes
unfolding filled
filled-as d d' bytes e = ap (λ (n : ℕ). bytes ++ replicate (n - length bytes) 0) e

-- the held buffer has whole records
held_whole : (held settled : List ℕ) → (buffer_lengths held settled).number ≡ 0 → length held % 16 ≡ 0
unfolding buffer_lengths whole_of
held_whole held settled e = eqb-true _ 0 (unless-fine (whole_of 16 held) 1 3 (omega arith) (or-fine (unless (whole_of 16 held) 1 3) _ e).0)

module _ (b : Lent) (Q : Query) (limit : ℕ) where
  -- Refusals 1 to 7: nothing lent is changed.
  pub refused-early : (why : Refusal) → record { number = number_of why.reason; place = why.place } ≡ early b Q → (r : Answer) → r ≡ refusal_of (number_of why.reason) why.place → Allowed b Q limit (answer_of r b.held b.settled) × (r.parts ≡ 0)
  unfolding refused_early
  refused-early why F r e = (
    record {
      refused = λ z. ap (λ (x : Answer). answer_of x b.held b.settled) e ∙ ap (refused_early b) F;
      accepted = λ z. absurd (chains.refuses {T = Unit {0}} {r = Err why} refl F z);
    },
    ap (λ (x : Answer). x.parts) e,
  )

  pub passed : refusals.fine ≡ early b Q → (early b Q).number ≡ 0
  passed F = sym (ap (λ (r : refusals.Refusal). r.number) F)

module _ (b : Lent) (Q : Query) (limit : ℕ) (passes : (early b Q).number ≡ 0) where
  pub valid : Valid (tables b) Q
  valid = early-valid b Q passes

  pub whole-held : length b.held % 16 ≡ 0
  unfolding early
  whole-held = let x = or-fine (table_lengths b.hop_size b.vertices b.walks b.hops) _ passes in held_whole b.held b.settled (or-fine (buffer_lengths b.held b.settled) _ x.1).0

  pub hop_fits : 16 ≤ b.hop_size
  unfolding early
  hop_fits = size_fits b.hop_size b.vertices b.walks b.hops (or-fine (table_lengths b.hop_size b.vertices b.walks b.hops) _ passes).0

  -- What an ordinary run makes is allowed.
  pub allow : (a : answers.Answer) → AnsweredIn false (tables b) Q limit b.held b.settled a → Allowed b Q limit a
  unfolding AnsweredIn distance_for
  allow a x = record { refused = λ n. absurd (n passes); accepted = λ z. (x.0, x.1, x.2) }

-- ---- the courier's run
module _ (b : CourierLent) (Q : Query) (limit : ℕ) where
  -- Its refusals before the steps: nothing lent is changed.
  pub courier-refused : (why : Refusal) → record { number = number_of why.reason; place = why.place } ≡ courier_early b Q → (r : Answer) → r ≡ refusal_of (number_of why.reason) why.place → CourierAllowed b Q limit (answer_of r b.lent.held b.lent.settled) × (r.parts ≡ 0)
  unfolding refused_early
  courier-refused why F r e = (
    record {
      refused = λ z. ap (λ (x : Answer). answer_of x b.lent.held b.lent.settled) e ∙ ap (refused_early b.lent) F;
      accepted = λ z. absurd (chains.refuses {T = Unit {0}} {r = Err why} refl F z);
    },
    ap (λ (x : Answer). x.parts) e,
  )

  module _ (F : refusals.fine ≡ courier_early b Q) where
    passes : (courier_early b Q).number ≡ 0
    passes = sym (ap (λ (r : refusals.Refusal). r.number) F)

    hop-wide : 16 ≤ b.lent.hop_size
    unfolding courier_early
    hop-wide =
        let l = b.lent in
        size_fits l.hop_size l.vertices l.walks l.hops (or-fine (table_lengths l.hop_size l.vertices l.walks l.hops) _ passes).0

    -- What the steps ask.
    pub courier-valid : Valid (tables b.lent) Q × (length b.lent.held % 16 ≡ 0) × (16 ≤ b.lent.hop_size)
    unfolding courier_early
    courier-valid =
        let l = b.lent in
        let x = or-fine (table_lengths l.hop_size l.vertices l.walks l.hops) _ passes in
        ((courier-links b Q passes).0, held_whole l.held l.settled (or-fine (buffer_lengths l.held l.settled) _ x.1).0, hop-wide)

    -- The list is the right one.
    pub courier-lists : Lists true b.lent.hop_size b.lent.walks b.lent.hops b.records
    courier-lists =
        let l = b.lent in
        let k = courier-links b Q passes in
        record {
          right = λ e. right-list l.hop_size l.vertices l.walks l.hops (sound l.hop_size l.vertices l.walks l.hops k.0.tables (omega (arith, hop-wide))) k.2;
          long = λ e. length_is l.hop_size l.vertices l.walks l.hops b.records k.1 ∙ ap (λ (n : ℕ). 4 * n) (total-is l.hop_size l.vertices l.walks l.hops);
        }

    -- What the courier's run makes is allowed.
    pub courier-allow : (a : answers.Answer) → AnsweredIn true (tables b.lent) Q limit b.lent.held b.lent.settled a → CourierAllowed b Q limit a
    unfolding AnsweredIn distance_for
    courier-allow a x = record { refused = λ n. absurd (n passes); accepted = λ z. (x.0, x.1, x.2) }

-- an ordinary run reads no list
pub no-list : (size : ℕ) (w h list : List ℕ) → Lists false size w h list
no-list size w h list = record { right = λ e. never e refl; long = λ e. never e refl }

-- ---- the steps in either direction
module _ (c : Bool) (N : Tables) (Q : Query) (ok : Valid N Q) (limit : ℕ) (held_lent settled_lent : List ℕ) where
  abbrev G : Network
  G = network_in c N Q

  network-searched : Searched G (ways_in c N Q) (distance_for c N Q)
  network-searched = searched c N Q ok

  abbrev order : List Settled
  order = order_of G (ways_in c N Q) (distance_for c N Q) network-searched.told

  order-here : OrderIn c N Q order
  order-here = order_is G (ways_in c N Q) (distance_for c N Q) network-searched.told

  answered : (a : answers.Answer) → a ≡ answer_for G held_lent settled_lent order limit → AnsweredIn c N Q limit held_lent settled_lent a
  unfolding AnsweredIn
  answered a e = (order, order-here, e)

  module _ (held settled : List ℕ) (end : Result Ended Refusal) (S : Ends c N (length held_lent) (length settled_lent) Q limit held settled end) where
    ended : EndedIs G held_lent settled_lent order limit held settled end
    unfolding Ends
    ended = S held_lent settled_lent refl refl order order-here

    -- Room was found for every step.
    module _ (r : Ended) (done : end ≡ Ok r) where
      abbrev p : Progress
      p = r.progress

      abbrev finished : Bool
      finished = r.finished

      over : Over G held_lent settled_lent order limit p finished held settled
      unfolding EndedIs
      over = subst (EndedIs G held_lent settled_lent order limit held settled) done ended

      abbrev k : ℕ
      k = min limit (length order)

      here : RoomFor G held_lent settled_lent order p.settled
      here = over.running.room p.settled (let z : p.settled ≤ p.settled = omega arith in z)

      S-long : length (take p.settled order) ≡ p.settled
      S-long = omega (arith, length-take p.settled order, over.steps)

      -- the numbers that the end asks for
      pub fits-end : InOrder p.table held × (8 * p.settled ≤ length settled) × (p.settled < 4294967296)
      fits-end =
          let few = order-size G (ways_in c N Q) (distance_for c N Q) network-searched.told order-here in
          (over.running.table.order, omega (arith, here.1, S-long, over.running.long), omega (arith, over.steps, few, ok.tables.vertices_few))

      pub concluded : {m : ℕ} → m ≡ one finished → (held' settled' : List ℕ) (a : Answer) → Concluded p m held settled held' settled' a → length held ≡ length held_lent
          → AnsweredIn c N Q limit held_lent settled_lent (answer_of a held' settled') × (a.parts ≡ 0)
      unfolding answer_for accepted_for
      concluded {m} em held' settled' a C eh = (
        answered (answer_of a held' settled') (
            ap (λ (x : Answer). answer_of x held' settled') C.answer ∙ fields ∙ ap (accepted_for G held_lent settled_lent order) over.steps
            ∙ sym (cond-true (accepted_for G held_lent settled_lent order k) (late_for held_lent settled_lent (room_up_to_for G held_lent settled_lent order k)) room)),
        ap (λ (x : Answer). x.parts) C.answer,
      )
        where
          room : eqb (room_up_to_for G held_lent settled_lent order k).number 0 ≡ true
          room = eq-eqb _ 0 ((room_for-exactly G held_lent settled_lent order k).1 (λ j h. over.running.room j (omega (arith, over.steps))))

          low : Bounded G
          low = network-searched.bounded

          held-end : held' ≡ filled held_lent (flat_map held_bytes (held_for G order p.settled))
          held-end =
              C.held_is
              ∙ ap (λ (m : Map). filled held (flat_map held_bytes (rows m))) over.running.table.map
              ∙ ap (λ (x : List Held). filled held (flat_map held_bytes x)) (rows-held G (distance_in (take p.settled order)) low ok.tables.vertices_few)
              ∙ filled-as held held_lent _ eh

          held-count : size (map_of p.table held) ≡ length (held_for G order p.settled)
          held-count = ap size over.running.table.map ∙ size-held G (distance_in (take p.settled order)) low ok.tables.vertices_few

          settled-end : settled' ≡ filled settled_lent (flat_map settled_bytes (take p.settled order))
          settled-end = C.settled_is ∙ ap (filled settled) over.running.listed ∙ filled-as settled settled_lent _ over.running.long

          fields : answer_of (record { refusal = 0; place = 0; settled = p.settled; parts = 0; held = size (map_of p.table held); finished = m }) held' settled'
              ≡ accepted_for G held_lent settled_lent order p.settled
          fields i =
              record {
                refusal = 0;
                place = 0;
                settled_count = sym S-long i;
                held_count = held-count i;
                finished = (em ∙ ap one over.finished_is) i;
                held = held-end i;
                settled = settled-end i;
              }

    -- One step lacks room.
    module _ (why : Refusal) (full : end ≡ Err why) where
      abbrev n : ℕ
      n = number_of why.reason

      abbrev step : ℕ
      step = why.place

      short : Short G held_lent settled_lent order limit n step
      unfolding EndedIs
      short = subst (EndedIs G held_lent settled_lent order limit held settled) full ended

      number_short : (room_for G held_lent settled_lent order step).number ≡ n
      number_short = ap (λ (r : refusals.Refusal). r.number) short.refusal

      abbrev last : refusals.Refusal
      last = room_up_to_for G held_lent settled_lent order (min limit (length order))

      first_short : last ≡ record { number = n; place = step }
      first_short =
          room_for-first G held_lent settled_lent order (min limit (length order)) step short.made (λ r. omega (arith, (room_for-is G held_lent settled_lent order step).1 r, number_short, short.some)) short.before
          ∙ short.refusal

      pub late : {m : ℕ} → m ≡ n → (held' settled' : List ℕ) (r : Answer) → GivenUp m step held settled held' settled' r
          → length held ≡ length held_lent → length settled ≡ length settled_lent → AnsweredIn c N Q limit held_lent settled_lent (answer_of r held' settled') × (r.parts ≡ 0)
      unfolding answer_for late_for cleared
      late {m} em held' settled' r C eh es = (
        answered (answer_of r held' settled') (
            ap (λ (x : Answer). answer_of x held' settled') (C.answer ∙ ap (λ (x : ℕ). refusal_of x step) em) ∙ buffers ∙ ap (late_for held_lent settled_lent) (sym first_short)
            ∙ sym (cond-false (accepted_for G held_lent settled_lent order (min limit (length order))) (late_for held_lent settled_lent last) lacks)),
        ap (λ (x : Answer). x.parts) C.answer,
      )
        where
          zero : {x : List ℕ} {m n : ℕ} → x ≡ replicate m 0 → m ≡ n → x ≡ replicate n 0
          zero p q = p ∙ ap (λ (m : ℕ). replicate m 0) q

          lacks : eqb last.number 0 ≡ false
          lacks = ne_eqb last.number 0 (λ (z : last.number ≡ 0). omega (arith, ap (λ (x : refusals.Refusal). x.number) first_short, short.some))

          buffers : answer_of (refusal_of n step) held' settled' ≡ late_for held_lent settled_lent (record { number = n; place = step })
          buffers = ap₂ (answer_of (refusal_of n step)) (zero C.held_is eh) (zero C.settled_is es)
