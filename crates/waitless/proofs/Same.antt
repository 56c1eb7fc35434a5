-- Over tables whose walks have no wait, so whose top bytes of lengths are 0, the check, the run and the parts have the answers that they had before, in every byte.
-- Assumes nothing.
use mathlib.Core.Path.{◌≡◌, refl, sym, ap, ap₂, subst, fun_ext, ◌∙◌}
use mathlib.Core.Logic.{⊎_elim, ◌↔◌, ◌≢◌}
use mathlib.Core.Bool.{cond}
use mathlib.Core.List.{List, [], ◌∷◌, flat_map}
use Prim.Native.Nat.{ℕ, ◌+◌, ◌*◌, ◌/◌, ◌<◌, ◌≤◌}
use native.Mathlib.Omega.{arith}
use lib.Dec.{eqb, leb}
use lib.ListN.{length, take, get_or-eq_default}
use Rattle.journeys.specs.Counting.{joined}
use Rattle.journeys.specs.Bytes.{be32, filled, cleared}
use Rattle.journeys.specs.Tables.{Tables, Walk, wait_of, vertex_at, walk_at, hop_at, tables_of, vertex_count, walk}
use Rattle.journeys.specs.Query.{Query, allowed}
use Rattle.journeys.specs.Settled.{Settled}
use Rattle.journeys.specs.Order.{Order, IsOrder}
use Rattle.journeys.specs.Network.{Network}
use Rattle.journeys.specs.Records.{network}
use Rattle.journeys.specs.Parts.{Part, part_bytes, part_list}
use Rattle.journeys.specs.Refusals.{Refusal, unless, chain, first_from, or_else, table_lengths, buffer_lengths, contents, query_refusal, check}
use Rattle.journeys.specs.Lists.{list_refusal, settled_in}
use Rattle.journeys.specs.Answers.{Lent, Answer, tables, early, refused_early, answer_over, Allowed, room_for, room_up_to_for, accepted_for, answer_for}
use Rattle.journeys.specs.PartAnswers.{PartsLent, PartsAnswer, parts_tables, list_lengths, parts_early, parts_refused, parts_answer, parts_room_at_for, parts_room_for, parts_accepted_for, parts_answer_for}
use Rattle.journeys.proofs.Tests.{le-or-lt}
use Rattle.journeys.proofs.Counting.{joined_same}
use Rattle.journeys.proofs.Decoding.{walk-count, walk_at_lem}
use Rattle.journeys.proofs.Firsts.{order_same}
use Rattle.waitless.specs.Before.{whole_walk_at, whole_tables_of, whole_tables, contents_before, check_before, part_list_before, network_before, DistanceBefore, room_over, accepted_over, answered_over, early_before, AllowedBefore, parts_early_before, parts_room_before, parts_answer_before}
use Rattle.waitless.proofs.Without.{Waitless, contents-same, distance-before, distance-now, network-same, parts_same}

-- the top byte of each length is 0
abbrev pub NoWaits : List ℕ → Type 0
NoWaits w = (i : ℕ) → i < length w / 16 → wait_of (be32 w (16 * i + 8)) ≡ 0

walk-whole : (w : List ℕ) (i : ℕ) → wait_of (be32 w (16 * i + 8)) ≡ 0 → walk_at w i ≡ whole_walk_at w i
unfolding walk_at whole_walk_at
walk-whole w i e =
    ap₂ (λ (len wait : ℕ). record { from = be32 w (16 * i); to = be32 w (16 * i + 4); len = len; wait = wait; twin = be32 w (16 * i + 12) }) (omega arith) e

module _ (size : ℕ) (v w h : List ℕ) (none-waits : NoWaits w) where
  -- Such tables read as before,
  pub tables-whole : tables_of size v w h ≡ whole_tables_of size v w h
  unfolding tables_of whole_tables_of
  tables-whole =
      ap (λ (walks : List Walk). record { vertices = joined (λ i. vertex_at v i ∷ []) (length v / 12); walks = walks; hops = joined (λ j. hop_at size h j ∷ []) (length h / size) })
      (joined_same (λ i. walk_at w i ∷ []) (λ i. whole_walk_at w i ∷ []) (length w / 16) (λ i l. ap (λ (x : Walk). x ∷ []) (walk-whole w i (none-waits i l))))

  -- and no walk has a wait.
  pub tables-waitless : Waitless (whole_tables_of size v w h)
  unfolding walk_at
  tables-waitless = subst Waitless tables-whole waits
    where
      waits : (i : ℕ) → (walk (tables_of size v w h) i).wait ≡ 0
      waits i =
          ⊎_elim
          (λ (l : length w / 16 ≤ i).
          ap (λ (x : Walk). x.wait) (get_or-eq_default (tables_of size v w h).walks (record { from = 0; to = 0; len = 0; wait = 0; twin = 0 }) (omega (arith, walk-count size v w h))))
          (λ (l : i < length w / 16). ap (λ (x : Walk). x.wait) (walk_at_lem size v w h i l) ∙ none-waits i l)
          (le-or-lt (length w / 16) i)

  contents-whole : contents (tables_of size v w h) ≡ contents_before (whole_tables_of size v w h)
  contents-whole = ap contents tables-whole ∙ contents-same (whole_tables_of size v w h) tables-waitless

  -- The check answers as before.
  pub check-same : check size v w h ≡ check_before size v w h
  unfolding check check_before
  check-same = ap (or_else (table_lengths size v w h)) contents-whole

-- ---- the run
answer-over : (b : Lent) (Q : Query) (l : List Settled) (limit : ℕ) → answer_over b Q l limit ≡ answered_over b (network (tables b) Q) l limit
unfolding answer_for answered_over room_up_to_for room_for accepted_for room_over accepted_over
answer-over b Q l limit = refl

module _ (b : Lent) (Q : Query) (none-waits : NoWaits b.walks) where
  abbrev N : Tables
  N = whole_tables b

  whole : tables b ≡ N
  whole = tables-whole b.hop_size b.vertices b.walks b.hops none-waits

  waitless : Waitless N
  waitless = tables-waitless b.hop_size b.vertices b.walks b.hops none-waits

  early-same : early b Q ≡ early_before b Q
  unfolding early early_before
  early-same =
      ap₂ (λ (x : Refusal) (M : Tables). chain (table_lengths b.hop_size b.vertices b.walks b.hops ∷ buffer_lengths b.held b.settled ∷ x ∷ query_refusal M Q ∷ []))
      (contents-whole b.hop_size b.vertices b.walks b.hops none-waits) whole

  over-same : (l : List Settled) (limit : ℕ) → answer_over b Q l limit ≡ answered_over b (network_before N Q) l limit
  over-same l limit = answer-over b Q l limit ∙ ap (λ (G : Network). answered_over b G l limit) (ap (λ (M : Tables). network M Q) whole ∙ network-same N waitless Q)

  order-before : (l : List Settled) → IsOrder (tables b) Q l → Order (network_before N Q) (DistanceBefore N Q) (allowed Q) l
  order-before l O =
      subst (λ (G : Network). Order G (DistanceBefore N Q) (allowed Q) l) (network-same N waitless Q)
      (order_same (network N Q) (distance-before N waitless Q) (distance-now N waitless Q) (subst (λ (M : Tables). IsOrder M Q l) whole O))

  order-now : (l : List Settled) → Order (network_before N Q) (DistanceBefore N Q) (allowed Q) l → IsOrder (tables b) Q l
  order-now l O =
      subst (λ (M : Tables). IsOrder M Q l) (sym whole)
      (order_same (network N Q) (distance-now N waitless Q) (distance-before N waitless Q)
      (subst (λ (G : Network). Order G (DistanceBefore N Q) (allowed Q) l) (sym (network-same N waitless Q)) O))

  -- A run may answer exactly what it might before, at every limit.
  pub run-same : (limit : ℕ) (a : Answer) → Allowed b Q limit a ↔ AllowedBefore b Q limit a
  run-same limit a = (
    λ x. record {
      refused = λ n. subst (λ (r : Refusal). r.number ≢ 0 → a ≡ refused_early b r) early-same x.refused n;
      accepted = λ e. let y = x.accepted (ap (λ (r : Refusal). r.number) early-same ∙ e) in (y.0, order-before y.0 y.1, y.2 ∙ over-same y.0 limit);
    },
    λ x. record {
      refused = λ n. subst (λ (r : Refusal). r.number ≢ 0 → a ≡ refused_early b r) (sym early-same) x.refused n;
      accepted = λ e. let y = x.accepted (ap (λ (r : Refusal). r.number) (sym early-same) ∙ e) in (y.0, order-now y.0 y.1, y.2 ∙ sym (over-same y.0 limit));
    },
  )

-- ---- the parts
-- what the parts operation answers by its early refusal and the parts of a list
abbrev answered : PartsLent → Query → Refusal → (List Settled → List Part) → PartsAnswer
answered b Q e parts =
    let l = settled_in b.list in
    let room = first_from (λ k. unless (leb (length (parts (take k l))) (length b.parts / 12)) 10 k) (length l + 1) 0 in
    cond (eqb e.number 0)
    (cond (eqb room.number 0) (record { refusal = 0; place = 0; part_count = length (parts l); parts = filled b.parts (flat_map part_bytes (parts l)) })
    (parts_refused b Q room (cleared b.parts)))
    (parts_refused b Q e b.parts)

module _ (b : PartsLent) (Q : Query) (none-waits : NoWaits b.walks) where
  abbrev M : Tables
  M = whole_tables_of b.hop_size b.vertices b.walks b.hops

  parts_whole : parts_tables b ≡ M
  parts_whole = tables-whole b.hop_size b.vertices b.walks b.hops none-waits

  parts-early-same : parts_early b Q ≡ parts_early_before b Q
  unfolding parts_early parts_early_before
  parts-early-same =
      ap₂ (λ (x : Refusal) (K : Tables). chain (table_lengths b.hop_size b.vertices b.walks b.hops ∷ list_lengths b.list b.parts ∷ x ∷ query_refusal K Q ∷ list_refusal 8 (vertex_count K) (allowed Q) b.list ∷ []))
      (contents-whole b.hop_size b.vertices b.walks b.hops none-waits) parts_whole

  -- The parts operation answers as before, in every byte.
  pub parts-answer-same : parts_answer b Q ≡ parts_answer_before b Q
  unfolding parts_answer_for parts_room_for parts_room_at_for parts_accepted_for parts_answer_before parts_room_before
  parts-answer-same =
      ap₂ (answered b Q) parts-early-same
      (ap (λ (K : Tables). part_list K Q) parts_whole ∙ fun_ext (parts_same M (tables-waitless b.hop_size b.vertices b.walks b.hops none-waits) Q))
