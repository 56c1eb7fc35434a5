-- One arrival: its order of settling, its run, and whom journeys reach. Assumes nothing.
use mathlib.Core.Path.{◌≡◌, refl, sym, ap, ap₂, subst, ◌∙◌}
use mathlib.Core.Logic.{◌⊎◌, inl, inr, ◌↔◌, ◌≢◌}
use mathlib.Core.Bool.{Bool, true, false, ◌||◌}
use mathlib.Core.List.{List, [], ◌∷◌, ◌++◌, flat_map}
use Prim.Native.Nat.{ℕ, zero, suc, ◌+◌, ◌-◌, ◌*◌, ◌/◌, ◌≤◌, ◌<◌, min}
use native.Mathlib.Omega.{arith}
use lib.Dec.{eqb}
use lib.ListN.{length, take, replicate}
use lib.Seq.{take_at, take_all}
use borrow.Author.Tests.{eqb-true, eqb-false, le-leb}
use Rattle.journeys.specs.Counting.{none, one, count, joined, In}
use Rattle.journeys.specs.Bytes.{be32, filled, cleared}
use Rattle.journeys.specs.Tables.{Tables, vertex_count}
use Rattle.journeys.specs.Query.{Query, allowed}
use Rattle.journeys.specs.Journeys.{Journey}
use Rattle.journeys.specs.Order.{Settled, settled, IsOrder}
use Rattle.journeys.specs.Records.{network}
use Rattle.journeys.specs.Lists.{vertex_in, distance_at, named, settled_in, list_refusal}
use Rattle.journeys.specs.Refusals as refusals
use Rattle.journeys.specs.Refusals.{or_else, first_from}
use Rattle.journeys.specs.Answers.{Lent, Answer, Allowed, tables, early, settled_bytes, room_at, room_up_to, accepted_after, refused_late, answer_over, late_for, room_for, room_up_to_for, accepted_for, answer_for}
use Rattle.journeys.specs.Valid.{Valid}
use Rattle.journeys.proofs.Tests.{split, cond-true, cond-false}
use Rattle.journeys.proofs.Counting.{in-joined, joined_in, count_most}
use Rattle.journeys.proofs.Decoding.{vertex-count}
use Rattle.journeys.proofs.Valid.{early-valid}
use Rattle.journeys.proofs.Refusals.{room-exactly}
use Rattle.journeys.proofs.Demands.{listed-exactly}
use Rattle.journeys.proofs.Greedy as greedy
use Rattle.journeys.proofs.OrderLaws.{order_of, order_is, order-unique, order-size}
use Rattle.intake.specs.Lending.{lent}
use Rattle.records.specs.declared.Answer as records
use Rattle.search.specs.Outcome.{answer_of}
use Rattle.lists.proofs.Meaning.{named-is, entry-means, list-good}
use Rattle.evening.specs.Patients.{patients_of, figures}
use Rattle.evening.specs.Tallied.{tallied}
use Rattle.patients.specs.Reporting.{CanReport}
use Rattle.evening.proofs.Figures.{figures-long, figure-read}
use Rattle.evening.proofs.Tallying.{names, tally-figures}
use Rattle.covering.proofs.OwnList.{own-length, settled_back, own-list-good}

-- the order of settling, and its list in bytes
abbrev pub the_order : Tables → Query → List Settled
the_order N Q = greedy.run (network N Q) (allowed Q) (vertex_count N) []

abbrev pub the_list : Tables → Query → List ℕ
the_list N Q = flat_map settled_bytes (the_order N Q)

-- the list names v
abbrev pub reaches : Tables → Query → ℕ → Bool
reaches N Q v = named 8 (the_list N Q) (length (the_order N Q)) v

-- no entry names what an earlier one names: then a number is named once or not at all
named-once : (list : List ℕ) (n : ℕ) → ((i : ℕ) → i < n → (j : ℕ) → j < i → vertex_in 8 list j ≢ vertex_in 8 list i) → (x : ℕ)
    → count (λ k. eqb (vertex_in 8 list k) x) n ≡ one (named 8 list n x)
unfolding count named
named-once list zero h x = refl
named-once list (suc n) h x = go (named-once list n (λ i l. h i (omega arith)) x) (split (eqb (vertex_in 8 list n) x)) (split (named 8 list n x))
  where
    go : count (λ k. eqb (vertex_in 8 list k) x) n ≡ one (named 8 list n x) → (eqb (vertex_in 8 list n) x ≡ true) ⊎ (eqb (vertex_in 8 list n) x ≡ false)
        → (named 8 list n x ≡ true) ⊎ (named 8 list n x ≡ false)
        → count (λ k. eqb (vertex_in 8 list k) x) n + one (eqb (vertex_in 8 list n) x) ≡ one (named 8 list n x || eqb (vertex_in 8 list n) x)
    go ih (inl t) (inl u) =
        let w = (named-is 8 list n x).0 u in
        absurd (h n (omega arith) w.0 w.1 (w.2 ∙ sym (eqb-true (vertex_in 8 list n) x t)))
    go ih (inl t) (inr u) = rw (ih, t, u)
    go ih (inr t) (inl u) = rw (ih, t, u)
    go ih (inr t) (inr u) = rw (ih, t, u)

module _ (N : Tables) (Q : Query) (ok : Valid N Q) where
  abbrev l : List Settled
  l = the_order N Q

  pub the-order : IsOrder N Q l
  unfolding order_of
  the-order = order_is N Q ok

  pub order-low : length l ≤ vertex_count N
  order-low = order-size N Q ok the-order

  entries-are : length (the_list N Q) / 8 ≡ length l
  entries-are = omega (arith, own-length l)

  good-entry : (i : ℕ) → i < length l → (vertex_in 8 (the_list N Q) i < vertex_count N) × ((j : ℕ) → j < i → vertex_in 8 (the_list N Q) j ≢ vertex_in 8 (the_list N Q) i)
  good-entry i h =
      let whole : take (length l) l ≡ l = take_all (length l) l (let z : length l ≤ length l = omega arith in z) in
      let fine = ap (λ (r : refusals.Refusal). r.number) (sym (ap (λ (x : List Settled). list_refusal-of x) whole) ∙ own-list-good N Q ok the-order (length l)) in
      let e = (entry-means 8 (vertex_count N) (allowed Q) (the_list N Q) i).0 (list-good 8 (vertex_count N) (allowed Q) (the_list N Q) fine i (omega (arith, entries-are))) in
      (e.0, e.2)
    where
      list_refusal-of : List Settled → refusals.Refusal
      list_refusal-of x = list_refusal 8 (vertex_count N) (allowed Q) (flat_map settled_bytes x)

  -- Every entry names a vertex.
  pub entry-low : (i : ℕ) → i < length l → vertex_in 8 (the_list N Q) i < vertex_count N
  entry-low i h = (good-entry i h).0

  -- A vertex is named once or not at all.
  pub once : (v : ℕ) → count (λ k. eqb (vertex_in 8 (the_list N Q) k) v) (length l) ≡ one (reaches N Q v)
  once v = named-once (the_list N Q) (length l) (λ i h. (good-entry i h).1) v

  -- The list names a vertex exactly if a journey from it starts in time.
  pub reaches-exactly : (v : ℕ) → (reaches N Q v ≡ true) ↔ ((d : ℕ) × (d ≤ allowed Q) × Journey N Q v d)
  unfolding settled_in
  reaches-exactly v = (
    λ t.
        let k = (named-is 8 (the_list N Q) (length l) v).0 t in
        let d = distance_at 8 (the_list N Q) k.0 in
        let here : In (settled v d) (joined (λ i. at i ∷ []) (length (the_list N Q) / 8)) = in-joined (λ i. at i ∷ []) (length (the_list N Q) / 8) k.0 (settled v d) (omega (arith, k.1, entries-are)) (inl (ap (λ (x : ℕ). settled x d) (sym k.2))) in
        (listed-exactly N Q ok the-order v).0 (d, subst (In (settled v d)) (settled_back l) here),
    λ y.
        let x = (listed-exactly N Q ok the-order v).1 y in
        let k = joined_in (λ i. at i ∷ []) (length (the_list N Q) / 8) (settled v x.0) (subst (In (settled v x.0)) (sym (settled_back l)) x.1) in
        (named-is 8 (the_list N Q) (length l) v).1 (k.0, omega (arith, k.1, entries-are), sym (same x.0 k.0 k.2)),
  )
    where
      at : ℕ → Settled
      at i = settled (vertex_in 8 (the_list N Q) i) (distance_at 8 (the_list N Q) i)

      same : (d i : ℕ) → In (settled v d) (at i ∷ []) → v ≡ vertex_in 8 (the_list N Q) i
      same d i (inl e) = ap (λ (z : Settled). z.vertex) e
      same d i (inr e) = absurd e

-- ---- the run of the arrival, which has no step limit
from-same : (f g : ℕ → refusals.Refusal) (n i : ℕ) → ((k : ℕ) → f k ≡ g k) → first_from f n i ≡ first_from g n i
unfolding first_from
from-same f g zero i h = refl
from-same f g (suc n) i h = ap₂ or_else (h i) (from-same f g n (i + 1) h)

module _ (v w h : List ℕ) (hop : ℕ) (x x' y y' : List ℕ) (Q : Query) (l : List Settled) (e : length x' ≡ length x) (f : length y' ≡ length y) where
  same-room : (j : ℕ) → room_up_to (lent v w h hop x' y') Q l j ≡ room_up_to (lent v w h hop x y) Q l j
  unfolding room_up_to_for room_for
  same-room j = from-same (room_at (lent v w h hop x' y') Q l) (room_at (lent v w h hop x y) Q l) (j + 1) 0 (λ k. rw (e, f))

  same_answer : answer_over (lent v w h hop x' y') Q l none ≡ answer_over (lent v w h hop x y) Q l none
  unfolding answer_for accepted_for late_for filled cleared
  same_answer = rw (same-room (min none (length l)), e, f)

abbrev pub the_run : Lent → Query → Answer
the_run b Q = answer_over b Q (the_order (tables b) Q) none

module _ (v w h : List ℕ) (hop : ℕ) (held settled : List ℕ) (Q : Query) (passes : (early (lent v w h hop held settled) Q).number ≡ 0) where
  abbrev b : Lent
  b = lent v w h hop held settled

  abbrev ordered : List Settled
  ordered = the_order (tables b) Q

  good : Valid (tables b) Q
  good = early-valid b Q passes

  pub run-allowed : Allowed b Q none (the_run b Q)
  run-allowed = record { refused = λ n. absurd (n passes); accepted = λ z. (ordered, the-order (tables b) Q good, refl) }

  -- Of the buffers as a run before left them only the lengths count.
  pub run_is : (held' settled' : List ℕ) (a : Answer) → length held' ≡ length held → length settled' ≡ length settled → (early (lent v w h hop held' settled') Q).number ≡ 0
      → Allowed (lent v w h hop held' settled') Q none a → a ≡ the_run b Q
  run_is held' settled' a e f p A =
      let x = A.accepted p in
      x.2 ∙ ap (λ (l : List Settled). answer_over (lent v w h hop held' settled') Q l none) (order-unique (tables b) Q good x.1 (the-order (tables b) Q good)) ∙ answer-as ordered e f
    where
      answer-as : (l : List Settled) → length held' ≡ length held → length settled' ≡ length settled → answer_over (lent v w h hop held' settled') Q l none ≡ answer_over (lent v w h hop held settled) Q l none
      answer-as l e f = same_answer v w h hop held held' settled settled' Q l e f

  abbrev k : ℕ
  k = min none (length ordered)

  all-steps : k ≡ length ordered
  all-steps = omega (arith, order-low (tables b) Q good, good.tables.vertices_few)

  pub few-listed : length ordered ≤ 65536
  few-listed = omega (arith, order-low (tables b) Q good, good.tables.vertices_few)

  by-room : ((the_run b Q ≡ accepted_after b Q ordered k) × ((room_up_to b Q ordered k).number ≡ 0)) ⊎ ((the_run b Q ≡ refused_late b (room_up_to b Q ordered k)) × ((room_up_to b Q ordered k).number ≢ 0))
  unfolding answer_for
  by-room = go (split (eqb (room_up_to b Q ordered k).number 0))
    where
      go : (eqb (room_up_to b Q ordered k).number 0 ≡ true) ⊎ (eqb (room_up_to b Q ordered k).number 0 ≡ false)
          → ((the_run b Q ≡ accepted_after b Q ordered k) × ((room_up_to b Q ordered k).number ≡ 0)) ⊎ ((the_run b Q ≡ refused_late b (room_up_to b Q ordered k)) × ((room_up_to b Q ordered k).number ≢ 0))
      go (inl t) = inl (cond-true _ _ t, eqb-true _ 0 t)
      go (inr t) = inr (cond-false _ _ t, eqb-false _ 0 t)

  -- what an accepted run lists: the whole order. So it is finished.
  pub record Listed : Type 0 where
    pub counted : (the_run b Q).settled_count ≡ length ordered
    pub bytes : take (8 * length ordered) (the_run b Q).settled ≡ the_list (tables b) Q
    pub room : 8 * length ordered ≤ length settled
    pub finished : (the_run b Q).finished ≡ 1
    pub no_place : (the_run b Q).place ≡ 0

  pub run-listed : (the_run b Q).refusal ≡ 0 → Listed
  unfolding accepted_for late_for filled
  run-listed z = go by-room
    where
      whole : take k ordered ≡ ordered
      whole = take_all k ordered (omega (arith, all-steps))

      go : ((the_run b Q ≡ accepted_after b Q ordered k) × ((room_up_to b Q ordered k).number ≡ 0)) ⊎ ((the_run b Q ≡ refused_late b (room_up_to b Q ordered k)) × ((room_up_to b Q ordered k).number ≢ 0)) → Listed
      go (inl x) =
          let here = (room-exactly b Q ordered k).0 x.1 k (let z : k ≤ k = omega arith in z) in
          record {
            counted = ap (λ (a : Answer). a.settled_count) x.0 ∙ ap length whole;
            bytes =
                ap (λ (a : Answer). take (8 * length ordered) a.settled) x.0
                ∙ ap (λ (l : List Settled). take (8 * length ordered) (flat_map settled_bytes l ++ replicate (length settled - length (flat_map settled_bytes l)) 0)) whole
                ∙ take_at (flat_map settled_bytes ordered) _ (8 * length ordered) (own-length ordered);
            room = omega (arith, here.1, ap length whole);
            finished = ap (λ (a : Answer). a.finished) x.0 ∙ cond-true 1 0 (le-leb (length ordered) k (omega (arith, all-steps)));
            no_place = ap (λ (a : Answer). a.place) x.0;
          }
      go (inr x) = absurd (x.1 (sym (ap (λ (a : Answer). a.refusal) x.0) ∙ z))

  -- a run that lacks room
  pub run-late : (the_run b Q).refusal ≢ 0 → the_run b Q ≡ refused_late b (record { number = (the_run b Q).refusal; place = (the_run b Q).place })
  unfolding accepted_for late_for
  run-late n = go by-room
    where
      go : ((the_run b Q ≡ accepted_after b Q ordered k) × ((room_up_to b Q ordered k).number ≡ 0)) ⊎ ((the_run b Q ≡ refused_late b (room_up_to b Q ordered k)) × ((room_up_to b Q ordered k).number ≢ 0))
          → the_run b Q ≡ refused_late b (record { number = (the_run b Q).refusal; place = (the_run b Q).place })
      go (inl x) = absurd (n (ap (λ (a : Answer). a.refusal) x.0))
      go (inr x) =
          x.0
          ∙ ap (refused_late b) (ap₂ (λ (m n : ℕ). record { number = m; place = n }) (sym (ap (λ (a : Answer). a.refusal) x.0)) (sym (ap (λ (a : Answer). a.place) x.0)))

  -- the list can be tallied into a report
  pub can-tally : (list patients report : List ℕ) → list ≡ the_list (tables b) Q → CanReport (length v / 12) patients report
      → ((length list / 8 ≤ 65536) × ((i : ℕ) → i < length list / 8 → (4 * vertex_in 8 list i + 4 ≤ length patients) × (4 * vertex_in 8 list i + 4 ≤ length report) × (patients_of patients (vertex_in 8 list i) ≤ 65535)))
      × ((i : ℕ) → i < length list / 8 → be32 (tallied report list i) (4 * vertex_in 8 list i) < 4294967295)
  can-tally list patients report e C = subst (λ (l : List ℕ). Fits l) (sym e) ((omega (arith, few-listed, own-length ordered), each), small)
    where
      Fits : List ℕ → Type 0
      Fits l =
          ((length l / 8 ≤ 65536) × ((i : ℕ) → i < length l / 8 → (4 * vertex_in 8 l i + 4 ≤ length patients) × (4 * vertex_in 8 l i + 4 ≤ length report) × (patients_of patients (vertex_in 8 l i) ≤ 65535)))
          × ((i : ℕ) → i < length l / 8 → be32 (tallied report l i) (4 * vertex_in 8 l i) < 4294967295)

      low : (i : ℕ) → i < length (the_list (tables b) Q) / 8 → vertex_in 8 (the_list (tables b) Q) i < length v / 12
      low i l = omega (arith, entry-low (tables b) Q good i (omega (arith, own-length ordered)), vertex-count hop v w h)

      each : (i : ℕ) → i < length (the_list (tables b) Q) / 8
          → (4 * vertex_in 8 (the_list (tables b) Q) i + 4 ≤ length patients) × (4 * vertex_in 8 (the_list (tables b) Q) i + 4 ≤ length report) × (patients_of patients (vertex_in 8 (the_list (tables b) Q) i) ≤ 65535)
      each i l =
          let c = C.counted (vertex_in 8 (the_list (tables b) Q) i) (low i l) in
          (c.0, omega (arith, ap length C.are, figures-long C.figure C.places, low i l, C.enough), c.1)

      small : (i : ℕ) → i < length (the_list (tables b) Q) / 8 → be32 (tallied report (the_list (tables b) Q) i) (4 * vertex_in 8 (the_list (tables b) Q) i) < 4294967295
      small i l =
          let x = vertex_in 8 (the_list (tables b) Q) i in
          let t : tallied report (the_list (tables b) Q) i ≡ figures (λ y. C.figure y + names (the_list (tables b) Q) i y) C.places =
          ap (λ (r : List ℕ). tallied r (the_list (tables b) Q) i) C.are ∙ tally-figures C.figure C.places (the_list (tables b) Q) i (λ j q. omega (arith, low j (omega arith), C.enough)) in
          let r : be32 (tallied report (the_list (tables b) Q) i) (4 * x) ≡ C.figure x + names (the_list (tables b) Q) i x =
          ap (λ (y : List ℕ). be32 y (4 * x)) t ∙ figure-read (λ y. C.figure y + names (the_list (tables b) Q) i y) C.places x (omega (arith, low i l, C.enough)) in
          omega (arith, r, C.low x (low i l), count_most (λ j. eqb (vertex_in 8 (the_list (tables b) Q) j) x) i, few-listed, own-length ordered)

  -- the same of a run as the code has it
  pub record Own (r : records.Answer) (settled' : List ℕ) : Type 0 where
    pub count : r.settled ≡ length ordered
    pub bytes : take (8 * r.settled) settled' ≡ the_list (tables b) Q
    pub room : 8 * length ordered ≤ length settled

  pub own : (r : records.Answer) (held' settled' : List ℕ) → Allowed b Q none (answer_of r held' settled') → r.refusal ≡ 0 → Own r settled'
  own r held' settled' A z =
      let e = run_is held settled (answer_of r held' settled') refl refl passes A in
      let L = run-listed (sym (ap (λ (a : Answer). a.refusal) e) ∙ z) in
      let n : r.settled ≡ length ordered = ap (λ (a : Answer). a.settled_count) e ∙ L.counted in
      record { count = n; bytes = ap (λ (k : ℕ). take (8 * k) settled') n ∙ ap (λ (a : Answer). take (8 * length ordered) a.settled) e ∙ L.bytes; room = L.room }
