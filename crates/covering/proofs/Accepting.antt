-- What refusals 1 to 7, 21 and 22 leave is what listing parts asks for, and the answer is then that of the definitions. Assumes nothing.
use mathlib.Core.Path.{◌≡◌, refl, ◌∙◌}
use mathlib.Core.Logic.{◌≢◌}
use mathlib.Core.Bool.{true, false}
use mathlib.Core.List.{List, []}
use Prim.Native.Nat.{ℕ, ◌*◌, ◌/◌, ◌≤◌, ◌<◌}
use native.Mathlib.Omega.{arith}
use lib.ListN.{length, take}
use Rattle.journeys.specs.Tables.{vertex_count, walk_at}
use Rattle.journeys.specs.Query.{Query, allowed}
use Rattle.journeys.specs.Parts.{part_list}
use Rattle.journeys.specs.Refusals.{fine, table_lengths, contents, query_refusal}
use Rattle.journeys.specs.Lists as lists
use Rattle.journeys.specs.Lists.{entry_ok}
use Rattle.journeys.specs.ListAnswers.{PartsAnswer, parts_answer_for}
use Rattle.journeys.specs.PartAnswers.{PartsLent, parts_tables, list_lengths, parts_early, parts_answer}
use Rattle.journeys.specs.CourierList.{list_length, list_refusal}
use Rattle.journeys.specs.CourierParts as courier
use Rattle.journeys.specs.CourierPartAnswers.{CourierPartsLent, courier_parts_early, courier_parts_answer}
use Rattle.journeys.proofs.Tests.{never}
use Rattle.journeys.proofs.Refusals.{or-fine, bad-fine}
use Rattle.journeys.proofs.Valid.{size_fits, lengths-valid, query-valid}
use Rattle.std.specs.Prelude.{Result, Ok, MatchResult}
use Rattle.words.specs.Told.{told}
use Rattle.words.specs.Refusal as words
use Rattle.journeys.specs.Bytes.{filled, cleared}
use Rattle.parts.specs.Listing.{road_of, first_on, first_ahead}
use Rattle.parts.specs.declared.Road.{Road}
use Rattle.making.proofs.InOrder.{length_is}
use Rattle.covering.specs.Covering.{Accepted, Ready, first_in, entry_in, entry_on, entry_ahead, listed_in, part_list_in, CoveredIs}
use Rattle.covering.specs.Lending.{count_in, parts_answer_of}
use Rattle.covering.proofs.Answered.{refused_as_lem, accepted-as, road-fits, query-high, list-fits, end-ready, end-as, covered-told}

module _ (b : PartsLent) (Q : Query) where
  pub ordinary-refused : (r : Result ℕ words.Refusal) → told r ≡ parts_early b Q → count_in r ≡ 0 → (parts_early b Q).number ≢ 0 → parts_answer_of r b.parts ≡ parts_answer b Q
  ordinary-refused r e z n = refused_as_lem (part_list (parts_tables b) Q) b.list b.parts (parts_early b Q) r e z n

  module _ (e : (parts_early b Q).number ≡ 0) where
    pub ordinary-accepted : (r : List ℕ) → Accepted false b.hop_size b.vertices b.walks b.hops r b.list Q
    unfolding parts_early lists.list_refusal
    ordinary-accepted r =
        let x = or-fine (table_lengths b.hop_size b.vertices b.walks b.hops) _ e in
        let y = or-fine (list_lengths b.list b.parts) _ x.1 in
        let z = or-fine (contents (parts_tables b)) _ y.1 in
        let q = or-fine (query_refusal (parts_tables b) Q) _ z.1 in
        record {
          wide = size_fits b.hop_size b.vertices b.walks b.hops x.0;
          valid = record { tables = lengths-valid b.hop_size b.vertices b.walks b.hops x.0 z.0; query = query-valid (parts_tables b) Q q.0 };
          good = bad-fine 21 (entry_ok 8 (vertex_count (parts_tables b)) (allowed Q) b.list) (length b.list / 8) (omega arith) q.1;
          long = λ t. never t refl;
          matches = λ t. never t refl;
        }

    pub ordinary-answer : parts_answer_for (part_list_in false (parts_tables b) Q) b.list b.parts fine ≡ parts_answer b Q
    unfolding part_list_in
    ordinary-answer = accepted-as (part_list (parts_tables b) Q) b.list b.parts (parts_early b Q) e

    abbrev ordinary : Accepted false b.hop_size b.vertices b.walks b.hops [] b.list Q
    ordinary = ordinary-accepted []

    pub ordinary-road : (Q.walk < length b.walks / 16) × (Q.offset ≤ (walk_at b.walks Q.walk).len) × (Q.speed ≤ 100)
    ordinary-road = road-fits false b.hop_size b.vertices b.walks b.hops [] b.list b.parts Q ordinary

    pub ordinary-query : (Q.duration ≤ 86400) × (Q.speed ≤ 100)
    ordinary-query = query-high false b.hop_size b.vertices b.walks b.hops [] b.list b.parts Q ordinary

    module _ (road : Road) (p : road ≡ road_of b.walks Q) (D : ℕ) (q : D ≡ allowed Q) where
      pub ordinary-ready : Ready false b.hop_size b.vertices b.walks b.hops [] b.list road D
      ordinary-ready = list-fits false b.hop_size b.vertices b.walks b.hops [] b.list b.parts Q ordinary road p D q

      -- x is what listing the entries answered, behind the parts of step 0 in the buffer b₁
      module _ (b' : List ℕ) (x : Result ℕ ℕ) (C : CoveredIs (listed_in (first_on road D) (entry_on b.vertices b.walks b.list road D)) (length b.list / 8) b.parts b' x) where
        ordinary-covered : CoveredIs (listed_in (first_in false (road_of b.walks Q) (allowed Q)) (entry_in false b.hop_size b.vertices b.walks b.hops [] b.list (road_of b.walks Q) (allowed Q))) (length b.list / 8) b.parts b' x
        unfolding first_in entry_in
        ordinary-covered = covered-told false b.hop_size b.vertices b.walks b.hops [] b.list b.parts Q road p D q b' x C

        pub ordinary-ends : MatchResult x (λ k. (12 * k ≤ length b') × (k < 4294967296)) (λ k. k < 4294967296)
        ordinary-ends = end-ready false b.hop_size b.vertices b.walks b.hops [] b.list b.parts Q ordinary b' x ordinary-covered

        pub ordinary-as : (A : PartsAnswer) → MatchResult x (λ k. A ≡ parts_answer_of (Ok k) (filled b' (take (12 * k) b'))) (λ k. A ≡ record { refusal = 10; place = k; part_count = 0; parts = cleared b' }) → A ≡ parts_answer b Q
        ordinary-as A m = end-as false b.hop_size b.vertices b.walks b.hops [] b.list b.parts Q ordinary b' x ordinary-covered A m ∙ ordinary-answer

module _ (b : CourierPartsLent) (Q : Query) where
  pub courier-refused : (r : Result ℕ words.Refusal) → told r ≡ courier_parts_early b Q → count_in r ≡ 0 → (courier_parts_early b Q).number ≢ 0 → parts_answer_of r b.lent.parts ≡ courier_parts_answer b Q
  unfolding courier_parts_answer
  courier-refused r e z n = refused_as_lem (courier.part_list (parts_tables b.lent) Q) b.lent.list b.lent.parts (courier_parts_early b Q) r e z n

  module _ (e : (courier_parts_early b Q).number ≡ 0) where
    pub courier-accepted : Accepted true b.lent.hop_size b.lent.vertices b.lent.walks b.lent.hops b.records b.lent.list Q
    unfolding courier_parts_early lists.list_refusal
    courier-accepted =
        let l = b.lent in
        let x = or-fine (table_lengths l.hop_size l.vertices l.walks l.hops) _ e in
        let y = or-fine (list_lengths l.list l.parts) _ x.1 in
        let s = or-fine (list_length (parts_tables l) b.records) _ y.1 in
        let z = or-fine (contents (parts_tables l)) _ s.1 in
        let m = or-fine (list_refusal (parts_tables l) b.records) _ z.1 in
        let q = or-fine (query_refusal (parts_tables l) Q) _ m.1 in
        record {
          wide = size_fits l.hop_size l.vertices l.walks l.hops x.0;
          valid = record { tables = lengths-valid l.hop_size l.vertices l.walks l.hops x.0 z.0; query = query-valid (parts_tables l) Q q.0 };
          good = bad-fine 21 (entry_ok 8 (vertex_count (parts_tables l)) (allowed Q) l.list) (length l.list / 8) (omega arith) q.1;
          long = λ t. length_is l.hop_size l.vertices l.walks l.hops b.records s.0;
          matches = λ t. m.0;
        }

    pub courier-answer : parts_answer_for (part_list_in true (parts_tables b.lent) Q) b.lent.list b.lent.parts fine ≡ courier_parts_answer b Q
    unfolding part_list_in courier_parts_answer
    courier-answer = accepted-as (courier.part_list (parts_tables b.lent) Q) b.lent.list b.lent.parts (courier_parts_early b Q) e

    abbrev taken : Accepted true b.lent.hop_size b.lent.vertices b.lent.walks b.lent.hops b.records b.lent.list Q
    taken = courier-accepted

    pub courier-road : (Q.walk < length b.lent.walks / 16) × (Q.offset ≤ (walk_at b.lent.walks Q.walk).len) × (Q.speed ≤ 100)
    courier-road = road-fits true b.lent.hop_size b.lent.vertices b.lent.walks b.lent.hops b.records b.lent.list b.lent.parts Q taken

    pub courier-query : (Q.duration ≤ 86400) × (Q.speed ≤ 100)
    courier-query = query-high true b.lent.hop_size b.lent.vertices b.lent.walks b.lent.hops b.records b.lent.list b.lent.parts Q taken

    module _ (road : Road) (p : road ≡ road_of b.lent.walks Q) (D : ℕ) (q : D ≡ allowed Q) where
      pub courier-ready : Ready true b.lent.hop_size b.lent.vertices b.lent.walks b.lent.hops b.records b.lent.list road D
      courier-ready = list-fits true b.lent.hop_size b.lent.vertices b.lent.walks b.lent.hops b.records b.lent.list b.lent.parts Q taken road p D q

      -- x is what listing the entries answered, behind the parts of step 0 in the buffer b₁
      module _ (b' : List ℕ) (x : Result ℕ ℕ) (C : CoveredIs (listed_in (first_ahead road D) (entry_ahead b.lent.hop_size b.lent.walks b.lent.hops b.records b.lent.list road D)) (length b.lent.list / 8) b.lent.parts b' x) where
        courier-covered : CoveredIs (listed_in (first_in true (road_of b.lent.walks Q) (allowed Q)) (entry_in true b.lent.hop_size b.lent.vertices b.lent.walks b.lent.hops b.records b.lent.list (road_of b.lent.walks Q) (allowed Q))) (length b.lent.list / 8) b.lent.parts b' x
        unfolding first_in entry_in
        courier-covered = covered-told true b.lent.hop_size b.lent.vertices b.lent.walks b.lent.hops b.records b.lent.list b.lent.parts Q road p D q b' x C

        pub courier-ends : MatchResult x (λ k. (12 * k ≤ length b') × (k < 4294967296)) (λ k. k < 4294967296)
        courier-ends = end-ready true b.lent.hop_size b.lent.vertices b.lent.walks b.lent.hops b.records b.lent.list b.lent.parts Q taken b' x courier-covered

        pub courier-as : (A : PartsAnswer) → MatchResult x (λ k. A ≡ parts_answer_of (Ok k) (filled b' (take (12 * k) b'))) (λ k. A ≡ record { refusal = 10; place = k; part_count = 0; parts = cleared b' }) → A ≡ courier_parts_answer b Q
        courier-as A m = end-as true b.lent.hop_size b.lent.vertices b.lent.walks b.lent.hops b.records b.lent.list b.lent.parts Q taken b' x courier-covered A m ∙ courier-answer
