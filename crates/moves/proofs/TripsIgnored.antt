-- Journeys do not ask for the trip: over hop tables that say the same hops the check, the run, the parts and the judge of lists have the same answers. So over a table of
-- 16-byte hops and that table moved forward, and over tables of 20-byte hops that differ in trips alone. Assumes nothing.
use mathlib.Core.Path.{◌≡◌, sym, ap, ap₂, subst, ◌∙◌}
use mathlib.Core.Bool.{Bool, cond}
use mathlib.Core.List.{List, [], ◌∷◌, ◌++◌, flat_map}
use Prim.Native.Nat.{ℕ, ◌+◌, ◌*◌, ◌/◌, ◌%◌, ◌≤◌, ◌<◌, min}
use native.Mathlib.Omega.{arith}
use lib.Dec.{eqb, leb}
use lib.ListN.{length, get_or, take, drop}
use lib.Seq.{get_or-take, get_or-drop}
use Rattle.journeys.specs.Counting.{joined}
use Rattle.journeys.specs.Bytes.{be32, clock, word, filled, cleared}
use Rattle.journeys.specs.Tables.{Hop, Tables, vertex_at, walk_at, hop_at, tables_of, vertex_count}
use Rattle.journeys.specs.Query.{Query, allowed}
use Rattle.journeys.specs.Order.{Settled, IsOrder}
use Rattle.journeys.specs.Refusals.{Refusal, unless, or_else, chain, first_from, hop_size_ok, whole_of, table_of, table_lengths, buffer_lengths, contents, query_refusal, check}
use Rattle.journeys.specs.Network.{Held, distance_in, held_list}
use Rattle.journeys.specs.Records.{network}
use Rattle.journeys.specs.Parts.{Part, part_list, part_bytes}
use Rattle.journeys.specs.Lists.{list_refusal, settled_in}
use Rattle.journeys.specs.Answers.{Lent, Answer, held_bytes, settled_bytes, early, refused_early, refused_late, room_up_to, accepted_after, answer_over, Allowed, late_for, room_for, room_up_to_for, accepted_for, answer_for}
use Rattle.journeys.specs.PartAnswers.{PartsLent, PartsAnswer, list_lengths, parts_early, parts_room, parts_refused, parts_accepted, parts_answer, parts_room_at_for, parts_room_for, parts_refused_for, parts_accepted_for, parts_answer_for}
use Rattle.journeys.specs.VendorLists.{vendor_refusal, judge_refusal}
use Rattle.journeys.proofs.Counting.{joined_same}
use Rattle.moves.specs.Moved.{common, lengthened}
use Rattle.moves.specs.Alike.{Alike}
use Rattle.moves.proofs.Rows.{common-long, row-long, rows_long}
use Rattle.moves.proofs.ThereAndBack.{row_at, common-front}

-- ---- a hop is what both sizes have of it
byte : (size : ℕ) (b : List ℕ) (i k : ℕ) → k < 16 → get_or (common size b i) k 0 ≡ get_or b (size * i + k) 0
unfolding common
byte size b i k l = get_or-take 16 (drop (size * i) b) k 0 l ∙ get_or-drop (size * i) b k 0

field : (size : ℕ) (b : List ℕ) (i k : ℕ) → k ≤ 12 → be32 b (size * i + k) ≡ be32 (common size b i) k
unfolding be32
field size b i k l =
    let e1 : size * i + k + 1 ≡ size * i + (k + 1) = omega arith in
    let e2 : size * i + k + 2 ≡ size * i + (k + 2) = omega arith in
    let e3 : size * i + k + 3 ≡ size * i + (k + 3) = omega arith in
    rw (e1, e2, e3, byte size b i k (omega arith), byte size b i (k + 1) (omega arith), byte size b i (k + 2) (omega arith), byte size b i (k + 3) (omega arith))

abbrev hop_in : List ℕ → Hop
hop_in p = record { from = be32 p 0; to = be32 p 4; departure = clock (be32 p 8); arrival = clock (be32 p 12) }

hop-common : (size : ℕ) (b : List ℕ) (i : ℕ) → hop_at size b i ≡ hop_in (common size b i)
unfolding hop_at
hop-common size b i =
    let start : be32 b (size * i) ≡ be32 (common size b i) 0 = ap (be32 b) (let e : size * i ≡ size * i + 0 = omega arith in e) ∙ field size b i 0 (omega arith) in
    rw (start, field size b i 4 (omega arith), field size b i 8 (omega arith), field size b i 12 (omega arith))

-- ---- tables that say the same hops
module _ (s s' : ℕ) (v w h h' : List ℕ) (same : Alike s s' h h') where
  pub same_tables : tables_of s v w h ≡ tables_of s' v w h'
  unfolding tables_of
  same_tables =
      ap (λ (hops : List Hop). record { vertices = joined (λ i. vertex_at v i ∷ []) (length v / 12); walks = joined (λ i. walk_at w i ∷ []) (length w / 16); hops = hops })
      (joined_same (λ j. hop_at s h j ∷ []) (λ j. hop_at s' h' j ∷ []) (length h / s)
      (λ j l. ap (λ (x : Hop). x ∷ []) (hop-common s h j ∙ ap hop_in (same.each j l) ∙ sym (hop-common s' h' j)))
      ∙ ap (joined (λ j. hop_at s' h' j ∷ [])) same.many)

  same-lengths : table_lengths s v w h ≡ table_lengths s' v w h'
  unfolding table_lengths
  same-lengths = ap (λ (good : Bool). chain (unless (table_of 12 1 65536 v) 1 0 ∷ unless (table_of 16 0 262144 w) 1 1 ∷ unless good 1 2 ∷ [])) same.good

  -- The check answers the same.
  pub same_check : check s v w h ≡ check s' v w h'
  unfolding check
  same_check = ap₂ or_else same-lengths (ap contents same_tables)

  module _ (held settled : List ℕ) (Q : Query) where
    abbrev one : Lent
    one = record { vertices = v; walks = w; hops = h; hop_size = s; held = held; settled = settled }

    abbrev other : Lent
    other = record { vertices = v; walks = w; hops = h'; hop_size = s'; held = held; settled = settled }

    same-early : early one Q ≡ early other Q
    unfolding early
    same-early =
        ap₂ (λ (r : Refusal) (N : Tables). chain (r ∷ buffer_lengths held settled ∷ contents N ∷ query_refusal N Q ∷ [])) same-lengths same_tables

    -- the room and the answer after k steps of the order l ask the tables for what is held
    same-room : (l : List Settled) (k : ℕ) → room_up_to one Q l k ≡ room_up_to other Q l k
    unfolding room_up_to_for room_for
    same-room l k =
        ap (λ (N : Tables). first_from
        (λ j. or_else (unless (leb (length (held_list (network N Q) (distance_in (take j l)))) (length held / 16)) 8 j) (unless (leb (length (take j l)) (length settled / 8)) 9 j)) (k + 1) 0)
        same_tables

    same-accepted : (l : List Settled) (k : ℕ) → accepted_after one Q l k ≡ accepted_after other Q l k
    unfolding accepted_for
    same-accepted l k =
        ap (λ (x : List Held). record {
          refusal = 0;
          place = 0;
          settled_count = length (take k l);
          held_count = length x;
          finished = cond (leb (length l) k) 1 0;
          held = filled held (flat_map held_bytes x);
          settled = filled settled (flat_map settled_bytes (take k l));
        })
        (ap (λ (N : Tables). held_list (network N Q) (distance_in (take k l))) same_tables)

    same_answer : (l : List Settled) (limit : ℕ) → answer_over one Q l limit ≡ answer_over other Q l limit
    unfolding answer_for late_for
    same_answer l limit =
        let k = min limit (length l) in
        ap₂ (λ (r : Refusal) (a : Answer). cond (eqb r.number 0) a (refused_late one r)) (same-room l k) (same-accepted l k)

    -- What the run may answer over one of them it may answer over the other.
    pub same-run : (limit : ℕ) (a : Answer) → Allowed one Q limit a → Allowed other Q limit a
    unfolding refused_early
    same-run limit a A =
        let number : (early one Q).number ≡ (early other Q).number = ap (λ (r : Refusal). r.number) same-early in
        record {
          refused = λ n. A.refused (λ z. n (sym number ∙ z)) ∙ ap (refused_early one) same-early;
          accepted = λ z.
              let x = A.accepted (number ∙ z) in
              (x.0, subst (λ (N : Tables). IsOrder N Q x.0) same_tables x.1, x.2 ∙ same_answer x.0 limit);
        }

  -- So do the parts.
  module _ (list parts : List ℕ) (Q : Query) where
    abbrev lent_one : PartsLent
    lent_one = record { vertices = v; walks = w; hops = h; hop_size = s; list = list; parts = parts }

    abbrev lent_other : PartsLent
    lent_other = record { vertices = v; walks = w; hops = h'; hop_size = s'; list = list; parts = parts }

    same-parts-early : parts_early lent_one Q ≡ parts_early lent_other Q
    unfolding parts_early
    same-parts-early =
        ap₂ (λ (r : Refusal) (N : Tables). chain (r ∷ list_lengths list parts ∷ contents N ∷ query_refusal N Q ∷ list_refusal 8 (vertex_count N) (allowed Q) list ∷ []))
        same-lengths same_tables

    same-parts-room : parts_room lent_one Q ≡ parts_room lent_other Q
    unfolding parts_room_for parts_room_at_for
    same-parts-room =
        ap (λ (N : Tables). first_from (λ k. unless (leb (length (part_list N Q (take k (settled_in list)))) (length parts / 12)) 10 k) (length (settled_in list) + 1) 0) same_tables

    same-parts-accepted : parts_accepted lent_one Q ≡ parts_accepted lent_other Q
    unfolding parts_accepted_for
    same-parts-accepted =
        ap (λ (ps : List Part). record { refusal = 0; place = 0; part_count = length ps; parts = filled parts (flat_map part_bytes ps) })
        (ap (λ (N : Tables). part_list N Q (settled_in list)) same_tables)

    pub same_parts : parts_answer lent_one Q ≡ parts_answer lent_other Q
    unfolding parts_answer_for parts_refused_for
    same_parts =
        ap₂ (λ (r : Refusal) (a : PartsAnswer). cond (eqb r.number 0) a (parts_refused lent_one Q r parts)) same-parts-early
        (ap₂ (λ (r : Refusal) (a : PartsAnswer). cond (eqb r.number 0) a (parts_refused lent_one Q r (cleared parts))) same-parts-room same-parts-accepted)

  -- And so does the judge of bought lists: walks come first, so that a record's number does not depend on the size of a hop.
  pub same-judge : (list : List ℕ) (Q : Query)
      → judge_refusal (record { vertices = v; walks = w; hops = h; hop_size = s; list = list }) Q ≡ judge_refusal (record { vertices = v; walks = w; hops = h'; hop_size = s'; list = list }) Q
  unfolding judge_refusal
  same-judge list Q =
      ap₂ (λ (r : Refusal) (N : Tables). chain (r ∷ unless (whole_of 12 list) 1 4 ∷ contents N ∷ query_refusal N Q ∷ vendor_refusal N Q list ∷ [])) same-lengths same_tables

-- ---- the two cases
-- A table of 16-byte hops, and the same moved forward.
pub moved-alike : (h : List ℕ) → length h % 16 ≡ 0 → Alike 16 20 h (lengthened h)
unfolding lengthened hop_size_ok table_of whole_of
moved-alike h e =
    let n = length h / 16 in
    let row : ℕ → List ℕ = λ i. common 16 h i ++ word 0 in
    let long : length (joined row n) ≡ 20 * n = rows_long row 20 n (row-long h) in
    let count : length (joined row n) / 20 ≡ n = omega (arith, long) in
    let whole : length (joined row n) % 20 ≡ 0 = omega (arith, long) in
    record {
      many = sym count;
      each = λ i l. sym (common-front (joined row n) i (common 16 h i) (word 0) (common-long 16 h i (omega arith) l) (row_at row 20 n i (row-long h) l));
      good = rw (e, count, whole);
    }

-- Tables of 20-byte hops that differ in trips alone.
pub trips-alike : (h h' : List ℕ) → length h ≡ length h' → ((i : ℕ) → i < length h / 20 → common 20 h i ≡ common 20 h' i) → Alike 20 20 h h'
unfolding table_of whole_of
trips-alike h h' e same = record { many = ap (λ (n : ℕ). n / 20) e; each = same; good = rw e }
