-- A table of cases, computed from the definitions: in each row whatever answer the definitions allow shows what is wanted. Assumes nothing.
use mathlib.Core.Path.{◌≡◌, refl, ap, ap₂, ◌∙◌}
use mathlib.Core.Logic.{inl, inr}
use mathlib.Core.Bool.{Bool, true, false, ◌&&◌}
use mathlib.Core.List.{List, [], ◌∷◌, flat_map}
use Prim.Native.Nat.{ℕ}
use lib.Dec.{eqb}
use borrow.Author.Tests.{eqb-true}
use Rattle.journeys.specs.Counting.{In, least, count, joined}
use Rattle.journeys.specs.Bytes.{be16, be32, clock, word, filled, cleared}
use Rattle.journeys.specs.Tables.{vertex_at, walk_at, hop_at, tables_of}
use Rattle.journeys.specs.Network.{distance_in, within, into, outside, offered, known, remaining, met, held, row, entry, held_list}
use Rattle.journeys.specs.Records.{offer, record_at, departing, seed}
use Rattle.journeys.specs.Parts.{part, near, first_part, first_parts, part_at, parts_at, part_list}
use Rattle.journeys.specs.Refusals.{unless, or_else, first_from, first_bad, whole_of, table_of, hop_size_ok, table_lengths, buffer_lengths, ends_ok, pair_ok, walk_ok, hop_ok, walk_ascends, hop_ascends, vertex_ok, contents, query_refusal}
use Rattle.journeys.specs.Answers.{Answer, early, refused_early, Allowed, late_for, room_for, room_up_to_for, accepted_for, answer_for}
use Rattle.journeys.specs.Lists.{allows, named, entry_ok, list_refusal, settled_in}
use Rattle.journeys.specs.PartAnswers.{PartsAnswer, list_lengths, parts_early, parts_answer, parts_room_at_for, parts_room_for, parts_refused_for, parts_accepted_for, parts_answer_for}
use Rattle.journeys.specs.OneRun.{own_list}
use Rattle.journeys.specs.Marked.{Case, parts_over, vertex_bytes, base_vertices, base_walks, base_hop}
use Rattle.journeys.specs.PartLimits.{PartsCase, whole}
use Rattle.journeys.proofs.Tests.{and_both, never}
use Rattle.journeys.proofs.Place.{key, top}
use Rattle.journeys.proofs.Greedy.{scan, candidate, next, run}
use Rattle.journeys.proofs.Determined.{computed, answer-is}

abbrev pub same : List ℕ → List ℕ → Bool
same [] [] = true
same [] (y ∷ ys) = false
same (x ∷ xs) [] = false
same (x ∷ xs) (y ∷ ys) = eqb x y && same xs ys

abbrev pub passes : Case → Bool
passes c = let a = computed c.lent c.query c.limit in same (c.view a (parts_answer (parts_over c.lent (own_list a) c.parts) c.query)) c.want

abbrev pub every : {A : Type 0} → (A → Bool) → List A → Bool
every test [] = true
every test (c ∷ cs) = test c && every test cs

-- the test of a whole table; to unfold it is to unfold all that it computes with
unfoldable pub tested : List Case → Bool
unfolding vertex_bytes base_vertices base_walks base_hop computed early table_lengths hop_size_ok table_of whole_of unless or_else buffer_lengths contents first_bad first_from walk_ok ends_ok pair_ok hop_ok walk_ascends hop_ascends vertex_ok departing count record_at query_refusal answer_for room_up_to_for room_for accepted_for refused_early late_for filled cleared word flat_map held_list joined entry held met into within outside remaining row known least offered offer seed distance_in part_list first_parts first_part part near parts_at part_at allows named entry_ok list_refusal settled_in list_lengths parts_early parts_room_at_for parts_room_for parts_refused_for parts_accepted_for parts_answer_for tables_of vertex_at walk_at hop_at be32 be16 clock run next scan candidate key top
tested cs = every passes cs

-- the same of the parts operation alone
abbrev pub part_passes : PartsCase → Bool
part_passes c = same (whole (parts_answer c.lent c.query)) c.want

unfoldable pub parts_tested : List PartsCase → Bool
unfolding tested
parts_tested cs = every part_passes cs

pub same-is : (xs ys : List ℕ) → same xs ys ≡ true → xs ≡ ys
same-is [] [] e = refl
same-is [] (y ∷ ys) e = never e refl
same-is (x ∷ xs) [] e = never e refl
same-is (x ∷ xs) (y ∷ ys) e = let p = and_both (eqb x y) _ e in ap₂ (λ (a : ℕ) (b : List ℕ). a ∷ b) (eqb-true x y p.0) (same-is xs ys p.1)

pub each-passes : {A : Type 0} (test : A → Bool) (cs : List A) → every test cs ≡ true → (c : A) → In c cs → test c ≡ true
each-passes test [] e c i = absurd i
each-passes test (x ∷ cs) e c (inl q) = ap test q ∙ (and_both (test x) _ e).0
each-passes test (x ∷ cs) e c (inr i) = each-passes test cs (and_both (test x) _ e).1 c i

-- In each case of a table that passes, whatever answer the definitions allow, with the parts of its own list, shows what is wanted.
pub cases-hold : (cs : List Case) → tested cs ≡ true → (c : Case) → In c cs → (a : Answer) → Allowed c.lent c.query c.limit a
    → c.view a (parts_answer (parts_over c.lent (own_list a) c.parts) c.query) ≡ c.want
unfolding tested
cases-hold cs t c i a A =
    ap (λ (a : Answer). c.view a (parts_answer (parts_over c.lent (own_list a) c.parts) c.query)) (answer-is c.lent c.query c.limit a A)
    ∙ same-is _ c.want (each-passes passes cs t c i)

pub parts-hold : (cs : List PartsCase) → parts_tested cs ≡ true → (c : PartsCase) → In c cs → whole (parts_answer c.lent c.query) ≡ c.want
unfolding parts_tested
parts-hold cs t c i = same-is _ c.want (each-passes part_passes cs t c i)
