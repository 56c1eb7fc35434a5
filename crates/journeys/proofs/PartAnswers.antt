-- The parts operation: what may be assumed of an input that is not refused, and its three ways to end. Assumes nothing.
use mathlib.Core.Path.{◌≡◌, refl, sym, ap, subst, ◌∙◌}
use mathlib.Core.Logic.{⊎_elim, ◌≢◌, ◌↔◌}
use mathlib.Core.Bool.{true, ◌&&◌, ◌||◌}
use mathlib.Core.List.{List, [], ◌∷◌, ◌++◌, flat_map, append_assoc}
use Prim.Native.Nat.{ℕ, zero, suc, ◌+◌, ◌/◌, ◌≤◌, ◌<◌}
use native.Mathlib.Omega.{arith}
use lib.Dec.{eqb, leb, ltb}
use lib.ListN.{length, take}
use lib.Seq.{take_all, take-append-le}
use borrow.Author.Tests.{eq-eqb, ne_eqb, eqb-true, leb-true, le-leb, lt-leb, ltb-true}
use Rattle.journeys.specs.Bytes.{cleared}
use Rattle.journeys.specs.Counting.{none, joined}
use Rattle.journeys.specs.Tables.{vertex_count}
use Rattle.journeys.specs.Query.{Query, allowed}
use Rattle.journeys.specs.Order.{Settled, settled}
use Rattle.journeys.specs.Parts.{Part, first_parts, parts_at, part_list}
use Rattle.journeys.specs.Lists.{allows, vertex_in, distance_at, entry_ok, list_refusal, settled_in}
use Rattle.journeys.specs.Refusals.{Refusal, table_lengths, contents, query_refusal}
use Rattle.journeys.specs.ListAnswers.{parts_to_for, PartsRoomFor, parts_room_at_for, parts_room_for, parts_refused_for, parts_accepted_for, parts_answer_for}
use Rattle.journeys.specs.PartAnswers.{PartsLent, parts_tables, list_lengths, parts_early, PartsRoom, parts_to, parts_refused, parts_accepted, parts_answer}
use Rattle.journeys.proofs.Tests.{cond-true, cond-false, and_both, or_cases, le-or-lt}
use Rattle.journeys.proofs.Counting.{length-joined, flat-snoc}
use Rattle.journeys.proofs.Refusals.{or-fine, unless-fine, unless-good, unless-bad, bad-fine, from-none, from_first}
use Rattle.journeys.proofs.Valid.{lengths-valid, query-valid, allowed-high}
use Rattle.journeys.specs.Valid.{Valid}

-- ---- the entries of a list
take-joined : {A : Type 0} (f : ℕ → A) (n i : ℕ) → i ≤ n → take i (joined (λ j. f j ∷ []) n) ≡ joined (λ j. f j ∷ []) i
unfolding joined
take-joined f zero i l = let e : i ≡ 0 = omega arith in rw e refl
take-joined f (suc n) i l =
    ⊎_elim
    (λ (h : i ≤ n). take-append-le i (joined (λ j. f j ∷ []) n) (f n ∷ []) (rw (length-joined f n) h) ∙ take-joined f n i h)
    (λ (h : n < i).
    let e : i ≡ suc n = omega arith in
    subst (λ (k : ℕ). take k (joined (λ j. f j ∷ []) (suc n)) ≡ joined (λ j. f j ∷ []) k) (sym e) (take_all (suc n) _ (omega (arith, length-joined f (suc n)))))
    (le-or-lt i n)

pub settled-count : (list : List ℕ) → length (settled_in list) ≡ length list / 8
unfolding settled_in
settled-count list = length-joined (λ i. settled (vertex_in 8 list i) (distance_at 8 list i)) (length list / 8)

-- One entry more is the next of the list.
pub settled-next : (list : List ℕ) (i : ℕ) → i < length list / 8 → take (suc i) (settled_in list) ≡ take i (settled_in list) ++ settled (vertex_in 8 list i) (distance_at 8 list i) ∷ []
unfolding settled_in joined
settled-next list i l =
    let f : ℕ → Settled = λ j. settled (vertex_in 8 list j) (distance_at 8 list j) in
    take-joined f (length list / 8) (suc i) (omega arith) ∙ sym (ap (λ (xs : List Settled). xs ++ f i ∷ []) (take-joined f (length list / 8) i (omega arith)))

-- ---- an input that is not refused
module _ (b : PartsLent) (Q : Query) (e : (parts_early b Q).number ≡ 0) where
  abbrev n : ℕ
  n = vertex_count (parts_tables b)

  links : ((table_lengths b.hop_size b.vertices b.walks b.hops).number ≡ 0) × ((contents (parts_tables b)).number ≡ 0) × ((query_refusal (parts_tables b) Q).number ≡ 0) × ((list_refusal 8 n (allowed Q) b.list).number ≡ 0)
  unfolding parts_early
  links =
      let x = or-fine (table_lengths b.hop_size b.vertices b.walks b.hops) _ e in
      let y = or-fine (list_lengths b.list b.parts) _ x.1 in
      let z = or-fine (contents (parts_tables b)) _ y.1 in
      let w = or-fine (query_refusal (parts_tables b) Q) _ z.1 in
      (x.0, z.0, w.0, w.1)

  pub parts-valid : Valid (parts_tables b) Q
  parts-valid = record { tables = lengths-valid b.hop_size b.vertices b.walks b.hops links.0 links.1; query = query-valid (parts_tables b) Q links.2 }

  -- Each entry names a vertex, at a distance within D.
  pub entry-good : (i : ℕ) → i < length b.list / 8 → (vertex_in 8 b.list i < n) × (distance_at 8 b.list i ≤ allowed Q)
  unfolding list_refusal entry_ok allows
  entry-good i l =
      let ok = bad-fine 21 (entry_ok 8 n (allowed Q) b.list) (length b.list / 8) (omega arith) links.3 i l in
      let p = and_both (ltb (vertex_in 8 b.list i) n && (eqb (allowed Q) none || leb (distance_at 8 b.list i) (allowed Q))) _ ok in
      let q = and_both (ltb (vertex_in 8 b.list i) n) _ p.0 in (
        ltb-true _ _ q.0,
        ⊎_elim (λ (t : eqb (allowed Q) none ≡ true). absurd (let z : ⊥ = omega (arith, eqb-true (allowed Q) none t, allowed-high parts-valid.query) in z))
            (λ (t : leb (distance_at 8 b.list i) (allowed Q) ≡ true). leb-true _ _ t)
            (or_cases (eqb (allowed Q) none) _ q.1),
      )

-- ---- the three ways to end, by the parts that the list gives and what is refused before them
module _ (parts_of : List Settled → List Part) (list parts : List ℕ) (early : Refusal) where
  abbrev m : ℕ
  m = length (settled_in list)

  room-is : (k : ℕ) → ((parts_room_at_for parts_of list parts k).number ≡ 0) ↔ PartsRoomFor parts_of list parts k
  unfolding parts_room_at_for
  room-is k = (
    λ e. leb-true _ _ (unless-fine (leb (length (parts_to_for parts_of list k)) (length parts / 12)) 10 k (omega arith) e),
    λ h. ap (λ (r : Refusal). r.number) (unless-good _ 10 k (le-leb _ _ h)),
  )

  above : (k : ℕ) → (PartsRoomFor parts_of list parts k → ⊥) → length parts / 12 < length (parts_to_for parts_of list k)
  above k x =
      ⊎_elim (λ (h : length (parts_to_for parts_of list k) ≤ length parts / 12). absurd (x h)) (λ (h : length parts / 12 < length (parts_to_for parts_of list k)). h)
      (le-or-lt (length (parts_to_for parts_of list k)) (length parts / 12))

  -- What is refused before the parts.
  pub refused-before : early.number ≢ 0 → parts_answer_for parts_of list parts early ≡ parts_refused_for early parts
  unfolding parts_answer_for
  refused-before x = cond-false _ (parts_refused_for early parts) (ne_eqb early.number 0 x)

  -- Refusal 10, at the first entry whose parts do not fit.
  pub refused-short : early.number ≡ 0 → (k : ℕ) → k ≤ m → (PartsRoomFor parts_of list parts k → ⊥) → ((j : ℕ) → j < k → PartsRoomFor parts_of list parts j)
      → parts_answer_for parts_of list parts early ≡ parts_refused_for (record { number = 10; place = k }) (cleared parts)
  unfolding parts_answer_for parts_room_for parts_room_at_for
  refused-short e k l x before =
      let at : parts_room_for parts_of list parts ≡ parts_room_at_for parts_of list parts k =
      from_first (parts_room_at_for parts_of list parts) (m + 1) 0 k (omega arith) (omega arith) (λ z. x ((room-is k).0 z)) (λ j a c. (room-is j).1 (before j c)) in
      let is : parts_room_at_for parts_of list parts k ≡ record { number = 10; place = k } = unless-bad _ 10 k (lt-leb _ _ (above k x)) in
      cond-true _ (parts_refused_for early parts) (eq-eqb early.number 0 e)
      ∙ cond-false (parts_accepted_for parts_of list parts) _ (ne_eqb (parts_room_for parts_of list parts).number 0 (λ z. omega (arith, ap (λ (r : Refusal). r.number) (at ∙ is))))
      ∙ ap (λ (r : Refusal). parts_refused_for r (cleared parts)) (at ∙ is)

  -- Every part fits.
  pub all-fits : early.number ≡ 0 → ((j : ℕ) → j ≤ m → PartsRoomFor parts_of list parts j) → parts_answer_for parts_of list parts early ≡ parts_accepted_for parts_of list parts
  unfolding parts_answer_for parts_room_for
  all-fits e room =
      let at : (parts_room_for parts_of list parts).number ≡ 0 =
      ap (λ (r : Refusal). r.number) (from-none (parts_room_at_for parts_of list parts) (m + 1) 0 (λ j a c. (room-is j).1 (room j (omega arith)))) in
      cond-true _ (parts_refused_for early parts) (eq-eqb early.number 0 e)
      ∙ cond-true (parts_accepted_for parts_of list parts) _ (eq-eqb (parts_room_for parts_of list parts).number 0 at)

-- For given tables and a query.
module _ (b : PartsLent) (Q : Query) where
  pub parts-refused : (parts_early b Q).number ≢ 0 → parts_answer b Q ≡ parts_refused b Q (parts_early b Q) b.parts
  parts-refused = refused-before (part_list (parts_tables b) Q) b.list b.parts (parts_early b Q)

  pub parts-short : (parts_early b Q).number ≡ 0 → (k : ℕ) → k ≤ length (settled_in b.list) → (PartsRoom b Q k → ⊥) → ((j : ℕ) → j < k → PartsRoom b Q j)
      → parts_answer b Q ≡ parts_refused b Q (record { number = 10; place = k }) (cleared b.parts)
  parts-short = refused-short (part_list (parts_tables b) Q) b.list b.parts (parts_early b Q)

  pub parts-fit : (parts_early b Q).number ≡ 0 → ((j : ℕ) → j ≤ length (settled_in b.list) → PartsRoom b Q j) → parts_answer b Q ≡ parts_accepted b Q
  parts-fit = all-fits (part_list (parts_tables b) Q) b.list b.parts (parts_early b Q)

-- The parts of one entry more stand behind those before it.
pub parts_next : (b : PartsLent) (Q : Query) (i : ℕ) → i < length b.list / 8
    → parts_to b Q (suc i) ≡ parts_to b Q i ++ parts_at (parts_tables b) Q (settled (vertex_in 8 b.list i) (distance_at 8 b.list i))
unfolding part_list
parts_next b Q i l =
    let N = parts_tables b in
    let x = settled (vertex_in 8 b.list i) (distance_at 8 b.list i) in
    ap (λ (S : List Settled). first_parts N Q ++ flat_map (parts_at N Q) S) (settled-next b.list i l)
    ∙ ap (λ (ps : List Part). first_parts N Q ++ ps) (flat-snoc (parts_at N Q) (take i (settled_in b.list)) x)
    ∙ sym (append_assoc (first_parts N Q) (flat_map (parts_at N Q) (take i (settled_in b.list))) (parts_at N Q x))
