-- Lists of parts, one behind the other. Assumes nothing.
use mathlib.Core.Path.{◌≡◌, refl, sym, ap, ap₂, subst, ◌∙◌}
use mathlib.Core.Logic.{◌⊎◌, inl, inr}
use mathlib.Core.Bool.{Bool, true, false, cond}
use mathlib.Core.List.{List, [], ◌∷◌, ◌++◌, flat_map, append-nil, append_assoc}
use Prim.Native.Nat.{ℕ, zero, suc, ◌+◌, ◌-◌, ◌*◌, ◌/◌, ◌≤◌, ◌<◌, max, min}
use native.Mathlib.Omega.{arith}
use lib.Dec.{eqb, ltb}
use lib.ListN.{length, take, drop, take-append-drop, length-append, get_or-eq_default}
use borrow.Author.Tests.{eq-eqb, ne_eqb, lt-ltb, le-ltb}
use Rattle.journeys.specs.Counting.{none, joined}
use Rattle.journeys.specs.Bytes.{be32}
use Rattle.journeys.specs.Tables.{Walk, len_of, wait_of, walk_at, tables_of, walk}
use Rattle.journeys.specs.Query.{Query, past_ticks}
use Rattle.journeys.specs.Parts.{Part, part, part_bytes}
use Rattle.journeys.proofs.Tests.{cond-true, cond-false, le-or-lt}
use Rattle.journeys.proofs.Decoding.{walk-count, walk_at_lem}
use Rattle.journeys.proofs.Counting.{flat_append, flat-length}
use Rattle.words.specs.Written.{written}
use Rattle.words.specs.declared.Offset.{Offset}
use Rattle.words.specs.declared.Ticks.{Ticks}
use Rattle.records.specs.Fields.{part_of}
use Rattle.records.specs.Meaning.{offset_of, walk_of}
use Rattle.records.specs.declared.Walk as read
use Rattle.records.proofs.RecordBytes.{length_part}
use Rattle.words.proofs.Written.{length-written, written_next}
use Rattle.parts.specs.Listing.{Behind, Overfull, ListedIs, past_on, road_of, near_on, pair_on, part_on, run_on, reach_on, ahead_on}
use Rattle.std.specs.Prelude.{Option, Some, None}
use Rattle.parts.specs.declared.Road.{Road}

-- a part, or none
pub part_none : (i a z : ℕ) → a ≡ z → part i a z ≡ []
unfolding part
part_none i a z e = rw (eq-eqb a z e)

pub part-some : (i a z : ℕ) → (a ≡ z → ⊥) → part i a z ≡ part_of i a z ∷ []
unfolding part
part-some i a z n = rw (ne_eqb a z n)

-- nothing listed
pub behind-none : (count : ℕ) (b : List ℕ) → count ≤ length b / 12 → Behind count [] b b count
unfolding written flat_map
behind-none count b h = record { counted = omega arith; room = h; bytes = sym (ap (λ (x : List ℕ). x ++ drop (12 * count + 0) b) (append-nil (take (12 * count) b)) ∙ ap (λ (k : ℕ). take (12 * count) b ++ drop k b) (let e : 12 * count + 0 ≡ 12 * count = omega arith in e) ∙ take-append-drop (12 * count) b) }

-- more listed behind what is listed
pub behind_more : {count c c' : ℕ} {ps qs : List Part} {b b' b'' : List ℕ} → count ≤ length b / 12 → Behind count ps b b' c → Behind c qs b' b'' c' → Behind count (ps ++ qs) b b'' c'
behind_more {count} {c} {c'} {ps} {qs} {b} {b'} {b''} h x y =
    let fit : 12 * count + length (flat_map part_bytes ps) ≤ length b = omega (arith, flat-length part_bytes 12 length_part ps, x.counted, x.room) in
    let e : 12 * c ≡ 12 * count + length (flat_map part_bytes ps) = omega (arith, flat-length part_bytes 12 length_part ps, x.counted) in
    record {
      counted = omega (arith, x.counted, y.counted, length-append ps qs);
      room = subst (λ (k : ℕ). c' ≤ k / 12) (ap length x.bytes ∙ length-written b (12 * count) (flat_map part_bytes ps) fit) y.room;
      bytes = y.bytes
          ∙ ap (λ (z : List ℕ). written z (12 * c) (flat_map part_bytes qs)) x.bytes
          ∙ ap (λ (k : ℕ). written (written b (12 * count) (flat_map part_bytes ps)) k (flat_map part_bytes qs)) e
          ∙ written_next b (12 * count) (flat_map part_bytes ps) fit (flat_map part_bytes qs)
          ∙ ap (written b (12 * count)) (sym (flat_append part_bytes ps qs));
    }

pub over-more : {count c : ℕ} {ps qs : List Part} {b b' b'' : List ℕ} → count ≤ length b / 12 → Behind count ps b b' c → Overfull c qs b' b'' → Overfull count (ps ++ qs) b b''
over-more {count} {c} {ps} {qs} {b} {b'} {b''} h x y =
    let fit : 12 * count + length (flat_map part_bytes ps) ≤ length b = omega (arith, flat-length part_bytes 12 length_part ps, x.counted, x.room) in
    let e : length b' ≡ length b = ap length x.bytes ∙ length-written b (12 * count) (flat_map part_bytes ps) fit in
    record { over = omega (arith, ap (λ (k : ℕ). k / 12) e, y.over, x.counted, length-append ps qs); same = y.same ∙ e }

pub over-later : {count : ℕ} {ps : List Part} (qs : List Part) {b b' : List ℕ} → Overfull count ps b b' → Overfull count (ps ++ qs) b b'
over-later {count} {ps} qs {b} {b'} x = record { over = omega (arith, x.over, length-append ps qs); same = x.same }

-- ---- the offset on a record
pub near-walk : (e : Road) (i : ℕ) → i ≡ e.walk → e.near.0 ≡ near_on e i
unfolding near_on
near-walk e i p = rw (eq-eqb i e.walk p)

pub near-twin : (e : Road) (i : ℕ) → (i ≡ e.walk → ⊥) → i ≡ e.twin → e.back.0 ≡ near_on e i
unfolding near_on
near-twin e i n p = rw (ne_eqb i e.walk n, eq-eqb i e.twin p)

pub near_none : (e : Road) (i : ℕ) → (i ≡ e.walk → ⊥) → (i ≡ e.twin → ⊥) → 0 ≡ near_on e i
unfolding near_on
near_none e i n m = rw (ne_eqb i e.walk n, ne_eqb i e.twin m)

-- ---- what listing one part answers
module _ (count i a z : ℕ) (b : List ℕ) (h : count ≤ length b / 12) where
  pub listed-none : a ≡ z → ListedIs count (part i a z) b b (Some count)
  unfolding ListedIs
  listed-none e = rw (part_none i a z e) (behind-none count b h)

  pub listed-full : (a ≡ z → ⊥) → count ≡ length b / 12 → ListedIs count (part i a z) b b None
  unfolding ListedIs
  listed-full n e = rw (part-some i a z n) (record { over = omega arith; same = refl })

  pub listed-one : (b' : List ℕ) → (a ≡ z → ⊥) → (count ≡ length b / 12 → ⊥) → b' ≡ written b (12 * count) (part_bytes (part_of i a z)) → ListedIs count (part i a z) b b' (Some (count + 1))
  unfolding ListedIs flat_map
  listed-one b' n m e =
      rw (part-some i a z n)
      (record { counted = omega arith; room = omega arith; bytes = e ∙ ap (written b (12 * count)) (sym (append-nil (part_bytes (part_of i a z)))) })

-- ---- one list behind another
pub listed-over : (count : ℕ) (ps qs : List Part) (b b' : List ℕ) → ListedIs count ps b b' None → ListedIs count (ps ++ qs) b b' None
unfolding ListedIs
listed-over count ps qs b b' x = over-later qs x

module _ (count : ℕ) (ps : List Part) (b b' : List ℕ) (h : count ≤ length b / 12) where
  pub listed_more : (c : ℕ) (qs : List Part) (b'' : List ℕ) (r : Option ℕ) → ListedIs count ps b b' (Some c) → ListedIs c qs b' b'' r → ListedIs count (ps ++ qs) b b'' r
  unfolding ListedIs
  listed_more c qs b'' (Some c') x y = behind_more h x y
  listed_more c qs b'' None x y = over-more h x y

  pub listed-room : (c : ℕ) → ListedIs count ps b b' (Some c) → c ≤ length b' / 12
  unfolding ListedIs
  listed-room c x =
      let fit : 12 * count + length (flat_map part_bytes ps) ≤ length b = omega (arith, flat-length part_bytes 12 length_part ps, x.counted, x.room) in
      subst (λ (k : ℕ). c ≤ k / 12) (sym (ap length x.bytes ∙ length-written b (12 * count) (flat_map part_bytes ps) fit)) x.room

  pub listed-end : (c : ℕ) → ListedIs count ps b b' (Some c) → ListedIs count (ps ++ []) b b' (Some c)
  listed-end c x = subst (λ (q : List Part). ListedIs count q b b' (Some c)) (sym (append-nil ps)) x

-- step 0 without and with a twin
module _ (e : Road) (a z a' z' : ℕ) where
  pub first_alone : e.twin ≡ none → part e.walk a z ++ [] ≡ pair_on e a z a' z'
  unfolding pair_on
  first_alone q = rw (eq-eqb e.twin none q)

  pub first-both : (e.twin ≡ none → ⊥) → part e.walk a z ++ part e.twin a' z' ≡ pair_on e a z a' z'
  unfolding pair_on
  first-both q = rw (ne_eqb e.twin none q)

  -- whatever comes behind, the first part alone is too much
  pub first-over : (b b' : List ℕ) → ListedIs 0 (part e.walk a z) b b' None → ListedIs 0 (pair_on e a z a' z') b b' None
  unfolding pair_on
  first-over b b' x = listed-over 0 (part e.walk a z) (cond (eqb e.twin none) [] (part e.twin a' z')) b b' x

joined-add : (f : ℕ → List Part) (m n : ℕ) → (ps : List Part) × (joined f (m + n) ≡ joined f m ++ ps)
unfolding joined
joined-add f m zero = ([], ap (joined f) (let e : m + 0 ≡ m = omega arith in e) ∙ sym (append-nil (joined f m)))
joined-add f m (suc n) =
    let r = joined-add f m n in
    let e : m + suc n ≡ suc (m + n) = omega arith in
    (r.0 ++ f (m + n), ap (joined f) e ∙ ap (λ (x : List Part). x ++ f (m + n)) r.1 ∙ append_assoc (joined f m) r.0 (f (m + n)))

-- one number more
pub parts_more : (g : ℕ → List Part) (first i : ℕ) → first ≤ i → run_on g first (i - first) ++ g i ≡ run_on g first (i + 1 - first)
unfolding run_on joined
parts_more g first i h =
    let n : i + 1 - first ≡ suc (i - first) = omega arith in
    let k : first + (i - first) ≡ i = omega arith in
    ap (λ (x : ℕ). joined (λ k. g (first + k)) (i - first) ++ g x) (sym k)
    ∙ ap (joined (λ k. g (first + k))) (sym n)

-- those that are left may only be too many
pub parts-over : (g : ℕ → List Part) (first i end : ℕ) → first ≤ i → i < end → (ps : List Part) × (run_on g first (end - first) ≡ run_on g first (i + 1 - first) ++ ps)
unfolding run_on
parts-over g first i end h l = go (end - (i + 1)) (let z : (i + 1 - first) + (end - (i + 1)) ≡ end - first = omega arith in z)
  where
    f : ℕ → List Part
    f k = g (first + k)

    go : (n : ℕ) → (i + 1 - first) + n ≡ end - first → (ps : List Part) × (joined f (end - first) ≡ joined f (i + 1 - first) ++ ps)
    go n e = let r = joined-add f (i + 1 - first) n in (r.0, ap (joined f) (sym e) ∙ r.1)

-- ---- in the code's terms
pub listed-as : (count : ℕ) (ps qs : List Part) (b b' : List ℕ) (r : Option ℕ) → ps ≡ qs → ListedIs count ps b b' r → ListedIs count qs b b' r
listed-as count ps qs b b' r e x = subst (λ (z : List Part). ListedIs count z b b' r) e x

pub part-on : (w : List ℕ) (e : Road) (left i bits : ℕ) (len : Offset) (wait rest a near start : ℕ) → bits ≡ be32 w (16 * i + 8) → len ≡ offset_of (len_of bits) → wait ≡ wait_of bits * e.speed → rest ≡ left - wait
    → a ≡ len.0 - rest → near ≡ near_on e i → start ≡ max a near → part i start len.0 ≡ part_on w e left i
unfolding part_on walk_at
part-on w e left i bits len wait rest a near start b p t l q r s = rw (s, q, r, l, t, p, b)

-- before the first
pub parts-start : (g : ℕ → List Part) (first count : ℕ) (b : List ℕ) → count ≤ length b / 12 → ListedIs count (run_on g first (first - first)) b b (Some count)
unfolding run_on joined ListedIs
parts-start g first count b h = let z : first - first ≡ 0 = omega arith in rw z (behind-none count b h)

-- too many with i are too many with all
pub parts-full : (g : ℕ → List Part) (first i end count : ℕ) (b b' : List ℕ) → first ≤ i → i < end
    → ListedIs count (run_on g first (i - first) ++ g i) b b' None → ListedIs count (run_on g first (end - first)) b b' None
parts-full g first i end count b b' h l x =
    let o = parts-over g first i end h l in
    let y = listed-as count _ _ b b' None (parts_more g first i h) x in
    listed-as count _ _ b b' None (sym o.1) (listed-over count (run_on g first (i + 1 - first)) o.0 b b' y)

pub listed-is : (count : ℕ) (ps : List Part) (b b' : List ℕ) (r r' : Option ℕ) → r ≡ r' → ListedIs count ps b b' r → ListedIs count ps b b' r'
listed-is count ps b b' r r' e x = subst (λ (z : Option ℕ). ListedIs count ps b b' z) e x

-- the buffer keeps its length
pub listed-length : (count : ℕ) (ps : List Part) (b b' : List ℕ) (c : ℕ) → ListedIs count ps b b' (Some c) → length b' ≡ length b
unfolding ListedIs
listed-length count ps b b' c x =
    let fit : 12 * count + length (flat_map part_bytes ps) ≤ length b = omega (arith, flat-length part_bytes 12 length_part ps, x.counted, x.room) in
    ap length x.bytes ∙ length-written b (12 * count) (flat_map part_bytes ps) fit

-- a part of the record is listed, or there is no room for it
module _ (e : Road) (a z a' z' : ℕ) (b b' : List ℕ) (r : Option ℕ) (one : ListedIs 0 (part e.walk a z) b b' r) where
  pub first-full : r ≡ None → ListedIs 0 (pair_on e a z a' z') b b' None
  first-full s = first-over e a z a' z' b b' (listed-is 0 _ b b' r None s one)

  pub first_one : (c : ℕ) → r ≡ Some c → e.twin ≡ none → ListedIs 0 (pair_on e a z a' z') b b' (Some c)
  first_one c s t =
      listed-as 0 _ _ b b' (Some c) (first_alone e a z a' z' t) (listed-end 0 _ b b' (omega arith) c (listed-is 0 _ b b' r (Some c) s one))

  pub first_two : (c : ℕ) → r ≡ Some c → (e.twin ≡ none → ⊥) → (b'' : List ℕ) (r' : Option ℕ) → ListedIs c (part e.twin a' z') b' b'' r' → ListedIs 0 (pair_on e a z a' z') b b'' r'
  first_two c s t b'' r' two =
      listed-as 0 _ _ b b'' r' (first-both e a z a' z' t) (listed_more 0 _ b b' (omega arith) c _ b'' r' (listed-is 0 _ b b' r (Some c) s one) two)

pub first-room : (i a z : ℕ) (b b' : List ℕ) (r : Option ℕ) → ListedIs 0 (part i a z) b b' r → (c : ℕ) → r ≡ Some c → c ≤ length b' / 12
first-room i a z b b' r one c s = listed-room 0 _ b b' (omega arith) c (listed-is 0 _ b b' r (Some c) s one)

-- the same pair by equal numbers
pub pair-as : (e : Road) {a z a' z' x y x' y' : ℕ} (b b' : List ℕ) (r : Option ℕ) → a ≡ x → z ≡ y → a' ≡ x' → z' ≡ y' → ListedIs 0 (pair_on e a z a' z') b b' r → ListedIs 0 (pair_on e x y x' y') b b' r
pair-as e {a} {z} {a'} {z'} {x} {y} {x'} {y'} b b' r p q p' q' l =
    listed-as 0 _ _ b b' r (ap₂ (λ (i j : ℕ). pair_on e i j a' z') p q ∙ ap₂ (pair_on e x y) p' q') l

pub parts-end : (g : ℕ → List Part) (first i end count : ℕ) (b b' : List ℕ) (r : Option ℕ) → i ≡ end → ListedIs count (run_on g first (i - first)) b b' r
    → ListedIs count (run_on g first (end - first)) b b' r
parts-end g first i end count b b' r q x = subst (λ (k : ℕ). ListedIs count (run_on g first (k - first)) b b' r) q x

-- the courier's part of a walk, as its bits are read
pub ahead-on : (w : List ℕ) (e : Road) (left i bits : ℕ) (len : Offset) (reach most end : ℕ) → bits ≡ be32 w (16 * i + 8) → len ≡ offset_of (len_of bits) → reach ≡ reach_on e i len.0 → most ≡ min len.0 reach → end ≡ 0 + min most left
    → part i 0 end ≡ ahead_on w e left i
unfolding ahead_on walk_at
ahead-on w e left i bits len reach most end b p t m q =
    let same : (walk_at w i).len ≡ len.0 = sym (ap (λ (x : Offset). x.0) p ∙ ap len_of b) in
    let is : end ≡ min (min len.0 left) (reach_on e i len.0) = omega (arith, q, m, t) in
    ap (part i 0) (is ∙ ap (λ (l : ℕ). min (min l left) (reach_on e i l)) (sym same))

-- ---- what is waited for a place of a record, as its bits are read
module _ (w : List ℕ) (speed i place : ℕ) where
  module _ (inside : i < length w / 16) (bits : ℕ) (b : bits ≡ be32 w (16 * i + 8)) (len : Offset) (p : len ≡ offset_of (len_of bits)) where
    same_end : len.0 ≡ (walk_at w i).len
    unfolding walk_at
    same_end = rw (p, b)

    pub past_end : place ≡ len.0 → (wait : ℕ) → wait ≡ wait_of bits * speed → wait ≡ past_on w speed i place
    unfolding past_on walk_at
    past_end e wait t = t ∙ ap (λ (x : ℕ). wait_of x * speed) b ∙ sym (cond-true _ 0 (lt-ltb i (length w / 16) inside) ∙ cond-true _ 0 (eq-eqb place (walk_at w i).len (e ∙ same_end)))

    pub past-inner : (place ≡ len.0 → ⊥) → 0 ≡ past_on w speed i place
    unfolding past_on
    past-inner n = sym (cond-true _ 0 (lt-ltb i (length w / 16) inside) ∙ cond-false _ 0 (ne_eqb place (walk_at w i).len (λ e. n (e ∙ sym same_end))))

  pub past-no-walk : length w / 16 ≤ i → 0 ≡ past_on w speed i place
  unfolding past_on
  past-no-walk h = sym (cond-false _ 0 (le-ltb i (length w / 16) h))

-- The same by the tables' record of that number: where there is none, it has no wait.
pub past_is : (size : ℕ) (v w h : List ℕ) (Q : Query) (i place : ℕ) → past_ticks Q (walk (tables_of size v w h) i) place ≡ past_on w Q.speed i place
unfolding past_on
past_is size v w h Q i place = go (le-or-lt (length w / 16) i)
  where
    nothing : Walk
    nothing = record { from = 0; to = 0; len = 0; wait = 0; twin = 0 }

    no-wait : (t : Bool) → cond t (0 * Q.speed) 0 ≡ 0
    no-wait true = omega arith
    no-wait false = refl

    go : (length w / 16 ≤ i) ⊎ (i < length w / 16) → past_ticks Q (walk (tables_of size v w h) i) place ≡ cond (ltb i (length w / 16)) (past_ticks Q (walk_at w i) place) 0
    go (inl l) =
        ap (λ (x : Walk). past_ticks Q x place) (get_or-eq_default (tables_of size v w h).walks nothing (omega (arith, walk-count size v w h)))
        ∙ no-wait (eqb place 0) ∙ sym (cond-false _ 0 (le-ltb i (length w / 16) l))
    go (inr l) = ap (λ (x : Walk). past_ticks Q x place) (walk_at_lem size v w h i l) ∙ sym (cond-true _ 0 (lt-ltb i (length w / 16) l))

-- ---- the road as it is read
pub road-is : (w : List ℕ) (Q : Query) (r : read.Walk) → r ≡ walk_of (walk_at w Q.walk) → (past back : Ticks) → past.0 ≡ past_on w Q.speed Q.walk Q.offset → back.0 ≡ past_on w Q.speed r.twin (r.len.0 - Q.offset)
    → record { walk = Q.walk; twin = r.twin; near = record { 0 = Q.offset }; back = record { 0 = r.len.0 - Q.offset }; past = past; past_back = back; speed = Q.speed } ≡ road_of w Q
road-is w Q r e past back p q =
    ap₂ (λ (x y : ℕ). road_in r (record { 0 = x }) (record { 0 = y })) p q ∙ ap (λ (x : read.Walk). road_in x (record { 0 = past_on w Q.speed Q.walk Q.offset }) (record { 0 = past_on w Q.speed x.twin (x.len.0 - Q.offset) })) e
  where
    road_in : read.Walk → Ticks → Ticks → Road
    road_in x past back = record { walk = Q.walk; twin = x.twin; near = record { 0 = Q.offset }; back = record { 0 = x.len.0 - Q.offset }; past = past; past_back = back; speed = Q.speed }

pub len_is : (w : Walk) (r : read.Walk) → r ≡ walk_of w → r.len.0 ≡ w.len
len_is w r e = ap (λ (x : read.Walk). x.len.0) e
