-- The list of parts of RULES 10 holds exactly the parts of its roads, so a finished run covers exactly the places from which a journey starts in time.
-- Assumes nothing.
use mathlib.Core.Path.{◌≡◌, refl, sym, ap, ap₂, subst, ◌∙◌}
use mathlib.Core.Logic.{◌⊎◌, inl, inr, ⊎_elim, ◌≢◌}
use mathlib.Core.Bool.{Bool, true, false, cond}
use mathlib.Core.List.{List}
use Prim.Native.Nat.{ℕ, ◌+◌, ◌-◌, ◌≤◌, ◌<◌, max}
use native.Mathlib.Omega.{arith}
use lib.Dec.{eqb}
use borrow.Author.Tests.{eq-eqb, ne_eqb}
use Rattle.journeys.specs.Counting.{none, In}
use Rattle.journeys.specs.Tables.{Tables, walk, walk_count}
use Rattle.journeys.specs.Query.{Query, asked, allowed, wait_ticks, past_ticks, place_ticks, walk_ticks, from_ticks, to_ticks}
use Rattle.journeys.specs.Journeys.{Inside, onward, straight, straight_twin}
use Rattle.journeys.specs.Order.{Settled, settled, IsOrder}
use Rattle.journeys.specs.Records.{network}
use Rattle.journeys.specs.Parts.{Part, near, first_part, first_parts, part_at, parts_at, part_list, Covered}
use Rattle.journeys.proofs.Tests.{cond-true, cond-false, Test, same, other, test, le-or-lt}
use Rattle.journeys.proofs.Listing.{the_part, part_in, in-part, two_cases, two_in, on-query, list_cases, list-in}
use Rattle.journeys.proofs.Ways.{Dist}
use Rattle.journeys.proofs.Greedy.{Whole}
use Rattle.journeys.proofs.Settling as settling
use Rattle.journeys.proofs.Cover.{Road, Sound, FromPlace, Piece, first, later, covers-from, from-covers}
use Rattle.journeys.proofs.Valid.{good-walk, paired, allowed-some}
use Rattle.journeys.specs.Valid.{Valid}
use Rattle.journeys.proofs.Document.{ways, laws, journey-arrives, arrives-journey, order-dist, allowed-low}

module _ (N : Tables) (Q : Query) where
  -- a walk record as a road with a wait at its end; where the place is at that end the wait is spent for it too
  abbrev pub road : ℕ → Road
  road i = record { end = (walk N i).to; len = (walk N i).len; lag = wait_ticks Q (walk N i); near = near N Q i; more = past_ticks Q (walk N i) (near N Q i) }

  abbrev Piece' : List Settled → ℕ → ℕ → ℕ → Type 0
  Piece' S i a z = Piece (network N Q) (ways N Q) (allowed Q) S (road i) a z

  -- where the two kinds of parts start
  abbrev pub first_start : ℕ → ℕ
  first_start i = near N Q i - (allowed Q - past_ticks Q (walk N i) (near N Q i))

  abbrev pub later_start : ℕ → ℕ → ℕ
  later_start d i = max ((walk N i).len - (allowed Q - d - wait_ticks Q (walk N i))) (near N Q i)

  -- ---- what is listed is a part of its record
  abbrev IsPiece : List Settled → ℕ → Part → Type 0
  IsPiece S i p = (p.walk ≡ i) × Piece' S p.walk p.start p.end

  first_piece : (S : List Settled) (i : ℕ) (p : Part) → In p (first_part N Q i) → IsPiece S i p
  unfolding first_part
  first_piece S i p j =
      let e = part_in i (first_start i) (near N Q i) p j in
      subst (IsPiece S i) (sym e.0) (refl, first e.1)

  at_piece : (S : List Settled) (i d : ℕ) → In (settled (walk N i).to d) S → (p : Part) → In p (part_at N Q d i) → IsPiece S i p
  unfolding part_at
  at_piece S i d m p j =
      let e = part_in i (later_start d i) (walk N i).len p j in
      subst (IsPiece S i) (sym e.0) (refl, later d m e.1)

  -- A part is on e, on its twin or on a walk of the table.
  pub listed-piece : (S : List Settled) (p : Part) → In p (part_list N Q S)
      → ((p.walk ≡ Q.walk) ⊎ ((p.walk ≡ (asked N Q).twin) × ((asked N Q).twin ≢ none)) ⊎ (p.walk < walk_count N)) × Piece' S p.walk p.start p.end
  unfolding part_list parts_at first_parts
  listed-piece S p j = go (list_cases (walk_count N) (λ i. (walk N i).to) (part_at N Q) (first_parts N Q) S p j)
    where
      firsts : In p (first_part N Q Q.walk) ⊎ (((asked N Q).twin ≢ none) × In p (first_part N Q (asked N Q).twin))
          → ((p.walk ≡ Q.walk) ⊎ ((p.walk ≡ (asked N Q).twin) × ((asked N Q).twin ≢ none)) ⊎ (p.walk < walk_count N)) × Piece' S p.walk p.start p.end
      firsts (inl k) = let x = first_piece S Q.walk p k in (inl x.0, x.1)
      firsts (inr k) = let x = first_piece S (asked N Q).twin p k.1 in (inr (inl (x.0, k.0)), x.1)

      go : In p (first_parts N Q) ⊎ ((i : ℕ) × (d : ℕ) × (i < walk_count N) × In (settled (walk N i).to d) S × In p (part_at N Q d i))
          → ((p.walk ≡ Q.walk) ⊎ ((p.walk ≡ (asked N Q).twin) × ((asked N Q).twin ≢ none)) ⊎ (p.walk < walk_count N)) × Piece' S p.walk p.start p.end
      go (inl k) = firsts (two_cases (first_part N Q) Q.walk (asked N Q).twin p k)
      go (inr (i, d, l, m, k)) = let x = at_piece S i d m p k in (inr (inr (rw x.0 l)), x.1)

  -- ---- and each part is listed
  -- only e and its twin have the query place on them
  pub near-where : (i : ℕ) → 0 < near N Q i → (i ≡ Q.walk) ⊎ (i ≡ (asked N Q).twin)
  unfolding near
  near-where i = go (test i Q.walk) (test i (asked N Q).twin)
    where
      go : {s t : Bool} → Test i Q.walk s → Test i (asked N Q).twin t → 0 < cond s Q.offset (cond t ((asked N Q).len - Q.offset) 0) → (i ≡ Q.walk) ⊎ (i ≡ (asked N Q).twin)
      go (same e) t h = inl e
      go (other q) (same e) h = inr e
      go (other q) (other r) h = absurd (omega arith)

  pub piece-listed : (S : List Settled) (i : ℕ) → i < walk_count N → i ≢ none → {a z : ℕ} → Piece' S i a z → In (the_part i a z) (part_list N Q S)
  unfolding part_list parts_at part_at first_parts first_part
  piece-listed S i l n (first q) =
      list-in (walk_count N) (λ i. (walk N i).to) (part_at N Q) (first_parts N Q) S p
      (inl (two_in (first_part N Q) Q.walk (asked N Q).twin p (on-query (first_part N Q) i n p (in-part i (first_start i) (near N Q i) q) (near-where i (omega arith)))))
    where
      p : Part
      p = the_part i (first_start i) (near N Q i)
  piece-listed S i l n (later d j q) =
      let p = the_part i (later_start d i) (walk N i).len in
      list-in (walk_count N) (λ i. (walk N i).to) (part_at N Q) (first_parts N Q) S p (inr (i, d, l, j, in-part i (later_start d i) (walk N i).len q))

module _ (N : Tables) (Q : Query) (ok : Valid N Q) where
  -- the offset of the query place on e, and on its twin, which is another record
  pub near-asked : near N Q Q.walk ≡ Q.offset
  unfolding near
  near-asked = cond-true Q.offset _ (eq-eqb Q.walk Q.walk refl)

  twin-other : (asked N Q).twin ≢ none → (asked N Q).twin ≢ Q.walk
  twin-other n e =
      let p = (paired N ok.tables Q.walk ok.query.walk_low n).1 in
      (good-walk N ok.tables Q.walk ok.query.walk_low).apart (ap (λ (k : ℕ). (walk N k).from) (sym e) ∙ p.from)

  pub near-twin : (asked N Q).twin ≢ none → near N Q (asked N Q).twin ≡ (asked N Q).len - Q.offset
  unfolding near
  near-twin n =
      cond-false Q.offset _ (ne_eqb (asked N Q).twin Q.walk (twin-other n)) ∙ cond-true ((asked N Q).len - Q.offset) 0 (eq-eqb (asked N Q).twin (asked N Q).twin refl)

  pub few : (i : ℕ) → i < walk_count N → i ≢ none
  few i l = omega (arith, ok.tables.walks_few)

  pub twin-len : (asked N Q).twin ≢ none → (walk N (asked N Q).twin).len ≡ (asked N Q).len
  twin-len n = (paired N ok.tables Q.walk ok.query.walk_low n).1.len

  pub sound : (i : ℕ) → i < walk_count N → Sound (road N Q i)
  sound i l =
      record {
        on = ⊎_elim (λ (h : near N Q i ≤ 0). omega arith) (λ (h : 0 < near N Q i). there (near-where N Q i h)) (le-or-lt (near N Q i) 0);
        waits = no_more (eqb (near N Q i) (walk N i).len);
        there = λ h. at-end (test (near N Q i) (walk N i).len) h;
      }
    where
      no_more : (t : Bool) → cond t (wait_ticks Q (walk N i)) 0 ≤ wait_ticks Q (walk N i)
      no_more true = omega arith
      no_more false = omega arith

      at-end : {t : Bool} → Test (near N Q i) (walk N i).len t → 0 < cond t (wait_ticks Q (walk N i)) 0 → near N Q i ≡ (walk N i).len
      at-end (same e) h = e
      at-end (other q) h = absurd (omega arith)

      there : (i ≡ Q.walk) ⊎ (i ≡ (asked N Q).twin) → near N Q i ≤ (walk N i).len
      there (inl e) = rw e (rw near-asked ok.query.offset_low)
      there (inr e) = let n : (asked N Q).twin ≢ none = λ z. few i l (e ∙ z) in rw e (omega (arith, near-twin n, twin-len n))

  -- what it takes to the place along e, and along its twin
  place-walk : (i : ℕ) → i ≡ Q.walk → (near N Q i ≡ Q.offset) × (place_ticks Q (walk N i) (near N Q i) ≡ from_ticks N Q)
  place-walk i e =
      let q : near N Q i ≡ Q.offset = ap (near N Q) e ∙ near-asked in
      (q, ap₂ (λ (k o : ℕ). place_ticks Q (walk N k) o) e q)

  place-twin : (i : ℕ) → i < walk_count N → i ≡ (asked N Q).twin → (near N Q i ≡ (asked N Q).len - Q.offset) × (place_ticks Q (walk N i) (near N Q i) ≡ to_ticks N Q)
  place-twin i l e =
      let q : near N Q i ≡ (asked N Q).len - Q.offset = ap (near N Q) e ∙ near-twin (λ z. few i l (e ∙ z)) in
      (q, ap₂ (λ (k o : ℕ). place_ticks Q (walk N k) o) e q)

  -- ---- a journey from inside a record is one from a place of its road
  inside-place : (i x b : ℕ) → i < walk_count N → x < (walk N i).len → Inside N Q i x b → FromPlace (network N Q) (ways N Q) (road N Q i) x b
  inside-place i x b l xl (onward {d = d} j) = FromPlace.onward d (journey-arrives N Q ok j) (omega arith)
  inside-place i x b l xl (straight e h) = let q = place-walk i e in FromPlace.straight (omega arith) (omega arith)
  inside-place i x b l xl (straight_twin e h) = let q = place-twin i l e in FromPlace.straight (omega arith) (omega arith)
  inside-place i x b l xl (Inside.wait {d = d} h j) = up (inside-place i x d l xl j)
    where
      up : FromPlace (network N Q) (ways N Q) (road N Q i) x d → FromPlace (network N Q) (ways N Q) (road N Q i) x b
      up (FromPlace.straight a c) = FromPlace.straight a (omega arith)
      up (FromPlace.onward d' a c) = FromPlace.onward d' a (omega arith)

  place_inside : (i x b : ℕ) → i < walk_count N → 0 < x → FromPlace (network N Q) (ways N Q) (road N Q i) x b → Inside N Q i x b
  place_inside i x b l x0 (FromPlace.straight h k) = go (near-where N Q i (omega arith))
    where
      go : (i ≡ Q.walk) ⊎ (i ≡ (asked N Q).twin) → Inside N Q i x b
      go (inl e) = let q = place-walk i e in Inside.wait (let z : from_ticks N Q - x ≤ b = omega arith in z) (straight e (omega arith))
      go (inr e) = let q = place-twin i l e in Inside.wait (let z : to_ticks N Q - x ≤ b = omega arith in z) (straight_twin e (omega arith))
  place_inside i x b l x0 (FromPlace.onward d j h) =
      let q : d + (walk_ticks Q (walk N i) - x) ≤ b = omega arith in
      Inside.wait q (onward (arrives-journey N Q ok j))

  -- A whole-decimetre place inside a record lies in a listed part exactly if a journey starts there within D.
  module _ {l : List Settled} (O : IsOrder N Q l) (i x : ℕ) (il : i < walk_count N) (x0 : 0 < x) (xl : x < (walk N i).len) where
    each : (y : Settled) → In y l → Dist (network N Q) (ways N Q) y.vertex y.distance × (y.distance ≤ allowed Q)
    each = settling.order-each (network N Q) (ways N Q) (laws N Q ok) (allowed Q) (allowed-low N Q ok) (order-dist N Q ok O)

    whole : Whole (network N Q) (ways N Q) (allowed Q) l
    whole = settling.order-whole (network N Q) (ways N Q) (laws N Q ok) (allowed Q) (allowed-low N Q ok) (order-dist N Q ok O)

    pub covered-inside : Covered (part_list N Q l) i x → Inside N Q i x (allowed Q)
    covered-inside c =
        place_inside i x (allowed Q) il x0
        (covers-from (network N Q) (ways N Q) (allowed Q) l (λ v d j. (each (settled v d) j).0) (road N Q i) x
        (c.start, c.end, (listed-piece N Q l (the_part i c.start c.end) c.listed).1, c.low, c.high))

    pub inside-covered : Inside N Q i x (allowed Q) → Covered (part_list N Q l) i x
    inside-covered j =
        let c =
        from-covers (network N Q) (ways N Q) (laws N Q ok) (allowed Q) (allowed-some ok.query) (allowed-low N Q ok) l whole (road N Q i) (sound i il) x x0 xl
        (inside-place i x (allowed Q) il xl j) in
        record { start = c.0; end = c.1; listed = piece-listed N Q l i il (few i il) c.2; low = c.3; high = c.4 }
