-- The list of the courier's parts holds exactly the parts of his roads, so a finished run covers exactly the places that he reaches in time.
-- A record is a road of `Cover` turned round: its end is "from", its places are counted from "to", and no wait stands on it. Assumes nothing.
use mathlib.Core.Path.{◌≡◌, refl, sym, ap, ap₂, subst, ◌∙◌}
use mathlib.Core.Logic.{◌⊎◌, inl, inr, ⊎_elim, ◌↔◌, ◌≢◌}
use mathlib.Core.Bool.{true, false, ◌||◌}
use mathlib.Core.List.{List}
use Prim.Native.Nat.{ℕ, ◌+◌, ◌-◌, ◌≤◌, ◌<◌, min, max}
use native.Mathlib.Omega.{arith}
use lib.Dec.{eqb}
use lib.ListN.{length}
use borrow.Author.Tests.{eqb-true, eq-eqb}
use Rattle.journeys.specs.Counting.{none, In}
use Rattle.journeys.specs.Tables.{Tables, walk, walk_count}
use Rattle.journeys.specs.Query.{Query, asked, allowed}
use Rattle.journeys.specs.CourierJourneys.{CourierDistance, InsideReached, onward, straight, straight_twin}
use Rattle.journeys.specs.Order.{Settled, settled}
use Rattle.journeys.specs.CourierRecords.{network}
use Rattle.journeys.specs.CourierOrder.{IsCourierOrder}
use Rattle.journeys.specs.Parts.{Part, near, Covered}
use Rattle.journeys.specs.CourierParts.{reach, first_part, first_parts, part_at, parts_at, part_list}
use Rattle.journeys.specs.Valid.{Valid}
use Rattle.journeys.proofs.Tests.{split, or_cases, or_left, or_right, cond-true, cond-false, le-or-lt}
use Rattle.journeys.proofs.Ways.{Dist}
use Rattle.journeys.proofs.Greedy.{Whole}
use Rattle.journeys.proofs.Settling as settling
use Rattle.journeys.proofs.Told.{told-order}
use Rattle.journeys.proofs.Cover.{Road, Sound, FromPlace, Piece, first, later, covers-from, from-covers}
use Rattle.journeys.proofs.Valid.{paired, allowed-some}
use Rattle.journeys.proofs.Listing.{the_part, part_in, in-part, two_cases, two_in, on-query, list_cases, list-in}
use Rattle.journeys.proofs.Coverage.{near-asked, near-twin, few, sound}
use Rattle.journeys.proofs.Fits.{Distinct, part-most, list-most}
use Rattle.journeys.proofs.CourierDocument.{ways, laws, told, reached-arrives, arrives-reached}

-- The end of a later part with x ticks left, and where it starts on the road turned round.
shorter : (len x cut : ℕ) → max (len - x) (len - cut) ≡ len - min x cut
shorter len x cut = omega arith

least-three : (len x cut : ℕ) → cut ≤ len → min x cut ≡ min (min len x) cut
least-three len x cut h = omega arith

turned-back : (len x cut : ℕ) → cut ≤ len → max (len - (x - 0)) (len - cut) ≡ len - min (min len x) cut
turned-back len x cut h =
    ap (λ (k : ℕ). max (len - k) (len - cut)) (let e : x - 0 ≡ x = omega arith in e) ∙ shorter len x cut ∙ ap (λ (k : ℕ). len - k) (least-three len x cut h)

cut_low : (len x cut : ℕ) → min (min len x) cut ≤ len
cut_low len x cut = omega arith

less-less : (n k : ℕ) → k ≤ n → n - (n - k) ≡ k
less-less n k l = omega arith

less-self : (n : ℕ) → 0 ≡ n - n
less-self n = omega arith

less_zero : (n k : ℕ) → k ≤ n → (n - k ≡ n) ↔ (0 ≡ k)
less_zero n k l = (λ e. omega arith, λ e. omega arith)

turned-end : (len x cut : ℕ) → cut ≤ len → len - max (len - (x - 0)) (len - cut) ≡ min (min len x) cut
turned-end len x cut h = ap (λ (k : ℕ). len - k) (turned-back len x cut h) ∙ less-less len (min (min len x) cut) (cut_low len x cut)

-- It has a length exactly if it has one there.
some-there : (len x cut : ℕ) → cut ≤ len → 0 ≢ min (min len x) cut → max (len - (x - 0)) (len - cut) ≢ len
some-there len x cut h n e = n ((less_zero len (min (min len x) cut) (cut_low len x cut)).0 (sym (turned-back len x cut h) ∙ e))

some-here : (len x cut : ℕ) → cut ≤ len → max (len - (x - 0)) (len - cut) ≢ len → 0 ≢ min (min len x) cut
some-here len x cut h n e = n (turned-back len x cut h ∙ (less_zero len (min (min len x) cut) (cut_low len x cut)).1 e)

module _ (N : Tables) (Q : Query) where
  -- a walk record as a road that leads back to "from"; the query place on it, or "to" where it lies elsewhere
  abbrev pub road : ℕ → Road
  road i = record { end = (walk N i).from; len = (walk N i).len; lag = 0; near = (walk N i).len - reach N Q i; more = 0 }

  -- a part of it from a to z, counted from "from"
  abbrev Turned : List Settled → ℕ → ℕ → ℕ → Type 0
  Turned S i a z = Piece (network N Q) (ways N Q) (allowed Q) S (road i) ((walk N i).len - z) ((walk N i).len - a)

  -- where the two kinds of parts end
  abbrev pub first_end : ℕ → ℕ
  first_end i = min (walk N i).len (near N Q i + allowed Q)

  abbrev pub later_end : ℕ → ℕ → ℕ
  later_end d i = min (min (walk N i).len (allowed Q - d)) (reach N Q i)

  -- ---- e and its twin
  abbrev OnQuery : ℕ → Type 0
  OnQuery i = (i ≡ Q.walk) ⊎ (i ≡ (asked N Q).twin)

  -- Only they are cut at the query place.
  pub reach_near : (i : ℕ) → OnQuery i → reach N Q i ≡ near N Q i
  unfolding reach
  reach_near i w = cond-true (near N Q i) (walk N i).len (go w)
    where
      go : OnQuery i → (eqb i Q.walk || eqb i (asked N Q).twin) ≡ true
      go (inl e) = or_left (eqb i (asked N Q).twin) (eq-eqb i Q.walk e)
      go (inr e) = or_right (eqb i Q.walk) (eq-eqb i (asked N Q).twin e)

  pub reach-where : (i : ℕ) → reach N Q i ≢ (walk N i).len → OnQuery i
  unfolding reach
  reach-where i h =
      ⊎_elim
      (λ (t : (eqb i Q.walk || eqb i (asked N Q).twin) ≡ true).
      ⊎_elim (λ e. inl (eqb-true i Q.walk e)) (λ e. inr (eqb-true i (asked N Q).twin e)) (or_cases (eqb i Q.walk) (eqb i (asked N Q).twin) t))
      (λ (t : (eqb i Q.walk || eqb i (asked N Q).twin) ≡ false). absurd (h (cond-false (near N Q i) (walk N i).len t)))
      (split _)

  turn : (S : List Settled) (i : ℕ) {a z b y : ℕ} → a ≡ b → z ≡ y → Piece (network N Q) (ways N Q) (allowed Q) S (road i) a z
      → Piece (network N Q) (ways N Q) (allowed Q) S (road i) b y
  turn S i {a = a} {y = y} p q x =
      subst (λ (c : ℕ). Piece (network N Q) (ways N Q) (allowed Q) S (road i) c y) p (subst (λ (c : ℕ). Piece (network N Q) (ways N Q) (allowed Q) S (road i) a c) q x)

module _ (N : Tables) (Q : Query) (ok : Valid N Q) where
  pub reach-low : (i : ℕ) → i < walk_count N → reach N Q i ≤ (walk N i).len
  reach-low i l =
      ⊎_elim (λ (h : reach N Q i ≤ (walk N i).len). h)
      (λ (h : (walk N i).len < reach N Q i).
      let w = reach-where N Q i (let n : reach N Q i ≢ (walk N i).len = omega arith in n) in
      omega (arith, reach_near N Q i w, (sound N Q ok i l).on))
      (le-or-lt (reach N Q i) (walk N i).len)

  turned-sound : (i : ℕ) → Sound (road N Q i)
  turned-sound i = record { on = omega arith; waits = omega arith; there = λ h. absurd (omega arith) }

  -- the query place on e, and on its twin
  place-walk : (i : ℕ) → i ≡ Q.walk → reach N Q i ≡ Q.offset
  place-walk i e = reach_near N Q i (inl e) ∙ ap (near N Q) e ∙ near-asked N Q ok

  place-twin : (i : ℕ) → i < walk_count N → i ≡ (asked N Q).twin → reach N Q i ≡ (asked N Q).len - Q.offset
  place-twin i l e = reach_near N Q i (inr e) ∙ ap (near N Q) e ∙ near-twin N Q ok (λ z. few N Q ok i l (e ∙ z))

  -- ---- what is listed is a part of its record
  -- where a part lies: on a record of the table, from a to z on it
  pub record Listed (S : List Settled) (p : Part) : Type 0 where
    pub low : p.walk < walk_count N
    pub order : p.start ≤ p.end
    pub on : p.end ≤ (walk N p.walk).len
    pub piece : Turned N Q S p.walk p.start p.end

  first-listed : (S : List Settled) (i : ℕ) → i < walk_count N → OnQuery N Q i → (p : Part) → In p (first_part N Q i) → Listed S p
  unfolding first_part
  first-listed S i l w p j =
      let e = part_in i (near N Q i) (first_end N Q i) p j in
      let r = reach_near N Q i w in
      let h = (sound N Q ok i l).on in
      subst (Listed S) (sym e.0)
      (record {
        low = l;
        order = omega arith;
        on = omega arith;
        piece = turn N Q S i (omega arith) (omega arith) (first (λ (q : ((walk N i).len - reach N Q i) - (allowed Q - 0) ≡ (walk N i).len - reach N Q i). e.1 (omega (arith, allowed-some ok.query))));
      })

  at_listed : (S : List Settled) (i d : ℕ) → i < walk_count N → In (settled (walk N i).from d) S → (p : Part) → In p (part_at N Q d i) → Listed S p
  unfolding part_at
  at_listed S i d l m p j =
      let e = part_in i 0 (later_end N Q d i) p j in
      let h = reach-low i l in
      subst (Listed S) (sym e.0)
      (record {
        low = l;
        order = omega arith;
        on = omega arith;
        piece = turn N Q S i (turned-back (walk N i).len (allowed Q - d) (reach N Q i) h) (omega arith) (later d m (some-there (walk N i).len (allowed Q - d) (reach N Q i) h e.1));
      })

  -- Every part: a record of the table, and offsets on it.
  pub listed-piece : (S : List Settled) (p : Part) → In p (part_list N Q S) → Listed S p
  unfolding part_list parts_at first_parts
  listed-piece S p j = go (list_cases (walk_count N) (λ i. (walk N i).from) (part_at N Q) (first_parts N Q) S p j)
    where
      firsts : In p (first_part N Q Q.walk) ⊎ (((asked N Q).twin ≢ none) × In p (first_part N Q (asked N Q).twin)) → Listed S p
      firsts (inl k) = first-listed S Q.walk ok.query.walk_low (inl refl) p k
      firsts (inr k) = first-listed S (asked N Q).twin (paired N ok.tables Q.walk ok.query.walk_low k.0).0 (inr refl) p k.1

      go : In p (first_parts N Q) ⊎ ((i : ℕ) × (d : ℕ) × (i < walk_count N) × In (settled (walk N i).from d) S × In p (part_at N Q d i)) → Listed S p
      go (inl k) = firsts (two_cases (first_part N Q) Q.walk (asked N Q).twin p k)
      go (inr (i, d, l, m, k)) = at_listed S i d l m p k

  -- ---- and each part is listed
  piece-listed : (S : List Settled) (i : ℕ) → i < walk_count N → {a z : ℕ} → Piece (network N Q) (ways N Q) (allowed Q) S (road N Q i) a z
      → In (the_part i ((walk N i).len - z) ((walk N i).len - a)) (part_list N Q S)
  unfolding part_list parts_at part_at first_parts first_part
  piece-listed S i l (first q) =
      subst (λ (p : Part). In p (part_list N Q S)) (ap₂ (the_part i) (omega (arith, r, h)) (omega (arith, r, h)))
      (list-in (walk_count N) (λ i. (walk N i).from) (part_at N Q) (first_parts N Q) S p
      (inl (two_in (first_part N Q) Q.walk (asked N Q).twin p (on-query (first_part N Q) i (few N Q ok i l) p (in-part i (near N Q i) (first_end N Q i) (omega (arith, r, h, allowed-some ok.query))) w))))
    where
      p : Part
      p = the_part i (near N Q i) (first_end N Q i)

      w : OnQuery N Q i
      w = reach-where N Q i (λ e. q (omega arith))

      r : reach N Q i ≡ near N Q i
      r = reach_near N Q i w

      h : near N Q i ≤ (walk N i).len
      h = (sound N Q ok i l).on
  piece-listed S i l (later d j q) =
      subst (λ (p : Part). In p (part_list N Q S)) (ap₂ (the_part i) (less-self (walk N i).len) (sym (turned-end (walk N i).len (allowed Q - d) (reach N Q i) (reach-low i l))))
      (list-in (walk_count N) (λ i. (walk N i).from) (part_at N Q) (first_parts N Q) S (the_part i 0 (later_end N Q d i))
      (inr (i, d, l, j, in-part i 0 (later_end N Q d i) (some-here (walk N i).len (allowed Q - d) (reach N Q i) (reach-low i l) q))))

  -- ---- a place inside a record that the courier reaches is one of its road
  inside-place : (i x b : ℕ) → i < walk_count N → x < (walk N i).len → InsideReached N Q i x b → FromPlace (network N Q) (ways N Q) (road N Q i) ((walk N i).len - x) b
  inside-place i x b l xl (onward {d = d} j) = FromPlace.onward d (reached-arrives N Q ok j) (omega arith)
  inside-place i x b l xl (straight e h) = let q = place-walk i e in FromPlace.straight (omega arith) (omega arith)
  inside-place i x b l xl (straight_twin e h) = let q = place-twin i l e in FromPlace.straight (omega arith) (omega arith)
  inside-place i x b l xl (InsideReached.wait {d = d} h j) = up (inside-place i x d l xl j)
    where
      up : FromPlace (network N Q) (ways N Q) (road N Q i) ((walk N i).len - x) d → FromPlace (network N Q) (ways N Q) (road N Q i) ((walk N i).len - x) b
      up (FromPlace.straight a c) = FromPlace.straight a (omega arith)
      up (FromPlace.onward d' a c) = FromPlace.onward d' a (omega arith)

  place_inside : (i x b : ℕ) → i < walk_count N → x < (walk N i).len → FromPlace (network N Q) (ways N Q) (road N Q i) ((walk N i).len - x) b → InsideReached N Q i x b
  place_inside i x b l xl (FromPlace.straight h k) = go (reach-where N Q i (omega (arith, reach-low i l)))
    where
      go : OnQuery N Q i → InsideReached N Q i x b
      go (inl e) = let q = place-walk i e in InsideReached.wait (let z : x - Q.offset ≤ b = omega arith in z) (straight e (omega arith))
      go (inr e) = let q = place-twin i l e in InsideReached.wait (let z : x - ((asked N Q).len - Q.offset) ≤ b = omega arith in z) (straight_twin e (omega arith))
  place_inside i x b l xl (FromPlace.onward d j h) = let q : d + x ≤ b = omega arith in InsideReached.wait q (onward (arrives-reached N Q ok j))

  -- A whole-decimetre place inside a record lies in a listed part exactly if the courier reaches it within D.
  module _ {l : List Settled} (O : IsCourierOrder N Q l) (i x : ℕ) (il : i < walk_count N) (x0 : 0 < x) (xl : x < (walk N i).len) where
    each : (y : Settled) → In y l → Dist (network N Q) (ways N Q) y.vertex y.distance × (y.distance ≤ allowed Q)
    each = settling.order-each (network N Q) (ways N Q) (laws N Q ok) (allowed Q) (told N Q ok).few (told-order (network N Q) (ways N Q) (CourierDistance N Q) (told N Q ok) O)

    whole : Whole (network N Q) (ways N Q) (allowed Q) l
    whole = settling.order-whole (network N Q) (ways N Q) (laws N Q ok) (allowed Q) (told N Q ok).few (told-order (network N Q) (ways N Q) (CourierDistance N Q) (told N Q ok) O)

    pub covered-inside : Covered (part_list N Q l) i x → InsideReached N Q i x (allowed Q)
    covered-inside c =
        let p = listed-piece l (the_part i c.start c.end) c.listed in
        let low = c.low in
        let high = c.high in
        place_inside i x (allowed Q) il xl
        (covers-from (network N Q) (ways N Q) (allowed Q) l (λ v d j. (each (settled v d) j).0) (road N Q i) ((walk N i).len - x)
        ((walk N i).len - c.end, (walk N i).len - c.start, p.piece, omega arith, omega arith))

    pub inside-covered : InsideReached N Q i x (allowed Q) → Covered (part_list N Q l) i x
    inside-covered j =
        let c =
        from-covers (network N Q) (ways N Q) (laws N Q ok) (allowed Q) (allowed-some ok.query) (told N Q ok).few l whole (road N Q i) (turned-sound i) ((walk N i).len - x)
        (omega arith) (omega arith) (inside-place i x (allowed Q) il xl j) in
        let a = c.0 in
        let z = c.1 in
        let low : a ≤ (walk N i).len - x = c.3 in
        let high : (walk N i).len - x ≤ z = c.4 in
        record { start = (walk N i).len - z; end = (walk N i).len - a; listed = piece-listed l i il c.2; low = omega arith; high = omega arith }

-- No more parts are written than there are walks, and two for the query's road.
pub parts-most : (N : Tables) (Q : Query) (S : List Settled) → Distinct S → length (part_list N Q S) ≤ walk_count N + 2
unfolding part_list parts_at part_at first_parts first_part
parts-most N Q S h =
    list-most (walk_count N) (λ i. (walk N i).from) (part_at N Q) (first_part N Q) Q.walk (asked N Q).twin
    (λ d i. part-most i 0 (later_end N Q d i)) (λ i. part-most i (near N Q i) (first_end N Q i)) S h
