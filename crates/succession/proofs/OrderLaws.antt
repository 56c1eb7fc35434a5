-- Records in ascending order are stops by trip and sequence; of equal ones each but the first follows an equal one.
use mathlib.Core.Path.{◌≡◌, refl, sym, ap, ap₂, ◌∙◌}
use mathlib.Core.Logic.{⊎_elim, ◌⊎◌, inl, inr}
use mathlib.Core.Bool.{Bool, true, false, not, ◌&&◌}
use mathlib.Core.List.{List}
use Prim.Native.Nat.{ℕ, zero, suc, ◌+◌, ◌-◌, ◌/◌, ◌%◌, ◌<◌, ◌≤◌, ◌^◌}
use native.Mathlib.Omega.{arith}
use native.Mathlib.Decide.{dec_lt, ℕ_discrete}
use lib.Dec.{eqb, ltb}
use lib.ListN.{length, length-map, get_or-map}
use borrow.Author.Tests.{eq-eqb, eqb-true, eqb-false, ne_eqb, lt-ltb, ltb-true}
use Rattle.journeys.proofs.Tests.{never, and_both, and-true, or_right, same_test, last-or-below}
use Rattle.table_bytes.specs.Columns.{at}
use Rattle.table_bytes.proofs.Access.{col-length}
use Rattle.sorting.specs.Sorted.{recs, Ascending}
use Rattle.feed.specs.Stops.{Stop}
use Rattle.feed.specs.Trips.{stop, some, earlier, repeats, once}
use Rattle.succession.specs.Entries.{stop_in, stops_in, AllOnce}
use Rattle.succession.proofs.SomeLaws.{some_at, some_is, some-none, not-not}

pub stop-at : (l : List ℕ) (i : ℕ) → stop (stops_in l) i ≡ stop_in (at l i)
stop-at l i = get_or-map stop_in l i 0

pub stops-length : (l : List ℕ) → length (stops_in l) ≡ length l
stops-length l = length-map l stop_in

pub size : (n : ℕ) (b : List ℕ) → length (stops_in (recs n b)) ≡ n
size n b = stops-length (recs n b) ∙ col-length 20 n b 0

pub trip-is : (l : List ℕ) (i : ℕ) {x : ℕ} → x ≡ at l i / 2 ^ 64 / 2 ^ 64 → x ≡ (stop (stops_in l) i).trip
trip-is l i e = e ∙ sym (ap (λ (s : Stop). s.trip) (stop-at l i))

pub sequence-is : (l : List ℕ) (i : ℕ) {x : ℕ} → x ≡ at l i / 2 ^ 64 % 2 ^ 64 → x / 2 ^ 32 ≡ (stop (stops_in l) i).sequence
sequence-is l i e = ap (λ (y : ℕ). y / 2 ^ 32) e ∙ sym (ap (λ (s : Stop). s.sequence) (stop-at l i))

pub one-test : {a b a' b' : ℕ} → a ≡ a' → b ≡ b' → eqb a b ≡ eqb a' b'
one-test p q = ap₂ (λ (x y : ℕ). eqb x y) p q

pub record Ordered (S : List Stop) : Type 0 where
  pub trips : (i j : ℕ) → i < j → j < length S → (stop S i).trip ≤ (stop S j).trip
  pub sequences : (i j : ℕ) → i < j → j < length S → (stop S i).trip ≡ (stop S j).trip → (stop S i).sequence ≤ (stop S j).sequence

pub divided : (x y : ℕ) → x ≤ y → x / 2 ^ 64 ≤ y / 2 ^ 64
divided x y h = omega arith

pub rests : (x y : ℕ) → x ≤ y → x / 2 ^ 64 ≡ y / 2 ^ 64 → x % 2 ^ 64 ≤ y % 2 ^ 64
rests x y h e = omega arith

halved : (x y : ℕ) → x ≤ y → x / 2 ^ 32 ≤ y / 2 ^ 32
halved x y h = omega arith

pub ordered : (l : List ℕ) → Ascending l → Ordered (stops_in l)
ordered l f = record { trips = trips; sequences = sequences }
  where
    above : (i j : ℕ) → i < j → j < length (stops_in l) → at l i / 2 ^ 64 ≤ at l j / 2 ^ 64
    above i j a b = divided (at l i) (at l j) (f i j a (rw (stops-length l) at b))

    trips : (i j : ℕ) → i < j → j < length (stops_in l) → (stop (stops_in l) i).trip ≤ (stop (stops_in l) j).trip
    trips i j a b = rw (stop-at l i, stop-at l j) (divided (at l i / 2 ^ 64) (at l j / 2 ^ 64) (above i j a b))

    sequences : (i j : ℕ) → i < j → j < length (stops_in l) → (stop (stops_in l) i).trip ≡ (stop (stops_in l) j).trip → (stop (stops_in l) i).sequence ≤ (stop (stops_in l) j).sequence
    sequences i j a b e =
        rw (stop-at l i, stop-at l j)
        (halved (at l i / 2 ^ 64 % 2 ^ 64) (at l j / 2 ^ 64 % 2 ^ 64)
        (rests (at l i / 2 ^ 64) (at l j / 2 ^ 64) (above i j a b) (rw (stop-at l i, stop-at l j) at e)))

module _ {S : List Stop} (o : Ordered S) where
  pub once-first : not (once S 0) ≡ false
  unfolding once some
  once-first = refl

  after : (k : ℕ) → suc k < length S → some (repeats S (suc k)) (suc k) ≡ repeats S (suc k) k
  unfolding some repeats
  after k h = same_test _ _ one (or_right (some (repeats S (suc k)) k))
    where
      one : some (repeats S (suc k)) (suc k) ≡ true → repeats S (suc k) k ≡ true
      one e =
          let r = some_is (repeats S (suc k)) (suc k) e in
          let both = and_both _ _ r.2 in
          let t : (stop S r.0).trip ≡ (stop S (suc k)).trip = eqb-true _ _ both.0 in
          let s : (stop S r.0).sequence ≡ (stop S (suc k)).sequence = eqb-true _ _ both.1 in
          ⊎_elim (λ (q : r.0 ≡ k). ap (λ (x : ℕ). repeats S (suc k) x) (sym q) ∙ r.2)
          (λ (q : r.0 < k).
          let t₁ = o.trips r.0 k q (omega arith) in
          let t₂ = o.trips k (suc k) (omega arith) h in
          let e₁ : (stop S r.0).trip ≡ (stop S k).trip = omega (arith, t, t₁, t₂) in
          let e₂ : (stop S k).trip ≡ (stop S (suc k)).trip = omega (arith, t, t₁, t₂) in
          let s₁ = o.sequences r.0 k q (omega arith) e₁ in
          let s₂ = o.sequences k (suc k) (omega arith) h e₂ in
          let e₃ : (stop S k).sequence ≡ (stop S (suc k)).sequence = omega (arith, s, s₁, s₂) in
          and-true (eq-eqb _ _ e₂) (eq-eqb _ _ e₃))
          (last-or-below r.1)

  -- a stop repeats a sequence exactly if the one before it has it
  pub once-later : (i : ℕ) → 0 < i → i < length S
      → not (once S i) ≡ eqb (stop S (i - 1)).trip (stop S i).trip && eqb (stop S (i - 1)).sequence (stop S i).sequence
  unfolding once repeats
  once-later zero h l = absurd (omega arith)
  once-later (suc k) h l = let e : suc k - 1 ≡ k = omega arith in rw e (not-not (some (repeats S (suc k)) (suc k)) ∙ after k l)

  module _ (u : AllOnce S) where
    -- in one trip the sequences rise
    pub rising : (i j : ℕ) → i < j → j < length S → (stop S i).trip ≡ (stop S j).trip → (stop S i).sequence < (stop S j).sequence
    unfolding once repeats
    rising i j a b e = go (ℕ_discrete (stop S i).sequence (stop S j).sequence)
      where
        go : Dec ((stop S i).sequence ≡ (stop S j).sequence) → (stop S i).sequence < (stop S j).sequence
        go (yes q) = never (some_at (repeats S j) j i a (and-true (eq-eqb _ _ e) (eq-eqb _ _ q))) (sym (not-not _) ∙ ap not (u j b))
        go (no q) = omega (arith, o.sequences i j a b e)

    pub earlier-below : (p i : ℕ) → p < length S → earlier S p i ≡ true → (p < i) × ((stop S p).trip ≡ (stop S i).trip)
    unfolding earlier
    earlier-below p i h e =
        let both = and_both _ _ e in
        let t = eqb-true _ _ both.0 in
        let s = ltb-true _ _ both.1 in
        (go t s (dec_lt p i) (ℕ_discrete p i), t)
      where
        go : (stop S p).trip ≡ (stop S i).trip → (stop S p).sequence < (stop S i).sequence → Dec (p < i) → Dec (p ≡ i) → p < i
        go t s (yes q) d = q
        go t s (no q) (yes d) = let z : (stop S p).sequence ≡ (stop S i).sequence = ap (λ (k : ℕ). (stop S k).sequence) d in absurd (omega arith)
        go t s (no q) (no d) = absurd (omega (arith, s, o.sequences i p (omega arith) h (sym t)))

    pub earlier-above : (p i : ℕ) → p < i → i < length S → (stop S p).trip ≡ (stop S i).trip → earlier S p i ≡ true
    unfolding earlier
    earlier-above p i a b e = and-true (eq-eqb _ _ e) (lt-ltb _ _ (rising p i a b e))

    -- the first stop of a trip, and the last, are told by their neighbours
    pub begins-first : not (some (λ p. earlier S p 0) (length S)) ≡ true
    begins-first = ap not (some-none (λ p. earlier S p 0) (length S) (λ p h e. absurd (omega (arith, (earlier-below p 0 h e).0))))

    pub begins-later : (i : ℕ) → 0 < i → i < length S → some (λ p. earlier S p i) (length S) ≡ eqb (stop S (i - 1)).trip (stop S i).trip
    begins-later i h l = same_test _ _
        (λ e.
        let r = some_is (λ p. earlier S p i) (length S) e in
        let q = earlier-below r.0 i r.1 r.2 in
        eq-eqb _ _ (near r.0 q.0 q.1 (ℕ_discrete r.0 (i - 1))))
        (λ e. some_at (λ p. earlier S p i) (length S) (i - 1) (omega arith) (earlier-above (i - 1) i (omega arith) l (eqb-true _ _ e)))
      where
        near : (p : ℕ) → p < i → (stop S p).trip ≡ (stop S i).trip → Dec (p ≡ i - 1) → (stop S (i - 1)).trip ≡ (stop S i).trip
        near p a t (yes q) = rw (← q) t
        near p a t (no q) = omega (arith, t, o.trips p (i - 1) (omega arith) (omega arith), o.trips (i - 1) i (omega arith) l)

    pub ends_last : (i : ℕ) → i + 1 ≡ length S → not (some (earlier S i) (length S)) ≡ true
    ends_last i h = ap not (some-none (earlier S i) (length S) (λ p l e. absurd (omega (arith, (earlier-below i p (omega arith) e).0))))

    pub ends-later : (i : ℕ) → i + 1 < length S → some (earlier S i) (length S) ≡ eqb (stop S i).trip (stop S (i + 1)).trip
    ends-later i l = same_test _ _
        (λ e.
        let r = some_is (earlier S i) (length S) e in
        let q = earlier-below i r.0 (omega arith) r.2 in
        eq-eqb _ _ (near r.0 q.0 r.1 q.1 (ℕ_discrete r.0 (i + 1))))
        (λ e. some_at (earlier S i) (length S) (i + 1) l (earlier-above i (i + 1) (omega arith) l (eqb-true _ _ e)))
      where
        near : (p : ℕ) → i < p → p < length S → (stop S i).trip ≡ (stop S p).trip → Dec (p ≡ i + 1) → (stop S i).trip ≡ (stop S (i + 1)).trip
        near p a b t (yes q) = rw (← q) t
        near p a b t (no q) = omega (arith, t, o.trips i (i + 1) (omega arith) l, o.trips (i + 1) p (omega arith) b)
