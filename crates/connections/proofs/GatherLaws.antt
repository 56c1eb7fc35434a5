-- Hops are written behind what is still to be read.
use mathlib.Core.Path.{◌≡◌, refl, sym, ap, ap₂, ◌∙◌}
use mathlib.Core.Logic.{◌⊎◌, inl, inr, ⊎_elim}
use mathlib.Core.Bool.{Bool, true, false, not, cond, ◌&&◌}
use mathlib.Core.List.{List, [], ◌∷◌, ◌++◌, append-nil, append_assoc}
use Prim.Native.Nat.{ℕ, zero, suc, ◌+◌, ◌-◌, ◌*◌, ◌/◌, ◌%◌, ◌<◌, ◌≤◌, ◌^◌}
use native.Mathlib.Omega.{arith}
use native.Mathlib.Numerals.{add-one}
use native.Mathlib.Decide.{dec_lt}
use lib.Dec.{eqb, ltb}
use lib.ListN.{length, set, drop, length-append, length-drop}
use lib.Seq.{set-append_seam, drop-cons, get_or-append-add, get_or-drop}
use borrow.Author.Tests.{eqb-true, eqb-false, ltb-true, eq-eqb, ne_eqb, lt-ltb, le-ltb}
use Rattle.journeys.specs.Counting.{joined}
use Rattle.journeys.proofs.Tests.{never, split, cond-true, cond-false, and_both, and_left, and_right}
use Rattle.table_bytes.specs.Columns.{at}
use Rattle.feed.specs.Stops.{Stop}
use Rattle.feed.specs.Trips.{stop}
use Rattle.succession.specs.Entries.{stop_in, stops_in, last_from, last_timed}
use Rattle.succession.proofs.OrderLaws.{stop-at}
use Rattle.succession.proofs.TimeLaws.{from-cases, last_step}
use Rattle.connections.specs.Gathered.{hop_entry, ends, hop_at, hop_entries, gathered_in}

module _ (S : List Stop) where
  pub hop-one : (i : ℕ) → ends S (last_timed S i) i ≡ true → hop_at S i ≡ hop_entry S (last_timed S i - 1) i ∷ []
  unfolding hop_at
  hop-one i e = cond-true _ _ e

  pub hop-none : (i : ℕ) → ends S (last_timed S i) i ≡ false → hop_at S i ≡ []
  unfolding hop_at
  hop-none i e = cond-false _ _ e

  hop-length : (i : ℕ) → length (hop_at S i) ≤ 1
  hop-length i = ⊎_elim (λ (q : ends S (last_timed S i) i ≡ true). rw (hop-one i q) (omega arith)) (λ (q : ends S (last_timed S i) i ≡ false). rw (hop-none i q) (omega arith)) (split (ends S (last_timed S i) i))

  hop-untimed : (i : ℕ) → (stop S i).timed ≡ false → length (hop_at S i) ≡ 0
  unfolding ends
  hop-untimed i q = ap length (hop-none i (and_right (ltb 0 (last_timed S i)) (and_left _ q)))

  hop-first : length (hop_at S 0) ≡ 0
  unfolding hop_at ends last_timed
  hop-first = refl

  pub more : (i : ℕ) → length (hop_entries S (suc i)) ≡ length (hop_entries S i) + length (hop_at S i)
  unfolding hop_entries joined
  more i = length-append (joined (hop_at S) i) (hop_at S i)

  -- no hop ends at the first stop
  pub few : (i : ℕ) → length (hop_entries S i) ≤ i - 1
  unfolding hop_entries joined
  few zero = omega arith
  few (suc zero) = omega (arith, more 0, hop-first)
  few (suc (suc i)) = omega (arith, more (suc i), few (suc i), hop-length (suc i))

  -- nor more than stand before the last timed stop
  pub fewer : (i : ℕ) → 0 < last_timed S i → length (hop_entries S i) ≤ last_timed S i - 1
  unfolding last_timed
  fewer zero h = absurd (omega arith)
  fewer (suc i) h = go (λ p. fewer i p) h (from-cases S (suc i) (last_timed S i) (omega arith))
    where
      go : {x : ℕ} → (0 < last_timed S i → length (hop_entries S i) ≤ last_timed S i - 1) → 0 < x
          → (x ≡ 0) ⊎ ((x ≡ suc i) ⊎ ((x ≡ last_timed S i) × ((stop S (suc i - 1)).timed ≡ false))) → length (hop_entries S (suc i)) ≤ x - 1
      go f l (inl e) = absurd (omega arith)
      go f l (inr (inl e)) = omega (arith, few (suc i), e)
      go f l (inr (inr e)) =
          let z : suc i - 1 ≡ i = omega arith in
          let q = hop-untimed i (rw z at e.1) in
          omega (arith, more i, q, e.0, f (omega (arith, e.0)))

-- the slice while hops are gathered
module _ (W : List ℕ) where
  abbrev hops : ℕ → List ℕ
  hops i = hop_entries (stops_in W) i

  pub gathered-start : W ≡ gathered_in W 0
  unfolding gathered_in hop_entries joined
  gathered-start = refl

  -- what is not yet written over is as it was
  pub gathered-at : (i j : ℕ) → length (hops i) ≤ j → stop (stops_in (gathered_in W i)) j ≡ stop (stops_in W) j
  unfolding gathered_in
  gathered-at i j h =
      let d = j - length (hops i) in
      let e : length (hops i) + d ≡ j = omega arith in
      stop-at (gathered_in W i) j
      ∙ ap stop_in (ap (at (gathered_in W i)) (sym e) ∙ get_or-append-add (hops i) (drop (length (hops i)) W) d 0 ∙ get_or-drop (length (hops i)) W d 0 ∙ ap (at W) e)
      ∙ sym (stop-at W j)

  pub gathered_none : (i : ℕ) → hop_at (stops_in W) i ≡ [] → gathered_in W (suc i) ≡ gathered_in W i
  unfolding gathered_in hop_entries joined
  gathered_none i e = ap (λ (l : List ℕ). l ++ drop (length l) W) (ap (λ (l : List ℕ). hops i ++ l) e ∙ append-nil (hops i))

  pub gathered-one : (i x : ℕ) → length (hops i) < length W → hop_at (stops_in W) i ≡ x ∷ [] → set (gathered_in W i) (length (hops i)) x ≡ gathered_in W (suc i)
  unfolding gathered_in hop_entries joined
  gathered-one i x h e =
      let l = hops i in
      let k = length l in
      let more-one : length (l ++ (x ∷ [])) ≡ suc k = length-append l (x ∷ []) ∙ omega arith in
      ap (λ (r : List ℕ). set (l ++ r) k x) (drop-cons W k 0 h) ∙ set-append_seam l (at W k) (drop (suc k) W) x
      ∙ sym (ap (λ (r : List ℕ). r ++ drop (length r) W) (ap (λ (r : List ℕ). l ++ r) e)
      ∙ ap (λ (m : ℕ). (l ++ (x ∷ [])) ++ drop m W) more-one ∙ append_assoc l (x ∷ []) (drop (suc k) W))

-- which stops a hop joins
module _ (S : List Stop) (last i : ℕ) where
  pub ends-none : last ≡ 0 → ends S last i ≡ false
  unfolding ends
  ends-none e = and_left _ (le-ltb 0 last (omega arith))

  pub ends_some : 0 < last → ends S last i ≡ (stop S i).timed && not (eqb (stop S (last - 1)).vertex (stop S i).vertex)
  unfolding ends
  ends_some h = rw (lt-ltb 0 last h)

  pub ends_above : ends S last i ≡ true → 0 < last
  unfolding ends
  ends_above e = ltb-true 0 last (and_both _ _ e).0

-- the fields of a record are small
pub vertex-small : (l : List ℕ) (i : ℕ) {x : ℕ} → x ≡ (stop (stops_in l) i).vertex → x < 2 ^ 24
vertex-small l i {x} e = rw (e ∙ ap (λ (s : Stop). s.vertex) (stop-at l i)) (small (at l i))
  where
    small : (y : ℕ) → y % 2 ^ 64 / 2 ^ 40 < 2 ^ 24
    small y = omega arith

pub departure-small : (l : List ℕ) (i : ℕ) {x : ℕ} → x ≡ (stop (stops_in l) i).departure → x < 2 ^ 18
departure-small l i {x} e = rw (e ∙ ap (λ (s : Stop). s.departure) (stop-at l i)) (small (at l i % 2 ^ 64))
  where
    small : (y : ℕ) → y % 2 ^ 18 < 2 ^ 18
    small y = omega arith

pub arrival-small : (l : List ℕ) (i : ℕ) {x : ℕ} → x ≡ (stop (stops_in l) i).arrival → x < 2 ^ 18
arrival-small l i {x} e = rw (e ∙ ap (λ (s : Stop). s.arrival) (stop-at l i)) (small (at l i % 2 ^ 64 / 2 ^ 18))
  where
    small : (y : ℕ) → y % 2 ^ 18 < 2 ^ 18
    small y = omega arith

pub two-words : (x y : ℕ) → x < 2 ^ 32 → y < 2 ^ 32 → x * 2 ^ 32 + y < 2 ^ 64
two-words x y h l = omega arith

pub hop-value : (S : List Stop) (p i : ℕ) {from left reached place trip to : ℕ}
    → from ≡ (stop S p).vertex → left ≡ (stop S p).departure → reached ≡ (stop S i).arrival → place ≡ (stop S p).line → trip ≡ (stop S p).trip → to ≡ (stop S i).vertex
    → (from * 2 ^ 36 + left * 2 ^ 18 + reached) + 2 ^ 64 * ((place * 2 ^ 32 + trip) + 2 ^ 64 * to) ≡ hop_entry S p i
unfolding hop_entry
hop-value S p i a b c d e f = rw (a, b, c, d, e, f)

-- after some turns: W as it was, Y as it is
pub record Gathering (W Y : List ℕ) (k last i : ℕ) : Type 0 where
  pub count : k ≡ length (hop_entries (stops_in W) i)
  pub front : Y ≡ gathered_in W i
  pub latest : last ≡ last_timed (stops_in W) (i - 1)

pub gathering-start : (W : List ℕ) → Gathering W W 0 0 0
unfolding hop_entries joined last_timed
gathering-start W = record { count = refl; front = gathered-start W; latest = refl }

module _ {W Y : List ℕ} {k last i : ℕ} (g : Gathering W Y k last i) where
  kept : (j : ℕ) → k ≤ j → stop (stops_in Y) j ≡ stop (stops_in W) j
  kept j h = ap (λ (l : List ℕ). stop (stops_in l) j) g.front ∙ gathered-at W i j (omega (arith, g.count))

  pub gathering-few : k ≤ i - 1
  gathering-few = omega (arith, g.count, few (stops_in W) i)

  pub gathering-last : {r : ℕ} → r ≡ last_from (stops_in Y) i last → r ≡ last_timed (stops_in W) i
  gathering-last e =
      e ∙ ap₂ (λ (x y : Stop). cond (eqb i 0) 0 (cond (eqb x.trip y.trip) (cond x.timed i last) 0)) (kept (i - 1) gathering-few) (kept i (omega (arith, gathering-few)))
      ∙ ap (last_from (stops_in W) i) g.latest ∙ last_step (stops_in W) i

  module _ {r : ℕ} (l : r ≡ last_timed (stops_in W) i) where
    room : 0 < r → k ≤ r - 1
    room h = omega (arith, g.count, l, fewer (stops_in W) i (rw l at h))

    pub gathering-ends : {b : Bool} → b ≡ ends (stops_in Y) r i → b ≡ ends (stops_in W) (last_timed (stops_in W) i) i
    gathering-ends {b} e = e ∙ go (dec_lt 0 r) ∙ ap (λ (m : ℕ). ends (stops_in W) m i) l
      where
        go : Dec (0 < r) → ends (stops_in Y) r i ≡ ends (stops_in W) r i
        go (yes h) =
            ends_some (stops_in Y) r i h
            ∙ ap₂ (λ (x y : Stop). y.timed && not (eqb x.vertex y.vertex)) (kept (r - 1) (room h)) (kept i (omega (arith, gathering-few)))
            ∙ sym (ends_some (stops_in W) r i h)
        go (no h) = ends-none (stops_in Y) r i (omega arith) ∙ sym (ends-none (stops_in W) r i (omega arith))

    pub gathering-none : ends (stops_in W) (last_timed (stops_in W) i) i ≡ false → Gathering W Y k r (i + 1)
    gathering-none e =
        let z = hop-none (stops_in W) i e in
        let s : i + 1 ≡ suc i = add-one i in
        let t : i + 1 - 1 ≡ i = omega arith in
        record {
          count = rw s (g.count ∙ sym (more (stops_in W) i ∙ ap (λ (h : List ℕ). length (hop_entries (stops_in W) i) + length h) z ∙ omega arith));
          front = rw s (g.front ∙ sym (gathered_none W i z));
          latest = l ∙ ap (last_timed (stops_in W)) (sym t);
        }

    pub gathering-one : {U : List ℕ} → i < length W → ends (stops_in W) (last_timed (stops_in W) i) i ≡ true → U ≡ set Y k (hop_entry (stops_in Y) (r - 1) i) → Gathering W U (k + 1) r (i + 1)
    unfolding hop_entry
    gathering-one {U} f e u =
        let z = hop-one (stops_in W) i e in
        let h : 0 < r = rw (← l) at (ends_above (stops_in W) (last_timed (stops_in W) i) i e) in
        let s : i + 1 ≡ suc i = add-one i in
        let t : i + 1 - 1 ≡ i = omega arith in
        let fits : length (hop_entries (stops_in W) i) < length W = omega (arith, few (stops_in W) i) in
        record {
          count = rw s (ap (λ (m : ℕ). m + 1) g.count ∙ sym (more (stops_in W) i ∙ ap (λ (h : List ℕ). length (hop_entries (stops_in W) i) + length h) z));
          front = rw s (u ∙ ap (set Y k) (entry h ∙ ap (λ (m : ℕ). hop_entry (stops_in W) (m - 1) i) l) ∙ ap₂ (λ (y : List ℕ) (m : ℕ). set y m (hop_entry (stops_in W) (last_timed (stops_in W) i - 1) i)) g.front g.count ∙ gathered-one W i _ fits z);
          latest = l ∙ ap (last_timed (stops_in W)) (sym t);
        }
      where
        entry : 0 < r → hop_entry (stops_in Y) (r - 1) i ≡ hop_entry (stops_in W) (r - 1) i
        entry h = ap₂ (λ (x y : Stop). (x.vertex * 2 ^ 36 + x.departure * 2 ^ 18 + y.arrival) + 2 ^ 64 * ((x.line * 2 ^ 32 + x.trip) + 2 ^ 64 * y.vertex)) (kept (r - 1) (room h)) (kept i (omega (arith, gathering-few)))

  pub gathering-end : {n : ℕ} → i ≡ n → (k ≡ length (hop_entries (stops_in W) n)) × (Y ≡ gathered_in W n)
  gathering-end {n} e = (g.count ∙ ap (λ (m : ℕ). length (hop_entries (stops_in W) m)) e, g.front ∙ ap (gathered_in W) e)
