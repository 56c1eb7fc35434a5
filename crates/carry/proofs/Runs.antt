-- What is carried over all stops by their numbers. Assumes nothing.
use mathlib.Core.Path.{◌≡◌, refl, sym, ap, ap₂, subst, ◌∙◌}
use mathlib.Core.Logic.{◌⊎◌, inl, inr, ⊎_elim}
use mathlib.Core.Bool.{Bool, true, false, not, cond, ◌&&◌, ◌||◌}
use mathlib.Core.List.{List, [], ◌∷◌, ◌++◌}
use Prim.Native.Nat.{ℕ, zero, suc, ◌+◌, ◌-◌, ◌*◌, ◌<◌, ◌≤◌, min}
use native.Mathlib.Omega.{arith}
use native.Mathlib.Decide.{dec_lt}
use lib.Dec.{eqb, ltb}
use lib.ListN.{length, take}
use lib.Seq.{take-length}
use borrow.Author.Tests.{eq-eqb, ne_eqb, eqb-true, lt-ltb}
use Rattle.journeys.specs.Counting.{none, least, joined}
use Rattle.journeys.proofs.Tests.{never, split, cond-true, cond-false, last-or-below, and_left, and_right}
use Rattle.table_bytes.specs.Columns.{at}
use Rattle.sorting.specs.Sorted.{Ascending}
use Rattle.feed.specs.Stops.{Stop}
use Rattle.feed.specs.Trips.{stop, once}
use Rattle.succession.specs.Entries.{stop_in, stops_in, lowest_bad, last_timed}
use Rattle.succession.proofs.OrderLaws.{Ordered, ordered, stop-at, stops-length, once-first, once-later}
use Rattle.succession.proofs.TimeLaws.{Latest, nothing, left, latest}
use Rattle.connections.specs.Gathered as gathered
use Rattle.connections.specs.Gathered.{hop_entry, hop_at, hop_entries}
use Rattle.connections.proofs.GatherLaws.{ends-none, ends_some}
use Rattle.carry.specs.declared.Item.{Item}
use Rattle.carry.specs.declared.Carry.{Carry}
use Rattle.carry.specs.Carried as spec
use Rattle.carry.specs.Carried.{item_of, seen, nobody, start, followed, joins, hop_number, hop_after, all_followed, all_hops}
use Rattle.carry.proofs.Folds.{followed-more, hops-more, take_more}

latest-timed : (c : Carry) (x : Item) → (seen x).timed ≡ true → spec.latest c x ≡ x
unfolding spec.latest
latest-timed c x t = cond-true x c.last t

latest-untimed : (c : Carry) (x : Item) → (seen x).timed ≡ false → spec.latest c x ≡ c.last
unfolding spec.latest
latest-untimed c x t = cond-false x c.last t

module _ (W : List ℕ) where
  -- what is carried to stop i
  abbrev pub carried : ℕ → Carry
  carried i = all_followed start (take i W)

  pub carried-next : (i : ℕ) → i < length W → carried (suc i) ≡ followed (carried i) (at W i)
  carried-next i h = ap (all_followed start) (take_more W i h) ∙ followed-more start (take i W) (at W i)

  pub carried_first : carried 0 ≡ start
  unfolding all_followed
  carried_first = refl

  -- ---- the stop before
  pub prev-is : (i : ℕ) → i < length W → (carried (suc i)).prev ≡ item_of (at W i)
  prev-is i h = ap (λ (c : Carry). c.prev) (carried-next i h)

  -- ---- the last timed one
  pub data LastSeen (i : ℕ) : Item → Type 0 where
    none_yet : ((p : ℕ) → p < i → (stop_in (at W p)).timed ≡ false) → LastSeen i nobody
    seen_at : (p : ℕ) → p < i → (stop_in (at W p)).timed ≡ true → ((k : ℕ) → p < k → k < i → (stop_in (at W k)).timed ≡ false) → LastSeen i (item_of (at W p))

  pub last-seen : (i : ℕ) → i ≤ length W → LastSeen i (carried i).last
  last-seen zero h = subst (LastSeen 0) (sym (ap (λ (c : Carry). c.last) carried_first)) (none_yet (λ p l. absurd (omega (arith, l))))
  last-seen (suc i) h =
      subst (LastSeen (suc i)) (sym (ap (λ (c : Carry). c.last) (carried-next i (omega (arith, h)))))
      (⊎_elim (λ (t : (stop_in (at W i)).timed ≡ true). subst (LastSeen (suc i)) (sym (now-last (carried i) t)) (seen_at i (omega arith) t (λ k a b. absurd (omega (arith, a, b)))))
      (λ (t : (stop_in (at W i)).timed ≡ false). subst (LastSeen (suc i)) (sym (still-last (carried i) t)) (on t (last-seen i (omega (arith, h)))))
      (split (stop_in (at W i)).timed))
    where
      now-last : (c : Carry) → (stop_in (at W i)).timed ≡ true → spec.latest c (item_of (at W i)) ≡ item_of (at W i)
      now-last c t = latest-timed c (item_of (at W i)) t

      still-last : (c : Carry) → (stop_in (at W i)).timed ≡ false → spec.latest c (item_of (at W i)) ≡ c.last
      still-last c t = latest-untimed c (item_of (at W i)) t

      on : {x : Item} → (stop_in (at W i)).timed ≡ false → LastSeen i x → LastSeen (suc i) x
      on t (none_yet f) = none_yet (λ p l. ⊎_elim (λ (e : p ≡ i). rw e t) (λ (e : p < i). f p e) (last-or-below l))
      on t (seen_at p l q f) = seen_at p (omega (arith, l)) q (λ k a b. ⊎_elim (λ (e : k ≡ i). rw e t) (λ (e : k < i). f k a e) (last-or-below b))

  -- ---- of stops in order, on trips that count from 1
  module _ (a : Ascending W) (t : (i : ℕ) → i < length W → 0 < (stop_in (at W i)).trip) where
    abbrev S : List Stop
    S = stops_in W

    pub o : Ordered S
    o = ordered W a

    pub long : {i : ℕ} → i < length W → i < length S
    long h = rw (stops-length W) h

    -- the last timed stop is on another trip, or the one that is asked for
    pub data Before (i : ℕ) : Item → ℕ → Type 0 where
      other : {x : Item} → eqb x.high (stop S i).trip ≡ false → Before i x 0
      this : (p : ℕ) → (stop S p).trip ≡ (stop S i).trip → Before i (item_of (at W p)) (suc p)

    pub before : (i : ℕ) → i < length W → Before i (carried i).last (last_timed S i)
    before i h = go (last-seen i (omega (arith, h))) (latest o i (long h))
      where
        at-stop : {A : Type 0} (g : Stop → A) (p : ℕ) {x : A} → g (stop S p) ≡ x → g (stop_in (at W p)) ≡ x
        at-stop g p e = ap g (sym (stop-at W p)) ∙ e

        go : {x : Item} {d : ℕ} → LastSeen i x → Latest S i d → Before i x d
        go (none_yet f) (nothing g) = other (ne_eqb 0 (stop S i).trip (λ e. absurd (omega (arith, e, subst (λ (s : Stop). 0 < s.trip) (sym (stop-at W i)) (t i h)))))
        go (none_yet f) (left p l q u g) = never (at-stop (λ s. s.timed) p u) (f p l)
        go (seen_at p l q f) (nothing g) = other (ne_eqb _ _ (λ e. never q (at-stop (λ s. s.timed) p (g p l (ap (λ (s : Stop). s.trip) (stop-at W p) ∙ e)))))
        go (seen_at p l q f) (left r k e u g) = same (dec_lt p r) (dec_lt r p)
          where
            same : Dec (p < r) → Dec (r < p) → Before i (item_of (at W p)) (suc r)
            same (yes y) z = never (at-stop (λ s. s.timed) r u) (f r y k)
            same (no y) (yes z) = never q (at-stop (λ s. s.timed) p (g p z l))
            same (no y) (no z) = let w : p ≡ r = omega (arith, y, z) in subst (λ (m : ℕ). Before i (item_of (at W p)) (suc m)) w (this p (subst (λ (m : ℕ). (stop S m).trip ≡ (stop S i).trip) (sym w) e))

    -- ---- the hops
    entry_at : (p i : ℕ) → hop_number (stop S p) (stop S i) ≡ hop_entry S p i
    unfolding hop_entry
    entry_at p i = refl

    hop-after : (i : ℕ) → i < length W → hop_after (carried i) (at W i) ≡ hop_at S i
    unfolding hop_after joins hop_at
    hop-after i h = ap (λ (s : Stop). cond (s.timed && (eqb (carried i).last.high s.trip && not (eqb (seen (carried i).last).vertex s.vertex))) (hop_number (seen (carried i).last) s ∷ []) []) (sym (stop-at W i)) ∙ go (before i h)
      where
        go : {x : Item} {d : ℕ} → Before i x d → cond ((stop S i).timed && (eqb x.high (stop S i).trip && not (eqb (seen x).vertex (stop S i).vertex))) (hop_number (seen x) (stop S i) ∷ []) [] ≡ cond (gathered.ends S d i) (hop_entry S (d - 1) i ∷ []) []
        go {x} {d} (other e) = cond-false _ _ (and_right (stop S i).timed (and_left _ e)) ∙ sym (cond-false _ _ (ends-none S 0 i refl))
        go {x} {d} (this p e) =
            let z : suc p - 1 ≡ p = omega arith in
            let same : (stop S i).timed && (eqb (stop S p).trip (stop S i).trip && not (eqb (stop S p).vertex (stop S i).vertex)) ≡ gathered.ends S (suc p) i = rw (eq-eqb (stop S p).trip (stop S i).trip e) (sym (ends_some S (suc p) i (omega arith) ∙ ap (λ (m : ℕ). (stop S i).timed && not (eqb (stop S m).vertex (stop S i).vertex)) z)) in
            ap (λ (s : Stop). cond ((stop S i).timed && (eqb s.trip (stop S i).trip && not (eqb s.vertex (stop S i).vertex))) (hop_number s (stop S i) ∷ []) []) (sym (stop-at W p))
            ∙ ap₂ (λ (b : Bool) (y : ℕ). cond b (y ∷ []) []) same (entry_at p i ∙ ap (λ (m : ℕ). hop_entry S m i) (sym z))

    pub hops-are : (i : ℕ) → i ≤ length W → all_hops start (take i W) ≡ hop_entries S i
    unfolding all_hops hop_entries joined
    hops-are zero h = refl
    hops-are (suc i) h =
        ap (all_hops start) (take_more W i (omega (arith, h))) ∙ hops-more start (take i W) (at W i)
        ∙ ap₂ (λ (l m : List ℕ). l ++ m) (hops-are i (omega (arith, h))) (hop-after i (omega (arith, h)))

    -- ---- 15
    turned : (b g : Bool) (x : ℕ) → b ≡ not g → cond b x none ≡ cond g none x
    turned b g x e = rw e (go g)
      where
        go : (g : Bool) → cond (not g) x none ≡ cond g none x
        go true = refl
        go false = refl

    pub apart : {k : ℕ} → k < length W → eqb 0 (stop S k).trip ≡ false
    apart {k} h = ne_eqb 0 (stop S k).trip (λ e. absurd (omega (arith, e, subst (λ (s : Stop). 0 < s.trip) (sym (stop-at W k)) (t k h))))

    repeats : (i : ℕ) → i < length W → eqb (carried i).prev.high (stop S i).trip && eqb (seen (carried i).prev).sequence (stop S i).sequence ≡ not (once S i)
    repeats zero h = ap (λ (c : Carry). eqb c.prev.high (stop S 0).trip && eqb (seen c.prev).sequence (stop S 0).sequence) carried_first ∙ and_left _ (apart h) ∙ sym (once-first o)
    repeats (suc i) h =
        let z : suc i - 1 ≡ i = omega arith in
        ap (λ (x : Item). eqb x.high (stop S (suc i)).trip && eqb (seen x).sequence (stop S (suc i)).sequence) (prev-is i (omega (arith, h)))
        ∙ ap (λ (s : Stop). eqb s.trip (stop S (suc i)).trip && eqb s.sequence (stop S (suc i)).sequence) (sym (stop-at W i) ∙ ap (λ (m : ℕ). stop S m) (sym z))
        ∙ sym (once-later o (suc i) (omega arith) (long h))

    fifteen-to : (i : ℕ) → i ≤ length W → (carried i).fifteen ≡ least (λ k. cond (once S k) none (stop S k).line) i
    unfolding least spec.fifteen
    fifteen-to zero h = ap (λ (c : Carry). c.fifteen) carried_first
    fifteen-to (suc i) h =
        ap (λ (c : Carry). c.fifteen) (carried-next i (omega (arith, h)))
        ∙ ap (λ (s : Stop). min (carried i).fifteen (cond (eqb (carried i).prev.high s.trip && eqb (seen (carried i).prev).sequence s.sequence) s.line none)) (sym (stop-at W i))
        ∙ ap₂ (λ (x y : ℕ). min x y) (fifteen-to i (omega (arith, h))) (turned _ (once S i) (stop S i).line (repeats i (omega (arith, h))))

    pub whole : {A : Type 0} (f : List ℕ → A) → f (take (length W) W) ≡ f W
    whole f = ap f (take-length W)

    pub fifteen-all : (all_followed start W).fifteen ≡ lowest_bad S (once S)
    unfolding lowest_bad
    fifteen-all = sym (whole (λ l. (all_followed start l).fifteen)) ∙ fifteen-to (length W) (omega arith) ∙ ap (least (λ k. cond (once S k) none (stop S k).line)) (sym (stops-length W))

    pub hops-all : all_hops start W ≡ hop_entries S (length S)
    hops-all = sym (whole (all_hops start)) ∙ hops-are (length W) (omega arith) ∙ ap (hop_entries S) (sym (stops-length W))
