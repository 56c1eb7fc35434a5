-- What is judged of the sorted stops is what the definitions say of the stops in the order of their lines.
use mathlib.Core.Path.{◌≡◌, refl, sym, ap, ap₂, ◌∙◌}
use mathlib.Core.Logic.{◌⊎◌}
use mathlib.Core.Bool.{Bool, true, false, not, cond, ◌&&◌}
use mathlib.Core.List.{List}
use Prim.Native.Nat.{ℕ, zero, suc, ◌+◌, ◌/◌, ◌%◌, ◌<◌, ◌≤◌, ◌^◌}
use native.Mathlib.Nat.{le_antisymm}
use native.Mathlib.Omega.{arith}
use native.Mathlib.Decide.{dec_lt, ℕ_discrete}
use lib.Dec.{eqb, ltb}
use lib.ListN.{length}
use borrow.Author.Tests.{eqb-true}
use Rattle.journeys.specs.Counting.{none, least}
use Rattle.journeys.proofs.Tests.{and_both, same_test, last-or-below}
use Rattle.journeys.proofs.Counting.{least-le, least-none}
use Rattle.table_bytes.specs.Columns.{at}
use Rattle.sorting.specs.Sorted.{sorted}
use Rattle.sorting.proofs.Arranged.{Among, sorted-from, sorted-into, sorted_rises}
use Rattle.feed.specs.Stops.{Stop}
use Rattle.feed.specs.Trips.{stop, some, earlier, between, next, too_soon, in_time, repeats, once}
use Rattle.succession.specs.Entries.{stop_in, stops_in, lowest_bad}
use Rattle.succession.proofs.SomeLaws.{some_at, some_is, not-not}
use Rattle.succession.proofs.OrderLaws.{stop-at, stops-length, divided, rests}

-- every stop of S is one of T
pub record Each (S T : List Stop) : Type 0 where
  pub found : (i : ℕ) → i < length S → (k : ℕ) × (k < length T) × (stop S i ≡ stop T k)

both : {a b c d : Bool} → a ≡ c → b ≡ d → a && b ≡ c && d
both p q = ap₂ (λ (x y : Bool). x && y) p q

choice : {a a' b b' c c' : Bool} → a ≡ a' → b ≡ b' → c ≡ c' → cond a b c ≡ cond a' b' c'
choice p q r = cc

carry : {S T : List Stop} → Each S T → (f g : ℕ → Bool) → ((x y : ℕ) → stop S x ≡ stop T y → f x ≡ g y) → some f (length S) ≡ true → some g (length T) ≡ true
carry {S} {T} to f g h e =
    let r = some_is f (length S) e in
    let s = to.found r.0 r.1 in
    some_at g (length T) s.0 s.1 (sym (h r.0 s.0 s.2) ∙ r.2)

least_above : (f : ℕ → ℕ) (m x : ℕ) → x ≤ none → ((k : ℕ) → k < m → x ≤ f k) → x ≤ least f m
unfolding least
least_above f zero x h g = h
least_above f (suc m) x h g = omega (arith, least_above f m x h (λ k l. g k (omega arith)), g m (omega arith))

-- the lowest line goes by the stops alone, where the test does
lowest-le : {S T : List Stop} → Each T S → (good : ℕ → Bool) (fine : ℕ → Bool)
    → ((i k : ℕ) → i < length S → k < length T → stop S i ≡ stop T k → good i ≡ fine k) → lowest_bad S good ≤ lowest_bad T fine
unfolding lowest_bad
lowest-le {S} {T} back good fine h =
    least_above (λ k. cond (fine k) none (stop T k).line) (length T) _ (least-none (λ i. cond (good i) none (stop S i).line) (length S)) (λ k l.
    let r = back.found k l in
    let e : cond (fine k) none (stop T k).line ≡ cond (good r.0) none (stop S r.0).line =
    ap₂ (λ (b : Bool) (s : Stop). cond b none s.line) (sym (h r.0 k r.1 l (sym r.2))) r.2 in
    rw e (least-le (λ i. cond (good i) none (stop S i).line) (length S) r.0 r.1))

module _ (S T : List Stop) where
  earlier-same : (p i q k : ℕ) → stop S p ≡ stop T q → stop S i ≡ stop T k → earlier S p i ≡ earlier T q k
  unfolding earlier
  earlier-same p i q k e f = ap₂ (λ (x y : Stop). eqb x.trip y.trip && ltb x.sequence y.sequence) e f

  timed-same : (i k : ℕ) → stop S i ≡ stop T k → (stop S i).timed ≡ (stop T k).timed
  timed-same i k e = ap (λ (s : Stop). s.timed) e

  between-same : (p i q k : ℕ) → stop S p ≡ stop T q → stop S i ≡ stop T k → (x y : ℕ) → stop S x ≡ stop T y → between S p i x ≡ between T q k y
  unfolding between
  between-same p i q k e f x y g = both (both (timed-same x y g) (earlier-same p x q y e g)) (earlier-same x i y k g f)

some_same : {S T : List Stop} → Each S T → Each T S → (f g : ℕ → Bool) → ((x y : ℕ) → stop S x ≡ stop T y → f x ≡ g y) → some f (length S) ≡ some g (length T)
some_same to back f g h = same_test _ _ (carry to f g h) (carry back g f (λ x y e. sym (h y x (sym e))))

module _ {S T : List Stop} (to : Each S T) (back : Each T S) where
  pub next-same : (p i q k : ℕ) → stop S p ≡ stop T q → stop S i ≡ stop T k → next S p i ≡ next T q k
  unfolding next
  next-same p i q k e f =
      both (both (both (timed-same S T p q e) (timed-same S T i k f)) (earlier-same S T p i q k e f))
      (ap not (some_same to back (between S p i) (between T q k) (between-same S T p i q k e f)))

  soon-same : (i k : ℕ) → stop S i ≡ stop T k → (p q : ℕ) → stop S p ≡ stop T q → too_soon S i p ≡ too_soon T k q
  unfolding too_soon
  soon-same i k f p q e = both (next-same p i q k e f) (ap₂ (λ (x y : Stop). ltb x.arrival y.departure) f e)

  time-same : (i k : ℕ) → stop S i ≡ stop T k → in_time S i ≡ in_time T k
  unfolding in_time
  time-same i k f =
      choice (timed-same S T i k f)
      (both (ap (λ (s : Stop). not (ltb s.departure s.arrival)) f) (ap not (some_same to back (too_soon S i) (too_soon T k) (soon-same i k f))))
      (both (some_same to back (λ p. earlier S p i) (λ q. earlier T q k) (λ p q e. earlier-same S T p i q k e f))
      (some_same to back (earlier S i) (earlier T k) (λ p q e. earlier-same S T i p k q f e)))

  pub times-rearranged : lowest_bad S (in_time S) ≡ lowest_bad T (in_time T)
  times-rearranged =
      le_antisymm (lowest-le back (in_time S) (in_time T) (λ i k a b e. time-same i k e))
      (lowest-le to (in_time T) (in_time S) (λ i k a b e. sym (time-same k i (sym e))))

-- of two stops with one trip and one sequence the one with the lower line comes first
abbrev pub Lined : List Stop → Type 0
Lined S = (i j : ℕ) → i < j → j < length S → (stop S i).trip ≡ (stop S j).trip → (stop S i).sequence ≡ (stop S j).sequence → (stop S i).line < (stop S j).line

repeat-carry : {S T : List Stop} → Each S T → Lined S → Lined T → (i k : ℕ) → i < length S → k < length T → stop S i ≡ stop T k
    → some (repeats S i) i ≡ true → some (repeats T k) k ≡ true
unfolding repeats
repeat-carry {S} {T} to u v i k a b e h =
    let r = some_is (repeats S i) i h in
    let two = and_both _ _ r.2 in
    let t : (stop S r.0).trip ≡ (stop S i).trip = eqb-true _ _ two.0 in
    let s : (stop S r.0).sequence ≡ (stop S i).sequence = eqb-true _ _ two.1 in
    let m = to.found r.0 (omega (arith, r.1)) in
    let lt : (stop T m.0).line < (stop T k).line = rw (← m.2, ← e) (u r.0 i r.1 a t s) in
    let t' : (stop T k).trip ≡ (stop T m.0).trip = sym (ap (λ (x : Stop). x.trip) (sym m.2) ∙ t ∙ ap (λ (x : Stop). x.trip) e) in
    let s' : (stop T k).sequence ≡ (stop T m.0).sequence = sym (ap (λ (x : Stop). x.sequence) (sym m.2) ∙ s ∙ ap (λ (x : Stop). x.sequence) e) in
    some_at (repeats T k) k m.0 (first m.0 m.1 lt t' s' (dec_lt m.0 k) (ℕ_discrete m.0 k))
    (sym (ap₂ (λ (x y : Stop). eqb x.trip y.trip && eqb x.sequence y.sequence) m.2 e) ∙ r.2)
  where
    first : (x : ℕ) → x < length T → (stop T x).line < (stop T k).line → (stop T k).trip ≡ (stop T x).trip → (stop T k).sequence ≡ (stop T x).sequence → Dec (x < k) → Dec (x ≡ k) → x < k
    first x l lt t s (yes q) d = q
    first x l lt t s (no q) (yes d) = let z : (stop T x).line ≡ (stop T k).line = ap (λ (y : ℕ). (stop T y).line) d in absurd (omega arith)
    first x l lt t s (no q) (no d) = absurd (omega (arith, lt, v k x (omega arith) l t s))

pub repeats-rearranged : {S T : List Stop} → Each S T → Each T S → Lined S → Lined T → lowest_bad S (once S) ≡ lowest_bad T (once T)
unfolding once
repeats-rearranged {S} {T} to back u v =
    le_antisymm (lowest-le back (once S) (once T) same) (lowest-le to (once T) (once S) (λ i k a b e. sym (same k i b a (sym e))))
  where
    same : (i k : ℕ) → i < length S → k < length T → stop S i ≡ stop T k → once S i ≡ once T k
    same i k a b e = ap not (same_test _ _ (repeat-carry to u v i k a b e) (repeat-carry back v u k i b a (sym e)))

clash : {x y : ℕ} → x < y → x ≡ y → ⊥
clash h e = absurd (omega arith)

level : (i j : ℕ) → (i < j → ⊥) → (j < i → ⊥) → i ≡ j
level i j f g = go (dec_lt i j) (dec_lt j i)
  where
    go : Dec (i < j) → Dec (j < i) → i ≡ j
    go (yes p) q = absurd (f p)
    go (no p) (yes q) = absurd (g q)
    go (no p) (no q) = omega arith

-- records of one trip and one sequence stand by their lines
lines-up : (x y : ℕ) → x ≤ y → x / 2 ^ 32 ≡ y / 2 ^ 32 → (x % 2 ^ 32 ≡ y % 2 ^ 32 → ⊥) → x % 2 ^ 32 < y % 2 ^ 32
lines-up x y h e f = go (ℕ_discrete (x % 2 ^ 32) (y % 2 ^ 32))
  where
    go : Dec (x % 2 ^ 32 ≡ y % 2 ^ 32) → x % 2 ^ 32 < y % 2 ^ 32
    go (yes q) = absurd (f q)
    go (no q) = omega arith

below : (x y : ℕ) → x < y → (stop_in x).trip ≡ (stop_in y).trip → (stop_in x).sequence ≡ (stop_in y).sequence → ((stop_in x).line ≡ (stop_in y).line → ⊥) → (stop_in x).line < (stop_in y).line
below x y h t s f =
    lines-up (x / 2 ^ 64 % 2 ^ 64) (y / 2 ^ 64 % 2 ^ 64) (rests (x / 2 ^ 64) (y / 2 ^ 64) (divided x y (omega arith)) t) s f

-- the records of stops in the order of their lines, and the same sorted
module _ (l : List ℕ) where
  each : (m n : List ℕ) → Among m n → Each (stops_in m) (stops_in n)
  each m n f = record {
    found = λ i h.
        let r = f.found i (rw (stops-length m) at h) in
        (r.0, rw (stops-length n) r.1, stop-at m i ∙ ap stop_in r.2 ∙ sym (stop-at n r.0));
  }

  pub into-sorted : Each (stops_in l) (stops_in (sorted l))
  into-sorted = each l (sorted l) (sorted-into l)

  pub from_sorted : Each (stops_in (sorted l)) (stops_in l)
  from_sorted = each (sorted l) l (sorted-from l)

  -- 16
  pub times-sorted : lowest_bad (stops_in (sorted l)) (in_time (stops_in (sorted l))) ≡ lowest_bad (stops_in l) (in_time (stops_in l))
  times-sorted = times-rearranged from_sorted into-sorted

  -- 15, where each line is below the next
  module _ (up : (i j : ℕ) → i < j → j < length l → (stop_in (at l i)).line < (stop_in (at l j)).line) where
    pub one_place : (i j : ℕ) → i < length l → j < length l → (stop_in (at l i)).line ≡ (stop_in (at l j)).line → i ≡ j
    one_place i j a b e = level i j (λ p. clash (up i j p b) e) (λ p. clash (up j i p a) (sym e))

    pub rises : (i j : ℕ) → i < j → j < length (sorted l) → at (sorted l) i < at (sorted l) j
    rises = sorted_rises l (λ i j a b e. let z : (stop_in (at l i)).line ≡ (stop_in (at l j)).line = ap (λ (x : ℕ). (stop_in x).line) e in clash (up i j a b) z)

    pub apart : (i j : ℕ) → i < j → j < length (sorted l) → (stop_in (at (sorted l) i)).line ≡ (stop_in (at (sorted l) j)).line → ⊥
    apart i j a h e =
        let x = (sorted-from l).found i (omega arith) in
        let y = (sorted-from l).found j h in
        let q = one_place x.0 y.0 x.1 y.1 (ap (λ (z : ℕ). (stop_in z).line) (sym x.2) ∙ e ∙ ap (λ (z : ℕ). (stop_in z).line) y.2) in
        let same : at (sorted l) i ≡ at (sorted l) j = x.2 ∙ ap (at l) q ∙ sym y.2 in
        clash (rises i j a h) same

    lined : Lined (stops_in l)
    lined i j a b t s = rw (stop-at l i, stop-at l j) (up i j a (rw (stops-length l) at b))

    lined-sorted : Lined (stops_in (sorted l))
    lined-sorted i j a b t s =
        let h = rw (stops-length (sorted l)) at b in
        rw (stop-at (sorted l) i, stop-at (sorted l) j)
        (below (at (sorted l) i) (at (sorted l) j) (rises i j a h)
        (rw (stop-at (sorted l) i, stop-at (sorted l) j) at t) (rw (stop-at (sorted l) i, stop-at (sorted l) j) at s)
        (apart i j a h))

    pub repeats-sorted : lowest_bad (stops_in (sorted l)) (once (stops_in (sorted l))) ≡ lowest_bad (stops_in l) (once (stops_in l))
    repeats-sorted = repeats-rearranged from_sorted into-sorted lined-sorted lined
