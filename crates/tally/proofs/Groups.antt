-- Groups of counters: none laid, one laid behind the others, one taken off a counter, all at zero. Assumes nothing.
use mathlib.Core.Path.{◌≡◌, refl, sym, ap, ◌∙◌, subst}
use mathlib.Core.Logic.{◌≢◌, ⊎_elim}
use mathlib.Core.Bool.{Bool, true, false, not}
use mathlib.Core.List.{List}
use Prim.Native.Nat.{ℕ, zero, suc, ◌+◌, ◌-◌, ◌*◌, ◌/◌, ◌%◌, ◌≤◌, ◌<◌, ◌^◌}
use native.Mathlib.Nat.{zero-div, zero-mod}
use native.Mathlib.Decide.{ℕ_discrete}
use native.Mathlib.Omega.{arith}
use lib.Dec.{eqb, ltb}
use lib.ListN.{length, get_or, set}
use lib.Seq.{get_or-set_same, get_or-set_other}
use borrow.Author.Tests.{eqb-true, eq-eqb, ne_eqb, not-false, lt-ltb, le-ltb, ltb-true, ltb-false}
use Rattle.journeys.specs.Counting.{one, count}
use Rattle.journeys.proofs.Tests.{Test, same, other, test, le-or-lt}
use Rattle.journeys.proofs.Counting.{is_one, is_zero, some-count, count_none, count-grows}
use Rattle.tally.specs.Laid.{entry, start, nibbles, Width, narrow, middle, wide, place, unit, digit, word_of, left, lowered, packed, listed, times, filled, Same, Placed, Shaped, Laid, More, Met}
use Rattle.tally.proofs.Digits.{digit-less, no_digit, some-digit, digit-other, apart-in-word, packed-digit}

offset : {m : ℕ} → Width m → (j : ℕ) → j < 64 → j * m / 4 < 16 * m
offset narrow j l = omega arith
offset middle j l = omega arith
offset wide j l = omega arith

left_at : (s : List ℕ) (k e x : ℕ) → entry s (k / 64) ≡ e → get_or s (place e k) 0 ≡ x → left s k ≡ digit e k x
unfolding left
left_at s k e x p q = rw (p, q) refl

left-kept : (s s' : List ℕ) (k : ℕ) → entry s' (k / 64) ≡ entry s (k / 64) → get_or s' (word_of s k) 0 ≡ get_or s (word_of s k) 0 → left s' k ≡ left s k
left-kept s s' k p q = left_at s' k (entry s (k / 64)) _ p q ∙ sym (left_at s k (entry s (k / 64)) _ refl refl)

shape-kept : {groups words : ℕ} {s s' : List ℕ} → ((g : ℕ) → g < groups → entry s' g ≡ entry s g) → Shaped groups words s → Shaped groups words s'
shape-kept h p =
    record {
      least = p.least;
      most = p.most;
      width = λ g l. subst (λ (e : ℕ). Width (nibbles e)) (sym (h g l)) (p.width g l);
      inside = λ g l. rw (h g l) (p.inside g l);
      apart = λ g k a b. omega (arith, h g (omega arith), h k b, p.apart g k a b);
    }

-- the word of a counter stands among those of its group
module _ {groups words : ℕ} {s : List ℕ} (shape : Shaped groups words s) (k : ℕ) (l : k < 64 * groups) where
  own-width : Width (nibbles (entry s (k / 64)))
  own-width = shape.width (k / 64) (omega arith)

  own-words : word_of s k < start (entry s (k / 64)) + 16 * nibbles (entry s (k / 64))
  own-words = omega (arith, offset own-width (k % 64) (omega arith))

  word-within : word_of s k < words
  word-within = omega (arith, own-words, shape.inside (k / 64) (omega arith))

pub laid_none : (claims taken : ℕ → ℕ) (s : List ℕ) → Laid 0 0 claims taken s
laid_none claims taken s =
    record {
      shape =
          record {
            least = omega arith;
            most = omega arith;
            width = λ g l. absurd (omega arith);
            inside = λ g l. absurd (omega arith);
            apart = λ g h a b. absurd (omega arith);
          };
      counted = λ k l. absurd (omega arith);
    }

pub laid_same : {groups words : ℕ} {claims taken taken' : ℕ → ℕ} {s : List ℕ} → ((k : ℕ) → k < 64 * groups → taken k ≡ taken' k) → Laid groups words claims taken s → Laid groups words claims taken' s
laid_same e h = record { shape = h.shape; counted = λ k l. omega (arith, e k l, h.counted k l) }

-- the list is no part of it
pub laid_kept : {groups words : ℕ} {claims taken : ℕ → ℕ} {s s' : List ℕ} → Same 0 1972 s s' → Laid groups words claims taken s → Laid groups words claims taken s'
laid_kept {groups} {words} {claims} {taken} {s} {s'} keep h =
    record {
      shape = shape-kept entries h.shape;
      counted = λ k l.
          omega (arith, h.counted k l, left-kept s s' k (entries (k / 64) (omega arith)) (keep (word_of s k) (omega arith) (omega (arith, word-within h.shape k l, h.shape.most))));
    }
  where
    entries : (g : ℕ) → g < groups → entry s' g ≡ entry s g
    entries g l = keep (1856 + g) (omega arith) (omega (arith, h.shape.least, h.shape.most))

pub laid-placed : {groups words : ℕ} {claims taken : ℕ → ℕ} {s : List ℕ} → Laid groups words claims taken s → (k : ℕ) → k < 64 * groups → Placed s k
laid-placed h k l =
    record {
      inside = omega (arith, h.shape.least, h.shape.most);
      width = own-width h.shape k l;
      room = omega (arith, word-within h.shape k l, h.shape.most);
    }

-- ---- one taken off the counter k
module _ {groups words : ℕ} {claims taken : ℕ → ℕ} {s : List ℕ} (laid : Laid groups words claims taken s) (k : ℕ) (within : k < 64 * groups) (full : length s ≡ 2048) (some : 0 < left s k) where
  entries-stay : (g : ℕ) → entry (lowered s k) g ≡ entry s g
  unfolding lowered
  entries-stay g = get_or-set_other s (word_of s k) (1856 + g) _ 0 (λ q. omega (arith, (laid-placed laid k within).room))

  own-lowered : get_or (lowered s k) (word_of s k) 0 ≡ get_or s (word_of s k) 0 - unit (entry s (k / 64)) k
  unfolding lowered
  own-lowered = get_or-set_same s (word_of s k) _ 0 (omega (arith, (laid-placed laid k within).room))

  others-stay : (w : ℕ) → w ≢ word_of s k → get_or (lowered s k) w 0 ≡ get_or s w 0
  unfolding lowered
  others-stay w n = get_or-set_other s (word_of s k) w _ 0 n

  own-less : left (lowered s k) k + 1 ≡ left s k
  unfolding left
  own-less =
      ap (λ (x : ℕ). x + 1) (left_at (lowered s k) k (entry s (k / 64)) _ (entries-stay (k / 64)) own-lowered)
      ∙ digit-less (own-width laid.shape k within) (get_or s (word_of s k) 0) (k % 64 * nibbles (entry s (k / 64)) % 4) some

  one-group : (i : ℕ) → i < 64 * groups → word_of s i ≡ word_of s k → i / 64 ≡ k / 64
  one-group i l e =
      ⊎_elim (λ (a : i / 64 ≤ k / 64).
      ⊎_elim (λ (b : k / 64 ≤ i / 64). omega arith)
      (λ (b : i / 64 < k / 64). absurd (let z : ⊥ = omega (arith, own-words laid.shape i l, laid.shape.apart (i / 64) (k / 64) b (omega arith)) in z))
      (le-or-lt (k / 64) (i / 64)))
      (λ (a : k / 64 < i / 64). absurd (let z : ⊥ = omega (arith, own-words laid.shape k within, laid.shape.apart (k / 64) (i / 64) a (omega arith)) in z))
      (le-or-lt (i / 64) (k / 64))

  other-stays : (i : ℕ) → i < 64 * groups → i ≢ k → left (lowered s k) i ≡ left s i
  unfolding left
  other-stays i l n = go (ℕ_discrete (word_of s i) (word_of s k))
    where
      go : Dec (word_of s i ≡ word_of s k) → left (lowered s k) i ≡ left s i
      go (no d) = left-kept s (lowered s k) i (entries-stay (i / 64)) (others-stay (word_of s i) d)
      go (yes p) =
          let g : i / 64 ≡ k / 64 = one-group i l p in
          let e = entry s (k / 64) in
          let own : entry s (i / 64) ≡ e = ap (entry s) g in
          let here : place e i ≡ word_of s k = ap (λ (x : ℕ). place x i) (sym own) ∙ p in
          left_at (lowered s k) i e _ (entries-stay (i / 64) ∙ own) (ap (λ (w : ℕ). get_or (lowered s k) w 0) here ∙ own-lowered)
          ∙ digit-other (own-width laid.shape k within) (get_or s (word_of s k) 0) (k % 64 * nibbles e % 4) some (i % 64 * nibbles e % 4)
          (apart-in-word (own-width laid.shape k within) (i % 64) (k % 64) (λ q. n (omega arith)) (omega arith))
          ∙ sym (left_at s i e _ own (ap (λ (w : ℕ). get_or s w 0) here))

  pub laid-lowered : Laid groups words claims (λ i. taken i + one (eqb k i)) (lowered s k)
  laid-lowered = record { shape = shape-kept (λ g l. entries-stay g) laid.shape; counted = λ i l. go i l _ (test k i) }
    where
      go : (i : ℕ) → i < 64 * groups → (b : Bool) → Test k i b → left (lowered s k) i + (taken i + one b) ≡ claims i
      go i l _ (same e) = subst (λ (x : ℕ). left (lowered s k) x + (taken x + 1) ≡ claims x) e (omega (arith, own-less, laid.counted k within))
      go i l _ (other n) = omega (arith, other-stays i l (λ q. n (sym q)), laid.counted i l)

-- ---- a group laid behind the others
pub width_some : {m : ℕ} → Width m → (0 < m) × (m ≤ 4)
width_some narrow = (omega arith, omega arith)
width_some middle = (omega arith, omega arith)
width_some wide = (omega arith, omega arith)

module _ (groups words size : ℕ) (s s' : List ℕ) (width : Width size) (room : words + 16 * size ≤ 1856) (small : (i : ℕ) → i < 64 → listed s i < 16 ^ size)
    (below : Same 0 words s s') (entries : Same 1856 (1856 + groups) s s') (own : entry s' groups ≡ 8 * words + size)
    (packs : (w : ℕ) → w < 16 * size → get_or s' (words + w) 0 ≡ packed (listed s) size w) where
  first_word : (8 * words + size) / 8 ≡ words
  first_word = omega (arith, width_some width)

  own-size : (8 * words + size) % 8 ≡ size
  own-size = omega (arith, width_some width)

  old-entry : (g : ℕ) → g < groups → entry s' g ≡ entry s g
  old-entry g l = entries (1856 + g) (omega arith) (omega arith)

  new-entry : (g : ℕ) → groups ≤ g → g < groups + 1 → entry s' g ≡ 8 * words + size
  new-entry g a b = let e : g ≡ groups = omega arith in ap (entry s') e ∙ own

  shape-more : Shaped groups words s → Shaped (groups + 1) (words + 16 * size) s'
  shape-more p =
      record {
        least = omega (arith, p.least, width_some width);
        most = room;
        width = λ g l.
            ⊎_elim (λ (a : groups ≤ g). subst (λ (m : ℕ). Width m) (sym (ap nibbles (new-entry g a l) ∙ own-size)) width)
            (λ (a : g < groups). subst (λ (e : ℕ). Width (nibbles e)) (sym (old-entry g a)) (p.width g a))
            (le-or-lt groups g);
        inside = λ g l.
            ⊎_elim (λ (a : groups ≤ g). omega (arith, new-entry g a l, first_word, own-size))
            (λ (a : g < groups). omega (arith, old-entry g a, p.inside g a))
            (le-or-lt groups g);
        apart = λ g h a b.
            ⊎_elim (λ (d : groups ≤ h). omega (arith, new-entry h d b, first_word, old-entry g (omega arith), p.inside g (omega arith)))
            (λ (d : h < groups). omega (arith, old-entry h d, old-entry g (omega arith), p.apart g h a d))
            (le-or-lt groups h);
      }

  new-left : (i : ℕ) → i < 64 → left s' (64 * groups + i) ≡ listed s i
  new-left i l =
      let g : (64 * groups + i) / 64 ≡ groups = omega arith in
      let r : (64 * groups + i) % 64 ≡ i = omega arith in
      left_at s' (64 * groups + i) (8 * words + size) (packed (listed s) size (i * size / 4)) (ap (entry s') g ∙ own) (rw (r, first_word, own-size) (packs (i * size / 4) (offset width i l)))
      ∙ rw (r, own-size) (packed-digit (listed s) width small i l)

  laid_more : More groups words (words + 16 * size) s s'
  laid_more claims taken laid new =
      record {
        shape = shape-more laid.shape;
        counted = λ k l.
            ⊎_elim (λ (a : 64 * groups ≤ k).
            let e : 64 * groups + (k - 64 * groups) ≡ k = omega arith in
            subst (λ (x : ℕ). left s' x + taken x ≡ claims x) e (omega (arith, new-left (k - 64 * groups) (omega arith), new (k - 64 * groups) (omega arith))))
            (λ (a : k < 64 * groups).
            omega (arith, laid.counted k a, left-kept s s' k (old-entry (k / 64) (omega arith)) (below (word_of s k) (omega arith) (word-within laid.shape k a))))
            (le-or-lt (64 * groups) k);
      }

-- the entry of a group behind its words
module _ (groups words size : ℕ) (s t : List ℕ) (least : 16 * groups ≤ words) (full : length t ≡ 2048) (width : Width size) (room : words + 16 * size ≤ 1856)
    (below : Same 0 words s t) (behind : Same 1856 2048 s t) where
  abbrev entered : List ℕ
  entered = set t (1856 + groups) (8 * words + size)

  stays : (k : ℕ) → k ≢ 1856 + groups → get_or entered k 0 ≡ get_or t k 0
  stays k n = get_or-set_other t (1856 + groups) k _ 0 n

  pub list-stays : Same 1972 2048 s entered
  list-stays k a b = stays k (λ e. omega (arith, width_some width)) ∙ behind k (omega arith) b

  pub laid-entered : ((i : ℕ) → i < 64 → listed s i < 16 ^ size) → ((w : ℕ) → w < 16 * size → get_or t (words + w) 0 ≡ packed (listed s) size w) → More groups words (words + 16 * size) s entered
  laid-entered small packs =
      laid_more groups words size s entered width room small
      (λ k a b. stays k (λ e. omega arith) ∙ below k a b)
      (λ k a b. stays k (λ e. omega arith) ∙ behind k a (omega (arith, width_some width)))
      (get_or-set_same t (1856 + groups) _ 0 (omega (arith, width_some width)))
      (λ w l. stays (words + w) (λ e. omega arith) ∙ packs w l)

-- ---- all at zero
pub filled_more : (s : List ℕ) (i : ℕ) → filled s i ≡ 0 → get_or s i 0 ≡ 0 → filled s (i + 1) ≡ 0
unfolding count
filled_more s i h e =
    let n : i + 1 ≡ suc i = omega arith in
    rw n (omega (arith, is_zero (ap not (eq-eqb (get_or s i 0) 0 e))))

pub filled-none : (n : ℕ) (s : List ℕ) → ((i : ℕ) → i < n → get_or s i 0 ≡ 0) → filled s n ≡ 0
unfolding count
filled-none zero s f = refl
filled-none (suc n) s f =
    let e : n + 1 ≡ suc n = omega arith in
    rw e at (filled_more s n (filled-none n s (λ i l. f i (omega arith))) (f n (omega arith)))

pub filled-some : (s : List ℕ) (n i : ℕ) → i < n → get_or s i 0 ≢ 0 → eqb (filled s n) 0 ≡ false
filled-some s n i l h = ne_eqb (filled s n) 0 (λ e. omega (arith, some-count (λ j. not (eqb (get_or s j 0) 0)) n i l (ap not (ne_eqb (get_or s i 0) 0 h))))

pub zeros-met : (words : ℕ) (s : List ℕ) → filled s words ≡ 0 → Met words s
zeros-met words s z groups claims taken laid k l =
    let e = entry s (k / 64) in
    let w = word_of s k in
    let zero = eqb-true (get_or s w 0) 0 (not-false _ (count_none (λ j. not (eqb (get_or s j 0) 0)) words z w (word-within laid.shape k l))) in
    let none : left s k ≡ 0 = left_at s k e 0 refl zero ∙ ap (λ (x : ℕ). x % 16 ^ nibbles e) (zero-div (unit e k)) ∙ zero-mod (16 ^ nibbles e) in
    omega (arith, laid.counted k l)

-- ---- what the code reads of a counter: p is the weight of its lowest bit, q that of the lowest bit of the counter above
module _ (s : List ℕ) (k p q : ℕ) (low : p ≡ unit (entry s (k / 64)) k) (high : q ≡ 16 ^ (k % 64 * nibbles (entry s (k / 64)) % 4 + nibbles (entry s (k / 64)))) where
  abbrev word : ℕ
  word = get_or s (word_of s k) 0

  pub none_left : word % q < p → false ≡ ltb 0 (left s k)
  unfolding left
  none_left l = sym (le-ltb 0 (left s k) (omega (arith, no_digit word (k % 64 * nibbles (entry s (k / 64)) % 4) (nibbles (entry s (k / 64))) (rw (low, high) at l))))

  pub some_left : p ≤ word % q → true ≡ ltb 0 (left s k)
  unfolding left
  some_left l = sym (lt-ltb 0 (left s k) (some-digit word (k % 64 * nibbles (entry s (k / 64)) % 4) (nibbles (entry s (k / 64))) (rw (low, high) at l)))

  pub lowered_is : set s (word_of s k) (word - p) ≡ lowered s k
  unfolding lowered
  lowered_is = rw low refl

pub placed-kept : {s s' : List ℕ} {k : ℕ} → Same 1856 2048 s s' → Placed s k → Placed s' k
placed-kept {s} {s'} {k} keep p =
    let e : entry s' (k / 64) ≡ entry s (k / 64) = keep (1856 + k / 64) (omega arith) (omega (arith, p.inside)) in
    record { inside = p.inside; width = subst (λ (x : ℕ). Width (nibbles x)) (sym e) p.width; room = rw e p.room }

pub times_more : (s : List ℕ) (n k x : ℕ) → x + times s n k + one (eqb (listed s n) k) ≡ x + times s (n + 1) k
unfolding count
times_more s n k x =
    let e : n + 1 ≡ suc n = omega arith in
    rw e (omega arith)

-- ---- one turn of the drain: the i-th number of the list of `first` is taken off
pub lowered-outside : {s : List ℕ} {k : ℕ} → Placed s k → Same 1856 2048 s (lowered s k)
unfolding lowered
lowered-outside {s} {k} p j a b = get_or-set_other s (word_of s k) j _ 0 (λ e. omega (arith, p.room))

module _ {groups words : ℕ} {claims : ℕ → ℕ} {s : List ℕ} (taken : ℕ → ℕ) (first : List ℕ) (i k : ℕ) (laid : Laid groups words claims (λ j. taken j + times first i j) s) (own : k ≡ listed first i) (within : k < 64 * groups) where
  pub drained-one : length s ≡ 2048 → true ≡ ltb 0 (left s k) → Laid groups words claims (λ j. taken j + times first (i + 1) j) (lowered s k)
  drained-one full some =
      laid_same (λ j l. ap (λ (x : ℕ). taken j + times first i j + one (eqb x j)) own ∙ times_more first i j (taken j))
      (laid-lowered laid k within full (ltb-true 0 (left s k) (sym some)))

  pub not-enough : (n : ℕ) → i < n → false ≡ ltb 0 (left s k) → ((j : ℕ) → j < 64 * groups → taken j + times first n j ≤ claims j) → ⊥
  not-enough n l none enough =
      omega (arith, ltb-false 0 (left s k) (sym none), laid.counted k within, enough k within, times_more first i k (taken k), is_one (eq-eqb (listed first i) k (sym own)), count-grows (λ j. eqb (listed first j) k) (i + 1) n (omega arith))
