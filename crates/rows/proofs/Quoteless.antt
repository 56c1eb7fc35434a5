-- A field that is a number or a time has no quotes, so its bytes are its value. Assumes nothing.
use Prim.Native.Nat.{ℕ, suc, ◌+◌, ◌-◌, ◌≤◌, ◌<◌}
use native.Mathlib.Omega.{arith}
use native.Mathlib.Numerals.{add-one}
use mathlib.Core.Path.{◌≡◌, refl, sym, ap, subst, ◌∙◌}
use mathlib.Core.Logic.{⊎_elim}
use mathlib.Core.Bool.{Bool, true, false, cond, ◌&&◌, ◌||◌}
use mathlib.Core.List.{List, [], ◌∷◌, ◌++◌}
use lib.Dec.{eqb, eqb-suc-zero}
use lib.ListN.{length, get_or, take, drop, take-append-drop, length-take, length-drop, drop_of_length-le}
use borrow.Author.Tests.{eqb-true, eq-eqb}
use Rattle.journeys.proofs.Tests.{split, never, and_both, and_left, and_right, or_cases, or-none, same_test}
use Rattle.feed.specs.Lines.{empty}
use Rattle.feed.specs.Values.{digit, digits, value_of, number, time, seconds_of}
use lib.Seq.{drop-cons, drop-drop}
use Rattle.lines.specs.Rows.{undoubled}
use Rattle.lines.specs.Spans.{quotes, paired}
use Rattle.std.specs.Prelude.{Some, None}
use Rattle.values.specs.Readings.{number_read, time_read}
use Rattle.lines.proofs.Spans.{quoteless, plain-test}

-- a quote is no digit
no_digit : (b : ℕ) → eqb b 34 ≡ true → digit b ≡ false
unfolding digit
no_digit b e = rw (eqb-true b 34 e) refl

digits-fail : (f : List ℕ) → quotes f ≡ true → digits f ≡ false
unfolding quotes digits
digits-fail [] e = never e refl
digits-fail (b ∷ []) e = ⊎_elim (λ q. no_digit b q) (λ q. never q refl) (or_cases (eqb b 34) false e)
digits-fail (b ∷ c ∷ r) e =
    ⊎_elim (λ q. and_left _ (no_digit b q)) (λ q. and_right (digit b) (digits-fail (c ∷ r) q)) (or_cases (eqb b 34) (eqb c 34 || quotes r) e)

number-fails : (most : ℕ) (f : List ℕ) → quotes f ≡ true → number most f ≡ false
unfolding number
number-fails most f e = and_left _ (digits-fail f e)

number-quoteless : (most : ℕ) (f : List ℕ) → number most f ≡ true → quotes f ≡ false
number-quoteless most f e = ⊎_elim (λ (q : quotes f ≡ true). never e (number-fails most f q)) (λ (q : quotes f ≡ false). q) (split (quotes f))

pub number-bytes : (most : ℕ) (f : List ℕ) → paired f ≡ true → number most (undoubled f) ≡ number most f
number-bytes most = plain-test (number most) (number-fails most)

empty-length : (f : List ℕ) → empty f ≡ eqb (length f) 0
unfolding empty
empty-length [] = refl
empty-length (b ∷ r) = sym (eqb-suc-zero (length r))

-- What is read as a number is the same of a value and of its bytes.
pub number_read_lem : (most : ℕ) (f : List ℕ) → paired f ≡ true → number_read most (undoubled f) ≡ number_read most f
unfolding number_read
number_read_lem most f p =
    ⊎_elim
    (λ (e : number most f ≡ true). ap (λ g. cond (number most g) (Some (value_of g)) None) (quoteless f (number-quoteless most f e)))
    (λ (e : number most f ≡ false). rw (number-bytes most f p ∙ e, e) refl)
    (split (number most f))

-- ---- a time, by its parts
quotes-joined : (f g : List ℕ) → quotes f ≡ false → quotes g ≡ false → quotes (f ++ g) ≡ false
unfolding quotes
quotes-joined [] g p q = q
quotes-joined (b ∷ f) g p q = let two = or-none (eqb b 34) (quotes f) p in rw two.0 (quotes-joined f g two.1 q)

from_parts : (f : List ℕ) (n : ℕ) → quotes (take n f) ≡ false → quotes (drop n f) ≡ false → quotes f ≡ false
from_parts f n p q = subst (λ g. quotes g ≡ false) (take-append-drop n f) (quotes-joined (take n f) (drop n f) p q)

from-colon : (f : List ℕ) (n : ℕ) → n < length f → eqb (get_or f n 0) 58 ≡ true → quotes (drop (n + 1) f) ≡ false → quotes (drop n f) ≡ false
unfolding quotes
from-colon f n h e q =
    let rest : quotes (drop (suc n) f) ≡ false = subst (λ m. quotes (drop m f) ≡ false) (add-one n) q in
    rw (drop-cons f n 0, eqb-true (get_or f n 0) 58 e) rest

two-more : (f : List ℕ) (n : ℕ) → number 59 (take 2 (drop n f)) ≡ true → quotes (drop (n + 2) f) ≡ false → quotes (drop n f) ≡ false
two-more f n e q = from_parts (drop n f) 2 (number-quoteless 59 (take 2 (drop n f)) e) (rw (drop-drop 2 n f) q)

six : (l a b c d e : Bool) → (l && a && b && c && d && e) ≡ true → (l ≡ true) × (a ≡ true) × (b ≡ true) × (c ≡ true) × (d ≡ true) × (e ≡ true)
six l a b c d e p =
    let p5 = and_both (l && a && b && c && d) e p in
    let p4 = and_both (l && a && b && c) d p5.0 in
    let p3 = and_both (l && a && b) c p4.0 in
    let p2 = and_both (l && a) b p3.0 in
    let p1 = and_both l a p2.0 in
    (p1.0, p1.1, p2.1, p3.1, p4.1, p5.1)

long-enough : (n : ℕ) → (eqb n 7 || eqb n 8) ≡ true → 6 < n
long-enough n e = ⊎_elim (λ p. let q = eqb-true n 7 p in omega arith) (λ p. let q = eqb-true n 8 p in omega arith) (or_cases (eqb n 7) (eqb n 8) e)

no_bytes : (f : List ℕ) (n : ℕ) → length f ≤ n → quotes (drop n f) ≡ false
unfolding quotes
no_bytes f n h = rw (drop_of_length-le f h) refl

time-quoteless : (f : List ℕ) → time f ≡ true → quotes f ≡ false
unfolding time
time-quoteless f e =
    let h = length f - 6 in
    let t = six (eqb (length f) 7 || eqb (length f) 8) (number 47 (take h f)) (eqb (get_or f h 0) 58) (number 59 (take 2 (drop (h + 1) f))) (eqb (get_or f (h + 3) 0) 58) (number 59 (take 2 (drop (h + 4) f))) e in
    let long : 6 < length f = long-enough (length f) t.0 in
    let three : h + 1 + 2 ≡ h + 3 = omega arith in
    let four : h + 3 + 1 ≡ h + 4 = omega arith in
    let last : quotes (drop (h + 4) f) ≡ false = two-more f (h + 4) t.5 (no_bytes f (h + 4 + 2) (omega arith)) in
    let middle : quotes (drop (h + 3) f) ≡ false = from-colon f (h + 3) (omega arith) t.4 (rw four last) in
    let minutes : quotes (drop (h + 1) f) ≡ false = two-more f (h + 1) t.3 (rw three middle) in
    from_parts f h (number-quoteless 47 (take h f) t.1) (from-colon f h (omega arith) t.2 minutes)

time-bytes : (f : List ℕ) → paired f ≡ true → time (undoubled f) ≡ time f
time-bytes = plain-test time (λ f q. ⊎_elim (λ (e : time f ≡ true). never q (time-quoteless f e)) (λ (e : time f ≡ false). e) (split (time f)))

-- What is read as a time is the same of a value and of its bytes.
pub time-read : (f : List ℕ) → paired f ≡ true → time_read (undoubled f) ≡ time_read f
unfolding time_read
time-read f p =
    ⊎_elim
    (λ (e : time f ≡ true). ap (λ g. cond (time g) (Some (seconds_of g)) None) (quoteless f (time-quoteless f e)))
    (λ (e : time f ≡ false). rw (time-bytes f p ∙ e, e) refl)
    (split (time f))

-- A value has no bytes exactly if nothing stands between its ends.
pub empty-bytes : (f : List ℕ) → empty (undoubled f) ≡ empty f
unfolding empty undoubled
empty-bytes [] = refl
empty-bytes (b ∷ []) = refl
empty-bytes (b ∷ c ∷ r) = refl

pub empty-part : (s : List ℕ) (start stop : ℕ) → start ≤ stop → stop ≤ length s → empty (take (stop - start) (drop start s)) ≡ eqb start stop
empty-part s start stop a b =
    empty-length (take (stop - start) (drop start s))
    ∙ same_test _ _ (λ p. eq-eqb start stop (let q = eqb-true (length (take (stop - start) (drop start s))) 0 p in omega (arith, long)))
    (λ p. eq-eqb (length (take (stop - start) (drop start s))) 0 (let q = eqb-true start stop p in omega (arith, long))) where
      long : length (take (stop - start) (drop start s)) ≡ stop - start
      long = omega (arith, length-take (stop - start) (drop start s), length-drop start s)
