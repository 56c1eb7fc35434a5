-- The entries of a list: where they stand, what two passes say of them, and that no more are good than there are vertices. Assumes nothing.
use mathlib.Core.Path.{◌≡◌, refl, sym, ap, ◌∙◌}
use mathlib.Core.Logic.{◌⊎◌, inl, inr, ⊎_elim}
use mathlib.Core.Bool.{Bool, true, false, cond, not, ◌&&◌, ◌||◌}
use mathlib.Core.List.{List}
use Rattle.std.specs.Prelude.{Result, Ok, Err}
use Prim.Native.Nat.{ℕ, zero, suc, ◌+◌, ◌-◌, ◌*◌, ◌/◌, ◌%◌, ◌≤◌, ◌<◌}
use native.Mathlib.Nat.{zero-add, mul_comm, mul-suc, mul-le-mul_left, div-mul-le_self}
use native.Mathlib.Decide.{ℕ_discrete}
use native.Mathlib.Numerals.{add-one}
use native.Mathlib.Omega.{arith}
use lib.Dec.{eqb, ltb}
use borrow.Author.Tests.{eq-eqb, ne_eqb, eqb-true, ltb-true}
use Rattle.journeys.specs.Counting.{count, one}
use Rattle.journeys.specs.Refusals.{Refusal, fine, first_from, first_bad}
use Rattle.journeys.proofs.Tests.{split, never, le-or-lt, same-or-below, last-or-below, and_both, and-true, and_left, and_right}
use Rattle.journeys.proofs.Counting.{below_suc, is_one, is_zero, count_most, count-join, none-count}
use Rattle.audit.proofs.Scan.{scan_step, scan-stop, scan-end, refusing}
use Rattle.lists.specs.Lists.{told}
use Rattle.journeys.specs.Lists.{allows, vertex_in, distance_at, named, entry_ok}
use Rattle.lists.specs.Passes.{in_half, half_ok, First}

-- ---- where an entry stands
pub start_fits : (size n i : ℕ) → i < n / size → size * i + size ≤ n
start_fits size n i h =
    let a : size * suc i ≤ size * (n / size) = mul-le-mul_left size h in
    omega (arith, mul-suc size i, a, div-mul-le_self n size, mul_comm size (n / size))

-- ---- the answers of one entry: t is the test of vertex and distance, h that of the half, b whether the vertex is marked
pub refused-entry : {t : Bool} (x : Bool) → t ≡ false → false ≡ (t && x)
refused-entry x e = sym (and_left x e)

pub other_half : {t h : Bool} (b : Bool) → t ≡ true → h ≡ false → true ≡ (t && not (h && b))
other_half b e f = cc

pub this-half : {t h : Bool} {r : ℕ} (b : Bool) → t ≡ true → h ≡ true → r ≡ cond b 0 1 → eqb r 1 ≡ (t && not (h && b))
this-half true e f q = rw (q, e, f)
this-half false e f q = rw (q, e, f)

pub not-marked-here : {h : Bool} (a b : Bool) → h ≡ false → a ≡ (a || (h && b))
not-marked-here true b e = refl
not-marked-here false b e = sym (and_left b e)

pub marked-here : {h : Bool} {x : Bool} (a b : Bool) → h ≡ true → x ≡ (a || b) → x ≡ (a || (h && b))
marked-here a b e q = rw e q

-- ---- what is marked of a half: the vertices that the first n entries name
and_same : (h : Bool) {a b : Bool} → (h ≡ true → a ≡ b) → (h && a) ≡ (h && b)
and_same true f = f refl
and_same false f = refl

-- the number b of a half is one vertex
half-number : (half v b : ℕ) → b < 32768 → (in_half half v && eqb (v % 32768) b) ≡ eqb v (32768 * half + b)
half-number half v b l = go (ℕ_discrete (v / 32768) half) (ℕ_discrete (v % 32768) b)
  where
    go : Dec (v / 32768 ≡ half) → Dec (v % 32768 ≡ b) → (in_half half v && eqb (v % 32768) b) ≡ eqb v (32768 * half + b)
    go (yes p) (yes q) = and-true (eq-eqb (v / 32768) half p) (eq-eqb (v % 32768) b q) ∙ sym (eq-eqb v (32768 * half + b) (omega arith))
    go (yes p) (no q) =
        and_right (in_half half v) (ne_eqb (v % 32768) b q) ∙ sym (ne_eqb v (32768 * half + b) (λ e. q (omega arith)))
    go (no p) d = and_left (eqb (v % 32768) b) (ne_eqb (v / 32768) half p) ∙ sym (ne_eqb v (32768 * half + b) (λ e. p (omega arith)))

module _ (size : ℕ) (list : List ℕ) (half : ℕ) (mark : ℕ → Bool) (n : ℕ) (is : (b : ℕ) → b < 32768 → mark b ≡ named size list n (32768 * half + b)) where
  abbrev v : ℕ
  v = vertex_in size list n

  -- the test of a pass, where the marks stand for the earlier entries
  pub judged-by-marks : (t : Bool) → (t && not (in_half half v && mark (v % 32768))) ≡ (t && not (in_half half v && named size list n v))
  judged-by-marks t = ap (λ (x : Bool). t && not x) (and_same (in_half half v) same)
    where
      same : in_half half v ≡ true → mark (v % 32768) ≡ named size list n v
      same e =
          let h : v / 32768 ≡ half = eqb-true (v / 32768) half e in
          let w : 32768 * half + v % 32768 ≡ v = omega arith in
          is (v % 32768) (omega arith) ∙ ap (named size list n) w

  pub marks-more : (b : ℕ) → b < 32768 → (mark b || (in_half half v && eqb (v % 32768) b)) ≡ named size list (n + 1) (32768 * half + b)
  unfolding named
  marks-more b l =
      let e : n + 1 ≡ suc n = omega arith in
      ap (λ (x : Bool). x || (in_half half v && eqb (v % 32768) b)) (is b l)
      ∙ ap (λ (x : Bool). named size list n (32768 * half + b) || x) (half-number half v b l)
      ∙ ap (λ (k : ℕ). named size list k (32768 * half + b)) (sym e)

pub none_named : (size : ℕ) (list : List ℕ) (u : ℕ) → false ≡ named size list 0 u
unfolding named
none_named size list u = refl

-- ---- counting
one-count : (k m : ℕ) → k < m → count (λ u. eqb k u) m ≡ 1
unfolding count
one-count k zero h = absurd (omega arith)
one-count k (suc m) h =
    ⊎_elim (λ (e : k ≡ m). ap (λ (x : ℕ). x + one (eqb k m)) (none-count (λ u. eqb k u) m (λ u l. ne_eqb k u (λ q. let z : ⊥ = omega arith in z))) ∙ zero-add (one (eqb k m)) ∙ is_one (eq-eqb k m e))
    (λ (l : k < m). ap (λ (x : ℕ). x + one (eqb k m)) (one-count k m l) ∙ ap (λ (x : ℕ). 1 + x) (is_zero (ne_eqb k m (λ q. let z : ⊥ = omega arith in z))))
    (last-or-below h)

-- ---- two passes, one for each half, judge every entry
passes-half : (t h m : Bool) → (t && not m) ≡ true → (t && not (h && m)) ≡ true
passes-half true h false e = ap (λ (x : Bool). not x) (and_right h refl)
passes-half true h true e = never e refl
passes-half false h m e = never e refl

passes-whole : (t h k m : Bool) → (t ≡ true → (h ≡ true) ⊎ (k ≡ true)) → (t && not (h && m)) ≡ true → (t && not (k && m)) ≡ true → (t && not m) ≡ true
passes-whole true h k m f e g = ⊎_elim (λ (q : h ≡ true). rw q at e) (λ (q : k ≡ true). rw q at g) (f refl)
passes-whole false h k m f e g = never e refl

module _ (size vertices most : ℕ) (list : List ℕ) (few : vertices ≤ 65536) where
  abbrev ok : ℕ → Bool
  ok = entry_ok size vertices most list

  to-half : (half i : ℕ) → ok i ≡ true → half_ok size vertices most list half i ≡ true
  unfolding entry_ok half_ok
  to-half half i e = passes-half (ltb (vertex_in size list i) vertices && allows most (distance_at size list i)) (in_half half (vertex_in size list i)) (named size list i (vertex_in size list i)) e

  of-halves : (i : ℕ) → half_ok size vertices most list 0 i ≡ true → half_ok size vertices most list 1 i ≡ true → ok i ≡ true
  unfolding entry_ok half_ok
  of-halves i e g =
      passes-whole (ltb u vertices && allows most (distance_at size list i)) (in_half 0 u) (in_half 1 u) (named size list i u) either e g
    where
      u : ℕ
      u = vertex_in size list i

      either : (ltb u vertices && allows most (distance_at size list i)) ≡ true → (in_half 0 u ≡ true) ⊎ (in_half 1 u ≡ true)
      either t =
          let l : u < vertices = ltb-true u vertices (and_both (ltb u vertices) (allows most (distance_at size list i)) t).0 in
          ⊎_elim (λ (q : 32768 ≤ u). inr (eq-eqb (u / 32768) 1 (omega arith))) (λ (q : u < 32768). inl (eq-eqb (u / 32768) 0 (omega arith))) (le-or-lt 32768 u)

  pub both-passes : (n a b : ℕ) → First (half_ok size vertices most list 0) n a → First (half_ok size vertices most list 1) a b → First ok n b
  both-passes n a b p q =
      record {
        within = omega (arith, p.within, q.within);
        before = λ k h. of-halves k (p.before k (omega (arith, q.within))) (q.before k h);
        fails = λ h. ⊎_elim (λ (e : b ≡ a). not-half 0 (ap (half_ok size vertices most list 0) e ∙ p.fails (omega arith))) (λ (l : b < a). not-half 1 (q.fails l)) (same-or-below q.within);
      }
    where
      not-half : (half : ℕ) → half_ok size vertices most list half b ≡ false → ok b ≡ false
      not-half half e = ⊎_elim (λ (t : ok b ≡ true). never (to-half half b t) e) (λ (t : ok b ≡ false). t) (split (ok b))

  -- ---- no more entries are good than there are vertices
  named-once : (n : ℕ) → ok n ≡ true → count (named size list (suc n)) vertices ≡ count (named size list n) vertices + 1
  unfolding named entry_ok
  named-once n e =
      count-join (named size list (suc n)) (named size list n) (λ u. eqb w u) vertices (λ u h. go (named size list n u) (ℕ_discrete w u) refl)
      ∙ ap (λ (x : ℕ). count (named size list n) vertices + x) (one-count w vertices (ltb-true w vertices (and_both (ltb w vertices) (allows most (distance_at size list n)) parts.0).0))
    where
      w : ℕ
      w = vertex_in size list n

      parts : ((ltb w vertices && allows most (distance_at size list n)) ≡ true) × (not (named size list n w) ≡ true)
      parts = and_both (ltb w vertices && allows most (distance_at size list n)) (not (named size list n w)) e

      go : {u : ℕ} (b : Bool) → Dec (w ≡ u) → named size list n u ≡ b → one (b || eqb w u) ≡ one b + one (eqb w u)
      go b (no d) q = rw (ne_eqb w _ d) (last b)
        where
          last : (b : Bool) → one (b || false) ≡ one b + 0
          last true = refl
          last false = refl
      go {u} true (yes d) q = never parts.1 (ap (λ (x : Bool). not x) (ap (named size list n) d ∙ q))
      go {u} false (yes d) q = sym (zero-add (one (eqb w u)))

  named-all : (n : ℕ) → ((k : ℕ) → k < n → ok k ≡ true) → count (named size list n) vertices ≡ n
  unfolding named
  named-all zero h = none-count (named size list zero) vertices (λ u l. refl)
  named-all (suc n) h =
      named-once n (h n (omega arith)) ∙ ap (λ (x : ℕ). x + 1) (named-all n (λ k l. h k (omega arith))) ∙ add-one n

  pub good-few : (n : ℕ) → ((k : ℕ) → k < n → ok k ≡ true) → n ≤ vertices
  good-few n h = omega (arith, named-all n h, count_most (named size list n) vertices)

-- ---- the first that fails is the one that is refused
module _ (number : ℕ) (some : 0 < number) (ok : ℕ → Bool) where
  scan-past : (m n i : ℕ) → ((k : ℕ) → i ≤ k → k < i + m → ok k ≡ true) → first_from (refusing number ok) (m + n) i ≡ first_from (refusing number ok) n (i + m)
  scan-past zero n i h =
      let e : 0 + n ≡ n = omega arith in
      let k : i + 0 ≡ i = omega arith in
      rw (e, k)
  scan-past (suc m) n i h =
      let k : i + 1 + m ≡ i + suc m = omega arith in
      scan_step number ok (suc m + n) (m + n) i (omega arith) (h i (omega arith) (omega arith))
      ∙ scan-past m n (i + 1) (λ j a b. h j (omega arith) (omega arith))
      ∙ ap (first_from (refusing number ok) n) k

  module _ (n i : ℕ) (f : First ok n i) where
    past : first_bad number ok n ≡ first_from (refusing number ok) (n - i) i
    unfolding first_bad
    past =
        let e : n ≡ i + (n - i) = omega (arith, f.within) in
        let z : 0 + i ≡ i = omega arith in
        ap (λ (x : ℕ). first_from (refusing number ok) x 0) e
        ∙ scan-past i (n - i) 0 (λ k a b. f.before k (omega arith))
        ∙ ap (first_from (refusing number ok) (n - i)) z

    pub first-refused : i < n → record { number = number; place = i } ≡ first_bad number ok n
    first-refused h = sym (past ∙ scan-stop number ok (n - i) (n - i - 1) i (omega arith) some (f.fails h))

    pub none-refused : n ≤ i → fine ≡ first_bad number ok n
    none-refused h = sym (past ∙ scan-end number ok (n - i) i (omega arith))

-- ---- there is a first
pub first-is : (ok : ℕ → Bool) (n : ℕ) → (i : ℕ) × First ok n i
first-is ok zero = (0, record { within = omega arith; before = λ k h. absurd (omega arith); fails = λ h. absurd (omega arith) })
first-is ok (suc n) = go (first-is ok n)
  where
    go : (i : ℕ) × First ok n i → (i : ℕ) × First ok (suc n) i
    go (i, f) = ⊎_elim (λ (e : i ≡ n). last e) (λ (l : i < n). (i, record { within = omega arith; before = f.before; fails = λ _. f.fails l })) (same-or-below f.within)
      where
        last : i ≡ n → (j : ℕ) × First ok (suc n) j
        last e =
            ⊎_elim (λ (t : ok n ≡ true). (suc n, record { within = omega arith; before = below_suc {P = λ k. ok k ≡ true} n (λ k h. f.before k (omega arith)) t; fails = λ h. absurd (omega arith) }))
            (λ (t : ok n ≡ false). (n, record { within = omega arith; before = λ k h. f.before k (omega arith); fails = λ _. t }))
            (split (ok n))

-- ---- an answer that is right with the number 21 is right with every number
pub other-number : {T : Type 0} (number : ℕ) → 0 < number → (ok : ℕ → Bool) (n : ℕ) (r : Result T ℕ) → told 21 r ≡ first_bad 21 ok n → told number r ≡ first_bad number ok n
unfolding told
other-number number some ok n r e = go (first-is ok n) r e
  where
    go : {U : Type 0} → (i : ℕ) × First ok n i → (r : Result U ℕ) → told 21 r ≡ first_bad 21 ok n → told number r ≡ first_bad number ok n
    go (i, f) (Ok _) e =
        ⊎_elim (λ (h : n ≤ i). none-refused number some ok n i f h)
        (λ (h : i < n). absurd (let z : ◌≡◌ {A = ℕ} 0 21 = ap (λ (x : Refusal). x.number) (e ∙ sym (first-refused 21 (omega arith) ok n i f h)) in let y : ⊥ = omega arith in y))
        (le-or-lt n i)
    go (i, f) (Err p) e =
        ⊎_elim (λ (h : n ≤ i). absurd (let z : ◌≡◌ {A = ℕ} 21 0 = ap (λ (x : Refusal). x.number) (e ∙ sym (none-refused 21 (omega arith) ok n i f h)) in let y : ⊥ = omega arith in y))
        (λ (h : i < n). ap (λ (x : ℕ). record { number = number; place = x }) (ap (λ (x : Refusal). x.place) (e ∙ sym (first-refused 21 (omega arith) ok n i f h))) ∙ first-refused number some ok n i f h)
        (le-or-lt n i)
