-- A short row: when all that are held have been met, and then the new ones that stay, all records have been passed. Assumes nothing.
use mathlib.Core.Path.{◌≡◌, refl, sym, ap, subst, fun_ext, ◌∙◌}
use mathlib.Core.Logic.{◌≢◌}
use mathlib.Core.Bool.{Bool, true, false, not, cond, ◌&&◌}
use mathlib.Core.List.{List}
use Prim.Native.Nat.{ℕ, zero, suc, ◌+◌, ◌-◌, ◌≤◌, ◌<◌}
use native.Mathlib.Numerals.{add-one}
use native.Mathlib.Omega.{arith}
use lib.Dec.{eqb, ltb}
use lib.ListN.{length, get_or, set}
use lib.Seq.{get_or-set_same, get_or-set_other}
use borrow.Author.Tests.{eq-eqb, ne_eqb, le-ltb, eqb-true}
use Rattle.journeys.specs.Counting as counting
use Rattle.journeys.specs.Counting.{count}
use Rattle.journeys.proofs.Tests.{Test, same, other, test, never, and_both, and-true, and_left, cond-true, cond-false}
use Rattle.journeys.proofs.Counting.{count-grows}
use Rattle.passing.specs.Row.{Row}
use Rattle.worktable.specs.Map.{Entry, absent, known, Map, touched, spent, swept, remaining_of, one}
use Rattle.worktable.specs.Table.{map_of, PassedIs}
use Rattle.worktable.specs.declared.Table.{Table}
use Rattle.worktable.specs.declared.Passed.{Passed}
use Rattle.worktable.proofs.MapLaws.{spent-held}
use Rattle.meeting.specs.Passing.{missing, goes, along, meets, passed, left, leaving, Enough}
use Rattle.meeting.proofs.Entries.{missing-absent, absent-missing, held-missing, left-absent, left-known, met-left}
use Rattle.meeting.proofs.Along.{goes-along, along-id, along-same, one_more, some_left}
use Rattle.blocks.specs.Block.{adds_if, Newcomers}
use Rattle.blocks.specs.Lack.{is_new}
use Rattle.blocks.proofs.Chances.{overs, overs-most, overs-here, leaving-here, row-over, lasts_on}
use Rattle.surveys.proofs.TouchThenSweep.{met-swept, touch-missing, same-until}
use Rattle.short.specs.ShortRow.{keeps, lasting, comes_to, Marked}

not-false : (b : Bool) → not b ≡ true → b ≡ false
not-false true h = absurd (let z : ◌≡◌ {A = ℕ} 0 1 = cc in omega arith)
not-false false h = refl

not-true : (b : Bool) → not b ≡ false → b ≡ true
not-true true h = refl
not-true false h = absurd (let z : ◌≡◌ {A = ℕ} 0 1 = cc in omega arith)

-- a mark says what it was set to
pub mark-said : (b : Bool) → not (eqb (counting.one b) 0) ≡ b
mark-said true = refl
mark-said false = refl

pub mark-new : (b : Bool) → counting.one b ≢ 0 → b ≡ true
mark-new true h = refl
mark-new false h = absurd (h refl)

-- what is told of an entry says whether there is one
pub told-missing : (D : ℕ) (t : Table) (b : List ℕ) (u : ℕ) (e : Entry) (p : Passed) → PassedIs D t b u e p → is_new p ≡ missing e
unfolding PassedIs is_new
told-missing D t b u e Passed.Absent h = sym (absent-missing e h)
told-missing D t b u e Passed.Kept h = sym (held-missing e h.0)
told-missing D t b u e (Passed.Spent s) h = sym (held-missing e (spent-held D h.1))

-- ---- one vertex
module _ (R : Row) where
  keeps-none : (j : ℕ) → keeps R j absent ≡ absent
  unfolding touched swept spent
  keeps-none j = refl

  keeps-left : (i d : ℕ) (e : Entry) → left d e ≤ suc (left d (keeps R i e))
  unfolding left missing
  keeps-left i d absent = omega (arith, ap (left d) (keeps-none i))
  keeps-left i d (known x s r) = subst (λ (y : Entry). r ≤ suc (left d y)) (met-swept R.allowed (R.offer i) d (known x s r) refl) (met-left R.allowed (R.offer i) d (known x s r))

module _ (R : Row) (u d : ℕ) where
  absent-along : (j : ℕ) → along R.from (keeps R) j u absent ≡ absent
  absent-along j = along-id R.from (keeps R) u absent (λ i q. keeps-none R i) j

  -- as long as something remains, an entry is there
  met-there : (e : Entry) → missing e ≡ false → (j : ℕ) → leaving R u j < left d e → missing (along R.from (meets R) j u e) ≡ false
  met-there e h j l = ap missing (same-until R u d e h j l) ∙ touch-missing R u d e j ∙ h

  held-along : (e : Entry) → missing e ≡ false → (j : ℕ) → leaving R u j ≤ left d e → along R.from (keeps R) j u e ≡ along R.from (meets R) j u e
  unfolding along count
  held-along e h zero l = refl
  held-along e h (suc j) l = go (eqb (R.from j) u) l (λ q. held-along e h j q)
    where
      go : (b : Bool) → leaving R u j + cond b 1 0 ≤ left d e → (leaving R u j ≤ left d e → along R.from (keeps R) j u e ≡ along R.from (meets R) j u e)
          → cond b (keeps R j (along R.from (keeps R) j u e)) (along R.from (keeps R) j u e)
          ≡ cond b (meets R j (along R.from (meets R) j u e)) (along R.from (meets R) j u e)
      go true q ih = ap (keeps R j) (ih (omega arith)) ∙ sym (met-swept R.allowed (R.offer j) (R.departing (R.from j)) (along R.from (meets R) j u e) (met-there e h j (omega arith)))
      go false q ih = ih (omega arith)

  -- who is new when a record comes was new before the row
  new-along : (e : Entry) (j : ℕ) → leaving R u j < left d e → missing (along R.from (keeps R) j u e) ≡ missing e
  unfolding missing
  new-along absent j l = ap missing (absent-along j)
  new-along (known x s r) j l = ap missing (held-along (known x s r) refl j (omega arith)) ∙ met-there (known x s r) refl j l

-- ---- the row
module _ (R : Row) (n : ℕ) (m : Map) (enough : Enough R n m) where
  pub still-new : (j : ℕ) → j < n → {M : Map} {u : ℕ} → M ≡ goes R.from (keeps R) j m → u ≡ R.from j → missing (M u) ≡ missing (m (R.from j))
  still-new j l {M} {u} p q =
      rw (p, q, goes-along R.from (keeps R) j m (R.from j))
      (new-along R (R.from j) (R.departing (R.from j)) (m (R.from j)) j (omega (arith, one_more R.from n j l, enough (R.from j))))

  -- something remains to who is held when its record comes
  pub still-some : (j : ℕ) → j < n → {M : Map} {u : ℕ} → M ≡ goes R.from (keeps R) j m → u ≡ R.from j → M u ≢ absent → 0 < remaining_of (M u)
  still-some j l {M} {u} p q h =
      let e : M u ≡ along R.from (keeps R) j (R.from j) (m (R.from j)) = ap (λ (k : Map). k u) p ∙ ap (goes R.from (keeps R) j m) q ∙ goes-along R.from (keeps R) j m (R.from j) in
      let d = R.departing (R.from j) in
      omega (
        arith,
        some_left R.from (keeps R) d n j (λ i q x. keeps-left R i d x) (m (R.from j)) (enough (R.from j)) l,
        ap (left d) e,
        left-known d (M u) h,
      )

  abbrev on : ℕ → Bool
  on = comes_to R n m

  new-done : (u : ℕ) → m u ≡ absent → along R.from (adds_if R on) n u absent ≡ along R.from (meets R) n u absent
  new-done u z = go (lasting R n u) refl
    where
      on-here : (b : Bool) → lasting R n u ≡ b → (j : ℕ) → R.from j ≡ u → comes_to R n m (R.from j) ≡ b
      on-here true t j q = ap (comes_to R n m) q ∙ and-true (absent-missing (m u) z) t
      on-here false t j q = ap (comes_to R n m) q ∙ ap (λ (b : Bool). missing (m u) && b) t ∙ none (missing (m u))
        where
          none : (b : Bool) → (b && false) ≡ false
          none true = refl
          none false = refl

      go : (b : Bool) → lasting R n u ≡ b → along R.from (adds_if R (comes_to R n m)) n u absent ≡ along R.from (meets R) n u absent
      go true t = along-same R.from (adds_if R (comes_to R n m)) (meets R) u (λ j q x. cond-true (meets R j x) x (on-here true t j q)) absent n
      go false t =
          along-id R.from (adds_if R (comes_to R n m)) u absent (λ j q. cond-false (meets R j absent) absent (on-here false t j q)) n
          ∙ sym (missing-absent (along R.from (meets R) n u absent) (not-true (missing (along R.from (meets R) n u absent)) t))

  held-done : (u : ℕ) (x : Entry) → missing (m u) ≡ false → along R.from (adds_if R on) n u x ≡ x
  held-done u x h = along-id R.from (adds_if R on) u x (λ j q. cond-false (meets R j x) x (ap (comes_to R n m) q ∙ and_left (lasting R n u) h)) n

  entry_done : (u : ℕ) (e : Entry) → m u ≡ e → along R.from (adds_if R on) n u (along R.from (keeps R) n u e) ≡ along R.from (meets R) n u e
  unfolding missing
  entry_done u absent z = ap (along R.from (adds_if R on) n u) (absent-along R u 0 n) ∙ new-done u z
  entry_done u (known x s r) z =
      held-done u (along R.from (keeps R) n u (known x s r)) (ap missing z)
      ∙ held-along R u (R.departing u) (known x s r) refl n (omega (arith, enough u, ap (left (R.departing u)) z))

  -- All records have been passed.
  pub row_done : {M : Map} → M ≡ goes R.from (keeps R) n m → goes R.from (adds_if R on) n M ≡ passed R n m
  row_done p =
      ap (goes R.from (adds_if R on) n) p
      ∙ fun_ext (λ u.
      goes-along R.from (adds_if R on) n (goes R.from (keeps R) n m) u
      ∙ ap (along R.from (adds_if R on) n u) (goes-along R.from (keeps R) n m u)
      ∙ entry_done u (m u) refl
      ∙ sym (goes-along R.from (meets R) n m u))

  pub new-few : (u : ℕ) → missing (m u) ≡ true → leaving R u n ≤ R.departing u
  new-few u h = omega (arith, enough u, left-absent (R.departing u) (m u) (missing-absent (m u) h))

  -- Who stays is not held when the additions begin.
  pub row-news : {M : Map} → M ≡ goes R.from (keeps R) n m → Newcomers R n on M
  row-news {M} p u both =
      let a = and_both (missing (m u)) (lasting R n u) both in
      let z = missing-absent (m u) a.0 in (
        ap (λ (k : Map). k u) p ∙ goes-along R.from (keeps R) n m u ∙ ap (along R.from (keeps R) n u) z ∙ absent-along R u 0 n,
        new-few u a.0,
        lasts_on R u n (new-few u a.0) (not-false (missing (along R.from (meets R) n u absent)) a.1),
      )

-- ---- the marks
pub mark-next : (R : Row) (m : Map) (j : ℕ) (s : List ℕ) (x : ℕ) → j < length s → x ≡ counting.one (missing (m (R.from j))) → Marked R j m s → Marked R (j + 1) m (set s j x)
mark-next R m j s x h e marked k l = go (eqb j k) (test j k)
  where
    go : (b : Bool) → Test j k b → get_or (set s j x) k 0 ≡ counting.one (missing (m (R.from k)))
    go true (same q) = ap (λ (i : ℕ). get_or (set s j x) i 0) (sym q) ∙ get_or-set_same s j x 0 h ∙ e ∙ ap (λ (i : ℕ). counting.one (missing (m (R.from i)))) q
    go false (other q) = get_or-set_other s j k x 0 (λ z. q (sym z)) ∙ marked k (omega (arith, q))

-- ---- whether a new vertex stays
module _ (R : Row) (u : ℕ) where
  less : (a b : Bool) → counting.one (a && b) ≤ counting.one a
  less true true = omega arith
  less true false = omega arith
  less false b = omega arith

  -- behind a record the offers above D grow no more than the records
  gap : (i k : ℕ) → overs R u (k + i) + leaving R u i ≤ leaving R u (k + i) + overs R u i
  unfolding overs count
  gap i zero = let e : 0 + i ≡ i = omega arith in rw e (omega arith)
  gap i (suc k) = let e : suc k + i ≡ suc (k + i) = omega arith in rw e (omega (arith, gap i k, less (eqb (R.from (k + i)) u) (ltb R.allowed (R.offer (k + i)))))

  pub some-leave : (n j : ℕ) → j < n → u ≡ R.from j → 0 < leaving R u n
  some-leave n j l q = omega (arith, count-grows (λ i. eqb (R.from i) u) (suc j) n l, leaving-here R u j (sym q))

  -- an offer within D tells that it does
  pub near-stays : (n j : ℕ) → j < n → u ≡ R.from j → {x : ℕ} → x ≡ R.offer j → x ≤ R.allowed → leaving R u n ≤ R.departing u → true ≡ lasting R n u
  near-stays n j l q {x} o h most =
      let i : (n - suc j) + suc j ≡ n = omega arith in
      let g = subst (λ (k : ℕ). overs R u k + leaving R u (suc j) ≤ leaving R u k + overs R u (suc j)) i (gap (suc j) (n - suc j)) in
      let off : counting.one (ltb R.allowed (R.offer j)) ≡ 0 = ap counting.one (le-ltb R.allowed (R.offer j) (omega (arith, o, h))) in
      let few : overs R u n < R.departing u = omega (arith, g, overs-here R u j (sym q), leaving-here R u j (sym q), overs-most R u j, off, most) in
      sym (ap not (row-over R u n most (some-leave n j l q) ∙ ne_eqb (R.departing u - overs R u n) 0 (λ z. let y : ⊥ = omega arith in y)))

  -- so does what is due less the offers above D
  pub hope-left : (n : ℕ) (x : ℕ) → leaving R u n ≤ R.departing u → 0 < leaving R u n → x + overs R u n ≡ R.departing u → not (eqb x 0) ≡ lasting R n u
  hope-left n x most some e = ap (λ (k : ℕ). not (eqb k 0)) (let z : x ≡ R.departing u - overs R u n = omega arith in z) ∙ ap not (sym (row-over R u n most some))

  pub overs-next : (i r : ℕ) → r ≡ counting.one (eqb (R.from i) u && ltb R.allowed (R.offer i)) → overs R u i + r ≡ overs R u (i + 1)
  unfolding overs count
  overs-next i r e = rw (add-one i, e)

  pub overs-within : (i n : ℕ) → i < n → leaving R u n ≤ R.departing u → overs R u (i + 1) ≤ R.departing u
  overs-within i n l most = omega (arith, overs-most R u (i + 1), count-grows (λ k. eqb (R.from k) u) (i + 1) n (omega arith))
