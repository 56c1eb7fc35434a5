-- One record more of a block: something remains to a vertex that stays, what is counted, and who finds a slot. Assumes nothing.
use mathlib.Core.Path.{◌≡◌, refl, sym, ap, ◌∙◌, subst}
use mathlib.Core.Logic.{◌≢◌, ⊎_elim}
use mathlib.Core.Bool.{Bool, true, false, cond, ◌&&◌}
use mathlib.Core.List.{List}
use Prim.Native.Nat.{ℕ, suc, ◌+◌, ◌-◌, ◌/◌, ◌%◌, ◌≤◌, ◌<◌}
use native.Mathlib.Numerals.{add-one}
use native.Mathlib.Omega.{arith}
use lib.Dec.{eqb}
use borrow.Author.Tests.{eq-eqb, eqb-true}
use Rattle.journeys.proofs.Tests.{Test, same, other, test, le-or-lt, never}
use lib.Seq.{get_or-set_same, get_or-set_other}
use lib.ListN.{length, get_or, set, replicate, length-replicate, get_or-replicate}
use Rattle.passing.specs.Row.{Row}
use Rattle.worktable.specs.Map.{Entry, absent, Map, put, touched, spent, one, size}
use Rattle.worktable.specs.Table.{map_of, Gives, PassedIs}
use Rattle.worktable.specs.declared.Table.{Table}
use Rattle.worktable.specs.declared.Passed.{Passed}
use Rattle.worktable.proofs.MapLaws.{put_id, touched-absent, absent-touched, spent-held}
use Rattle.worktable.proofs.PassLaws.{passed-absent}
use Rattle.meeting.specs.Passing.{missing, met, goes, meets, left, leaving}
use Rattle.meeting.specs.Answer.{Leads, ArrivedIs}
use Rattle.std.specs.Prelude.{Option, Some, None}
use Rattle.meeting.proofs.Entries.{met-left, left-absent, one-absent}
use Rattle.meeting.proofs.Sizes.{put-size}
use Rattle.meeting.proofs.Along.{goes-along, some_left, one_more}
use Rattle.blocks.specs.Block.{in_block, chance, noting, adds_if, Newcomers, News}
use Rattle.blocks.specs.Lack.{is_new}
use Rattle.blocks.proofs.BlockOfStep.{added-one}

module _ (R : Row) (n : ℕ) (m : Map) (j : ℕ) (l : j < n) {M : Map} {u : ℕ} (q : u ≡ R.from j) where
  pub added-left : (on : ℕ → Bool) → Newcomers R n on m → M ≡ goes R.from (adds_if R on) j m → on u ≡ true → 0 < left (R.departing u) (M u)
  added-left on news p h =
      rw (p, q, goes-along R.from (adds_if R on) j m (R.from j))
      (some_left R.from (adds_if R on) (R.departing (R.from j)) n j (λ i e x. taken (on (R.from i)) i e x) (m (R.from j)) enough l)
    where
      firsts : {A B C : Type 0} → A × B × C → A × B
      firsts x = (x.0, x.1)

      w : (m (R.from j) ≡ absent) × (leaving R (R.from j) n ≤ R.departing (R.from j))
      w = firsts (news (R.from j) (ap on (sym q) ∙ h))

      enough : leaving R (R.from j) n ≤ left (R.departing (R.from j)) (m (R.from j))
      enough = omega (arith, w.1, left-absent (R.departing (R.from j)) (m (R.from j)) w.0)

      taken : (b : Bool) (i : ℕ) → R.from i ≡ R.from j → (x : Entry)
          → left (R.departing (R.from j)) x ≤ suc (left (R.departing (R.from j)) (cond b (meets R i x) x))
      taken true i e x = subst (λ (v : ℕ). left (R.departing (R.from j)) x ≤ suc (left (R.departing (R.from j)) (met R.allowed (R.offer i) (R.departing v) x))) (sym e) (met-left R.allowed (R.offer i) (R.departing (R.from j)) x)
      taken false i e x = omega arith

  -- and it has an entry after the record
  pub added-entry : (on : ℕ → Bool) → Newcomers R n on m → M ≡ goes R.from (adds_if R on) j m → {x : ℕ} → x ≡ R.offer j → on u ≡ true → one (met R.allowed x (R.departing u) (M u)) ≡ 1
  added-entry on news p {x} o h =
      rw (o, p, q, goes-along R.from (adds_if R on) j m (R.from j))
      (added-one R n on m news (R.from j) (ap on (sym q) ∙ h) j l refl)

-- an offer matters only to a vertex of the block
pub in-offer : {A : Type 0} (block u : ℕ) {x y : ℕ} (f : ℕ → A) (z : A) → (u / 2048 ≡ block → x ≡ y) → cond (in_block block u) (f x) z ≡ cond (in_block block u) (f y) z
in-offer block u {x} {y} f z h = go (eqb (u / 2048) block) (test (u / 2048) block)
  where
    go : (b : Bool) → Test (u / 2048) block b → cond b (f x) z ≡ cond b (f y) z
    go true (same q) = ap f (h q)
    go false (other q) = refl

pub in-offer-and : {A : Type 0} (block u : ℕ) {x y : ℕ} (f : ℕ → A) (z : A) (k : Bool) → (u / 2048 ≡ block → x ≡ y) → cond (in_block block u && k) (f x) z ≡ cond (in_block block u && k) (f y) z
in-offer-and block u {x} {y} f z k h = go (eqb (u / 2048) block) (test (u / 2048) block) k
  where
    go : (b : Bool) → Test (u / 2048) block b → (k : Bool) → cond (b && k) (f x) z ≡ cond (b && k) (f y) z
    go true (same q) true = ap f (h q)
    go true (same q) false = refl
    go false (other q) k = refl

-- the same of a vertex that is known to be of the block
pub in-block-and : {A : Type 0} (block u : ℕ) {x y : ℕ} (f : ℕ → A) (z : A) (k : Bool) → u / 2048 ≡ block → x ≡ y → cond k (f x) z ≡ cond (in_block block u && k) (f y) z
in-block-and block u {x} {y} f z k h e = ap (λ (q : ℕ). cond k (f q) z) e ∙ ap (λ (b : Bool). cond (b && k) (f y) z) (sym (eq-eqb (u / 2048) block h))

-- what one record more counts
pub noting-step : (R : Row) (block : ℕ) (m : Map) (j k : ℕ) {u x c y : ℕ} → u ≡ R.from j → x ≡ R.offer j → c ≡ noting R block m j k
    → y ≡ cond (in_block block u && (missing (m u) && eqb (u % 2048) k)) (chance R.allowed x (R.departing u) c) c → y ≡ noting R block m (j + 1) k
unfolding noting
noting-step R block m j k {u} {x} {c} {y} q o p r =
    r ∙ ap (λ (v : ℕ). cond (in_block block u && (missing (m u) && eqb (u % 2048) k)) (chance R.allowed x (R.departing u) v) v) p
    ∙ ap (λ (b : ℕ). cond (in_block block u && (missing (m u) && eqb (u % 2048) k)) (chance R.allowed b (R.departing u) (noting R block m j k)) (noting R block m j k)) o
    ∙ ap (λ (v : ℕ). cond (in_block block v && (missing (m v) && eqb (v % 2048) k)) (chance R.allowed (R.offer j) (R.departing v) (noting R block m j k)) (noting R block m j k)) q
    ∙ ap (λ (i : ℕ). noting R block m i k) (sym (add-one j))

-- a new vertex of which a record comes has records
pub new-has : (R : Row) (n : ℕ) (m : Map) (j : ℕ) → j < n → {u : ℕ} → u ≡ R.from j → (m u ≡ absent → leaving R u n ≤ R.departing u) → m u ≡ absent → 0 < R.departing u
new-has R n m j l {u} q fresh z = omega (arith, fresh z, subst (λ (v : ℕ). suc (leaving R v j) ≤ leaving R v n) (sym q) (one_more R.from n j l))

pub zero-length : {s : List ℕ} → s ≡ replicate 2048 0 → length s ≡ 2048
zero-length e = ap length e ∙ length-replicate {A = ℕ} 2048 0

pub news-at : (R : Row) (n block : ℕ) (s : List ℕ) {k m : Map} → k ≡ m → News R n block s m → News R n block s k
news-at R n block s e h = subst (News R n block s) (sym e) h

-- the same answer, of a table with as many slots and of an equal map
pub ends_at : (t r : Table) (c : List ℕ) → r.room ≡ t.room → (x : Option Table) {m k : Map} → m ≡ k → ArrivedIs r c m x → ArrivedIs t c k x
unfolding ArrivedIs
ends_at t r c q (Some z) {m} {k} e h =
    (subst (Leads t z c) e (record { holds = h.0.holds; room = h.0.room ∙ q }), omega (arith, ap size e, h.1))
ends_at t r c q None {m} {k} e h = omega (arith, ap size e, h)

pub zero-counter : (s : List ℕ) → s ≡ replicate 2048 0 → (k : ℕ) → k < 2048 → get_or s k 0 ≡ 0
zero-counter s e k h = ap (λ (l : List ℕ). get_or l k 0) e ∙ get_or-replicate 2048 k 0 0 h

-- one counter is written by a function of what it was
pub counter-set : (s : List ℕ) (i k x : ℕ) (f : ℕ → ℕ) → length s ≡ 2048 → i < 2048 → x ≡ f (get_or s i 0) → get_or (set s i x) k 0 ≡ cond (eqb i k) (f (get_or s k 0)) (get_or s k 0)
counter-set s i k x f n h e = go (eqb i k) (test i k)
  where
    go : (b : Bool) → Test i k b → get_or (set s i x) k 0 ≡ cond b (f (get_or s k 0)) (get_or s k 0)
    go true (same q) = ap (λ (z : ℕ). get_or (set s i x) z 0) (sym q) ∙ get_or-set_same s i x 0 (rw n h) ∙ e ∙ ap (λ (z : ℕ). f (get_or s z 0)) q
    go false (other q) = get_or-set_other s i k x 0 (λ z. q (sym z))

pub some_number : (n : ℕ) → n ≢ 0 → 1 ≤ n
some_number n h = ⊎_elim (λ (q : n ≤ 0). absurd (h (omega arith))) (λ (q : 0 < n). q) (le-or-lt n 0)

pub absent-kept : (D : ℕ) {e : Entry} → e ≡ absent → spent D e ≡ false
unfolding spent
absent-kept D h = rw h

-- ---- slots
is-new : (p : Passed) → is_new p ≡ true → p ≡ Passed.Absent
unfolding is_new
is-new Passed.Absent h = refl
is-new Passed.Kept h = absurd (let z : ◌≡◌ {A = ℕ} 0 1 = cc in omega arith)
is-new (Passed.Spent s) h = absurd (let z : ◌≡◌ {A = ℕ} 0 1 = cc in omega arith)

told-new : (D : ℕ) (t : Table) (b : List ℕ) (u : ℕ) (e : Entry) (p : Passed) → PassedIs D t b u e p → e ≡ absent → is_new p ≡ true
unfolding PassedIs is_new
told-new D t b u e Passed.Absent h z = refl
told-new D t b u e Passed.Kept h z = absurd (h.0 z)
told-new D t b u e (Passed.Spent s) h z = absurd (spent-held D h.1 z)

both : (a b : Bool) → (a && b) ≡ true → (a ≡ true) × (b ≡ true)
both true b h = (refl, h)
both false b h = absurd (let z : ◌≡◌ {A = ℕ} 0 1 = cc in omega arith)

neither : (a b : Bool) → (a && b) ≡ false → a ≡ true → b ≡ false
neither true b h k = h
neither false b h k = absurd (let z : ◌≡◌ {A = ℕ} 0 1 = cc in omega arith)

-- u has been passed, and the code asks for a slot
module _ (D : ℕ) (t : Table) (b : List ℕ) (u x : ℕ) {c : List ℕ} (g : Gives t t b c (put (map_of t b) u (touched x (map_of t b u)))) where
  same_map : map_of t b u ≡ absent → map_of t c ≡ map_of t b
  same_map a = g.holds.map ∙ put_id (map_of t b) u (touched x (map_of t b u)) (a ∙ sym (absent-touched x a))

  pub has-slot : (p : Passed) → PassedIs D t c u (touched x (map_of t b u)) p → (is_new p && eqb (t.room - size (map_of t c)) 0) ≡ false → map_of t b u ≡ absent → size (map_of t b) < t.room
  has-slot p h k a =
      let n = told-new D t c u (touched x (map_of t b u)) p h (absent-touched x a) in
      let f : t.room - size (map_of t c) ≢ 0 = λ e. never (eq-eqb (t.room - size (map_of t c)) 0 e) (neither (is_new p) (eqb (t.room - size (map_of t c)) 0) k n) in
      subst (λ (m : Map). size m < t.room) (same_map a) (some f)
    where
      some : t.room - size (map_of t c) ≢ 0 → size (map_of t c) < t.room
      some f = ⊎_elim (λ (q : t.room ≤ size (map_of t c)). absurd (f (omega arith))) (λ (q : size (map_of t c) < t.room). q) (le-or-lt t.room (size (map_of t c)))

no-slot-here : (D : ℕ) (t : Table) (b : List ℕ) (u x d : ℕ) {c : List ℕ} → Gives t t b c (put (map_of t b) u (touched x (map_of t b u))) → (p : Passed) → PassedIs D t c u (touched x (map_of t b u)) p → u < 65536
    → (is_new p && eqb (t.room - size (map_of t c)) 0) ≡ true → one (met D x d (map_of t b u)) ≡ 1 → t.room < size (put (map_of t b) u (met D x d (map_of t b u)))
no-slot-here D t b u x d {c} g p h l k o =
    let w = both (is_new p) (eqb (t.room - size (map_of t c)) 0) k in
    let a : map_of t b u ≡ absent = touched-absent x (map_of t b u) (passed-absent D t c u (touched x (map_of t b u)) h (is-new p w.0)) in
    let full : t.room - size (map_of t c) ≡ 0 = eqb-true (t.room - size (map_of t c)) 0 w.1 in
    omega (arith, full, ap size (same_map D t b u x g a), put-size (map_of t b) u (met D x d (map_of t b u)) l, o, one-absent (map_of t b u) a)

-- where no slot is free the new entry has no room
pub no_slot : (D : ℕ) (t : Table) (b : List ℕ) (u x d : ℕ) {c : List ℕ} → Gives t t b c (put (map_of t b) u (touched x (map_of t b u))) → (p : Passed) → PassedIs D t c u (touched x (map_of t b u)) p → u < 65536
    → (is_new p && eqb (t.room - size (map_of t c)) 0) ≡ true → one (met D x d (map_of t b u)) ≡ 1 → {e : Entry} → met D x d (map_of t b u) ≡ e → t.room < size (put (map_of t b) u e)
no_slot D t b u x d g p h l k o q = subst (λ (y : Entry). t.room < size (put (map_of t b) u y)) q (no-slot-here D t b u x d g p h l k o)
