-- What is known behind the records that the reader has passed, and what the next one makes of it. Assumes nothing.
use mathlib.Core.Path.{◌≡◌, refl, sym, ap, ◌∙◌, subst}
use mathlib.Core.Logic.{⊎_elim, ◌≢◌}
use mathlib.Core.Bool.{Bool, true, false, cond, not, ◌&&◌, ◌||◌}
use mathlib.Core.List.{List, [], ◌++◌, append-nil}
use Prim.Native.Nat.{ℕ, zero, suc, ◌+◌, ◌-◌, ◌*◌, ◌/◌, ◌≤◌, ◌<◌, zero-le}
use native.Mathlib.Numerals.{add-one}
use native.Mathlib.Omega.{arith}
use lib.Dec.{eqb, leb, ltb}
use lib.ListN.{length}
use borrow.Author.Tests.{eq-eqb, ne_eqb, le-ltb, le-leb, lt-leb, eqb-true, eqb-false, ltb-true}
use Rattle.journeys.specs.Counting.{count, joined}
use Rattle.journeys.specs.Bytes.{be32}
use Rattle.journeys.proofs.Tests.{split, and_both, and_right, le-or-lt, same-or-below}
use Rattle.job.specs.declared.Item.{Item}
use Rattle.job.specs.declared.Item.TheVariants.{Vertex, Walk, Hop, Query}
use Rattle.job.specs.declared.Job.{Job}
use Rattle.std.specs.Prelude.{Result, Ok, Err}
use Rattle.job.specs.Job.{told, question, job, faulty, kind_at, of_kind, most, sound, first_faulty, read_as, question_at, body, table_of}
use Rattle.job.specs.Steps.{item_of, ended_of, bodies, Laid, LaidOut}

-- the kind before, behind so many walks and hops
pub last_kind : ℕ → ℕ → ℕ
last_kind zero zero = 1
last_kind (suc w) zero = 2
last_kind zero (suc h) = 3
last_kind (suc w) (suc h) = 3

-- the table of a kind, as far as the first i records go
pub up_to : List ℕ → ℕ → ℕ → ℕ → List ℕ
up_to s kind size i = joined (λ j. cond (eqb (kind_at s j) kind) (body s size j) []) i

-- the first i of n records are sound: v vertices, then w walks, then h hops
pub record Passed (s : List ℕ) (n i v w h : ℕ) : Type 0 where
  pub all : i ≡ v + w + h
  pub left : first_faulty s n 0 ≡ first_faulty s (n - i) i
  pub ones : of_kind s 1 i ≡ v
  pub twos : of_kind s 2 i ≡ w
  pub threes : of_kind s 3 i ≡ h
  pub fours : of_kind s 4 i ≡ 0
  pub last : 0 < i → kind_at s (i - 1) ≡ last_kind w h
  pub few : (v ≤ 512) × (w ≤ 1024) × (h ≤ 1024)
  pub vertices : up_to s 1 12 i ≡ bodies s 12 0 v
  pub walks : up_to s 2 16 i ≡ bodies s 16 v w
  pub hops : up_to s 3 16 i ≡ bodies s 16 (v + w) h

pub none_passed : (s : List ℕ) (n : ℕ) → Passed s n 0 0 0 0
unfolding of_kind count up_to bodies joined
none_passed s n =
    record {
      all = omega arith;
      left = let e : n - 0 ≡ n = omega arith in rw e;
      ones = refl;
      twos = refl;
      threes = refl;
      fours = refl;
      last = λ h. absurd (omega arith);
      few = (omega arith, omega arith, omega arith);
      vertices = refl;
      walks = refl;
      hops = refl;
    }

-- ---- counts behind one record more
of-more : (s : List ℕ) (k i : ℕ) → of_kind s k (i + 1) ≡ of_kind s k i + cond (eqb (kind_at s i) k) 1 0
unfolding of_kind count
of-more s k i = rw add-one

pub of-same : (s : List ℕ) (k i : ℕ) → kind_at s i ≡ k → of_kind s k (i + 1) ≡ of_kind s k i + 1
of-same s k i e = of-more s k i ∙ ap (λ (t : Bool). of_kind s k i + cond t 1 0) (eq-eqb _ _ e)

pub of_other : (s : List ℕ) (k j i : ℕ) → kind_at s i ≡ j → j ≢ k → of_kind s k (i + 1) ≡ of_kind s k i
of_other s k j i e d = of-more s k i ∙ ap (λ (t : Bool). of_kind s k i + cond t 1 0) (ne_eqb _ _ (λ q. d (sym e ∙ q))) ∙ omega arith

-- ---- tables behind one record more
table_more : (s : List ℕ) (k size i : ℕ) → up_to s k size (i + 1) ≡ up_to s k size i ++ cond (eqb (kind_at s i) k) (body s size i) []
unfolding up_to joined
table_more s k size i = rw add-one

table_same : (s : List ℕ) (k size i : ℕ) → kind_at s i ≡ k → up_to s k size (i + 1) ≡ up_to s k size i ++ body s size i
table_same s k size i e =
    table_more s k size i ∙ ap (λ (t : Bool). up_to s k size i ++ cond t (body s size i) []) (eq-eqb _ _ e)

table-other : (s : List ℕ) (k j size i : ℕ) → kind_at s i ≡ j → j ≢ k → up_to s k size (i + 1) ≡ up_to s k size i
table-other s k j size i e d =
    table_more s k size i
    ∙ ap (λ (t : Bool). up_to s k size i ++ cond t (body s size i) []) (ne_eqb _ _ (λ q. d (sym e ∙ q)))
    ∙ append-nil _

table-all : (s : List ℕ) (k size i : ℕ) → length s / 20 ≡ i → table_of s k size ≡ up_to s k size i
unfolding table_of up_to
table-all s k size i q = rw q

bodies-more : (s : List ℕ) (size from count i : ℕ) → from + count ≡ i → bodies s size from (count + 1) ≡ bodies s size from count ++ body s size i
unfolding bodies joined
bodies-more s size from count i e = rw (add-one, e)

bodies-none : (s : List ℕ) (size from from' count : ℕ) → count ≡ 0 → bodies s size from count ≡ bodies s size from' count
unfolding bodies joined
bodies-none s size from from' count e = rw e

table-longer : (s : List ℕ) (k size from count i : ℕ) → kind_at s i ≡ k → from + count ≡ i → up_to s k size i ≡ bodies s size from count
    → up_to s k size (i + 1) ≡ bodies s size from (count + 1)
table-longer s k size from count i e q p =
    table_same s k size i e ∙ ap (λ (l : List ℕ). l ++ body s size i) p ∙ sym (bodies-more s size from count i q)

module _ (s : List ℕ) (n : ℕ) where
  -- the first faulty record, behind one that is sound, and at one that is not
  left-sound : (i : ℕ) → i < n → sound s i ≡ true → first_faulty s (n - i) i ≡ first_faulty s (n - (i + 1)) (i + 1)
  unfolding first_faulty
  left-sound i l e = let q : n - i ≡ suc (n - (i + 1)) = omega arith in rw q (rw e)

  left-faulty : (i : ℕ) → i < n → sound s i ≡ false → first_faulty s (n - i) i ≡ i
  unfolding first_faulty
  left-faulty i l e = let q : n - i ≡ suc (n - (i + 1)) = omega arith in rw q (rw e)

  left-none : (i : ℕ) → n ≤ i → first_faulty s (n - i) i ≡ i
  unfolding first_faulty
  left-none i l = let q : n - i ≡ 0 = omega arith in rw q

-- what a record of known kind says
sound-at : (s : List ℕ) (i k : ℕ) → kind_at s i ≡ k
    → sound s i ≡ leb (kind_at s (i - 1)) k && ltb (of_kind s k i) (most k) && (not (eqb k 1) || eqb (be32 s (20 * i + 16)) 0)
unfolding sound
sound-at s i k e = rw e

never-sound : (a c : Bool) → a && false && c ≡ false
never-sound true c = refl
never-sound false c = refl

sound-other : (s : List ℕ) (i k : ℕ) → kind_at s i ≡ k → k ≢ 1 → k ≢ 2 → k ≢ 3 → k ≢ 4 → sound s i ≡ false
unfolding most
sound-other s i k e a b c d =
    sound-at s i k e
    ∙ rw (ne_eqb k 1 a, ne_eqb k 2 b, ne_eqb k 3 c, ne_eqb k 4 d, le-ltb (of_kind s k i) 0 (omega arith)) (never-sound (leb (kind_at s (i - 1)) k) true)

-- a query is one too many behind a query, and any other kind is below it or unknown
after-query : (s : List ℕ) (i : ℕ) → kind_at s i ≡ 4 → of_kind s 4 (i + 1) ≡ 1 → sound s (i + 1) ≡ false
unfolding most
after-query s i e one =
    ⊎_elim (λ (t : eqb k 4 ≡ true). sound-at s (i + 1) 4 (eqb-true _ _ t) ∙ rw one (never-sound (leb (kind_at s (i + 1 - 1)) 4) true))
    (λ (t : eqb k 4 ≡ false). ⊎_elim (λ (l : k ≤ 4). low (eqb-false _ _ t) l) (λ (l : 4 < k). high l) (le-or-lt k 4))
    (split (eqb k 4))
  where
    k : ℕ
    k = kind_at s (i + 1)

    high : 4 < k → sound s (i + 1) ≡ false
    high l = sound-other s (i + 1) k refl (omega arith) (omega arith) (omega arith) (omega arith)

    low : k ≢ 4 → k ≤ 4 → sound s (i + 1) ≡ false
    low d l =
        let q : i + 1 - 1 ≡ i = omega arith in
        sound-at s (i + 1) k refl ∙ rw (q, e, lt-leb 4 k (omega arith))

first-test : (w h : ℕ) → leb (last_kind w h) 1 ≡ eqb (w + h) 0
unfolding last_kind
first-test zero zero = refl
first-test (suc w) zero = sym (ne_eqb (suc w + 0) 0 (omega arith))
first-test zero (suc h) = sym (ne_eqb (0 + suc h) 0 (omega arith))
first-test (suc w) (suc h) = sym (ne_eqb (suc w + suc h) 0 (omega arith))

second-test : (w h : ℕ) → leb (last_kind w h) 2 ≡ eqb h 0
unfolding last_kind
second-test zero zero = refl
second-test (suc w) zero = refl
second-test zero (suc h) = sym (ne_eqb (suc h) 0 (omega arith))
second-test (suc w) (suc h) = sym (ne_eqb (suc h) 0 (omega arith))

last-most : (w h : ℕ) → last_kind w h ≤ 3
unfolding last_kind
last-most zero zero = omega arith
last-most (suc w) zero = omega arith
last-most zero (suc h) = omega arith
last-most (suc w) (suc h) = omega arith

drop-true : (a b : Bool) → a && b && true ≡ a && b
drop-true true true = refl
drop-true true false = refl
drop-true false true = refl
drop-true false false = refl

-- what the next record is, and whether it is sound
pub data Next (s : List ℕ) (i v w h : ℕ) : Result Item ℕ → Type 0 where
  vertex : kind_at s i ≡ 1 → sound s i ≡ true → w + h ≡ 0 → v < 512 → Next s i v w h (Ok Vertex)
  walk : kind_at s i ≡ 2 → sound s i ≡ true → h ≡ 0 → w < 1024 → Next s i v w h (Ok Walk)
  hop : kind_at s i ≡ 3 → sound s i ≡ true → h < 1024 → Next s i v w h (Ok Hop)
  query : kind_at s i ≡ 4 → sound s i ≡ true → Next s i v w h (Ok Query)
  fault : sound s i ≡ false → Next s i v w h (Err i)

module _ {s : List ℕ} {n i v w h : ℕ} (P : Passed s n i v w h) where
  -- the kind before is that of the last table that has records
  rises : (k : ℕ) → kind_at s i ≡ k → 1 ≤ k → leb (kind_at s (i - 1)) k ≡ leb (last_kind w h) k
  unfolding last_kind
  rises k e l = ⊎_elim at_first further (same-or-below zero-le)
    where
      at_first : 0 ≡ i → leb (kind_at s (i - 1)) k ≡ leb (last_kind w h) k
      at_first q =
          let i0 : i - 1 ≡ i = omega arith in
          let w0 : w ≡ 0 = omega (arith, P.all) in
          let h0 : h ≡ 0 = omega (arith, P.all) in
          rw (i0, e, w0, h0, le-leb k k (omega arith), le-leb 1 k l)

      further : 0 < i → leb (kind_at s (i - 1)) k ≡ leb (last_kind w h) k
      further q = ap (λ (x : ℕ). leb x k) (P.last q)

  sound-1 : kind_at s i ≡ 1 → sound s i ≡ eqb (w + h) 0 && ltb v 512 && eqb (be32 s (20 * i + 16)) 0
  unfolding most
  sound-1 e = sound-at s i 1 e ∙ rw (rises 1 e (omega arith), first-test w h, P.ones)

  sound-2 : kind_at s i ≡ 2 → sound s i ≡ eqb h 0 && ltb w 1024
  unfolding most
  sound-2 e = sound-at s i 2 e ∙ rw (rises 2 e (omega arith), second-test w h, P.twos) (drop-true (eqb h 0) (ltb w 1024))

  sound-3 : kind_at s i ≡ 3 → sound s i ≡ ltb h 1024
  unfolding most
  sound-3 e =
      sound-at s i 3 e ∙ rw (rises 3 e (omega arith), le-leb (last_kind w h) 3 (last-most w h), P.threes) (drop-true true (ltb h 1024))

  sound-4 : kind_at s i ≡ 4 → sound s i ≡ true
  unfolding most
  sound-4 e = sound-at s i 4 e ∙ rw (rises 4 e (omega arith), le-leb (last_kind w h) 4 (omega (arith, last-most w h)), P.fours)

  -- the next item, by its kind
  item-1 : (t : Bool) → eqb (w + h) 0 && ltb v 512 && eqb (be32 s (20 * i + 16)) 0 ≡ t → kind_at s i ≡ 1 → Next s i v w h (cond t (Ok Vertex) (Err i))
  item-1 true q e =
      let p = and_both _ _ q in
      let r = and_both _ _ p.0 in
      vertex e (sound-1 e ∙ q) (eqb-true _ _ r.0) (ltb-true _ _ r.1)
  item-1 false q e = fault (sound-1 e ∙ q)

  item-2 : (t : Bool) → eqb h 0 && ltb w 1024 ≡ t → kind_at s i ≡ 2 → Next s i v w h (cond t (Ok Walk) (Err i))
  item-2 true q e = let p = and_both _ _ q in walk e (sound-2 e ∙ q) (eqb-true _ _ p.0) (ltb-true _ _ p.1)
  item-2 false q e = fault (sound-2 e ∙ q)

  item-3 : (t : Bool) → ltb h 1024 ≡ t → kind_at s i ≡ 3 → Next s i v w h (cond t (Ok Hop) (Err i))
  item-3 true q e = hop e (sound-3 e ∙ q) (ltb-true _ _ q)
  item-3 false q e = fault (sound-3 e ∙ q)

  pub next : Next s i v w h (item_of s i v w h)
  unfolding item_of
  next = by-1 (eqb (kind_at s i) 1) refl
    where
      by_4 : (kind_at s i ≢ 1) → (kind_at s i ≢ 2) → (kind_at s i ≢ 3) → (t : Bool) → eqb (kind_at s i) 4 ≡ t → Next s i v w h (cond t (Ok Query) (Err i))
      by_4 a b c true q = query (eqb-true _ _ q) (sound-4 (eqb-true _ _ q))
      by_4 a b c false q = fault (sound-other s i (kind_at s i) refl a b c (eqb-false _ _ q))

      by-3 : (kind_at s i ≢ 1) → (kind_at s i ≢ 2) → (t : Bool) → eqb (kind_at s i) 3 ≡ t
          → Next s i v w h (cond t (cond (ltb h 1024) (Ok Hop) (Err i)) (cond (eqb (kind_at s i) 4) (Ok Query) (Err i)))
      by-3 a b true q = item-3 _ refl (eqb-true _ _ q)
      by-3 a b false q = by_4 a b (eqb-false _ _ q) _ refl

      by_2 : (kind_at s i ≢ 1) → (t : Bool) → eqb (kind_at s i) 2 ≡ t
          → Next s i v w h (cond t (cond (eqb h 0 && ltb w 1024) (Ok Walk) (Err i)) (cond (eqb (kind_at s i) 3) (cond (ltb h 1024) (Ok Hop) (Err i)) (cond (eqb (kind_at s i) 4) (Ok Query) (Err i))))
      by_2 a true q = item-2 _ refl (eqb-true _ _ q)
      by_2 a false q = by-3 a (eqb-false _ _ q) _ refl

      by-1 : (t : Bool) → eqb (kind_at s i) 1 ≡ t
          → Next s i v w h (cond t (cond (eqb (w + h) 0 && ltb v 512 && eqb (be32 s (20 * i + 16)) 0) (Ok Vertex) (Err i)) (cond (eqb (kind_at s i) 2) (cond (eqb h 0 && ltb w 1024) (Ok Walk) (Err i)) (cond (eqb (kind_at s i) 3) (cond (ltb h 1024) (Ok Hop) (Err i)) (cond (eqb (kind_at s i) 4) (Ok Query) (Err i)))))
      by-1 true q = item-1 _ refl (eqb-true _ _ q)
      by-1 false q = by_2 (eqb-false _ _ q) _ refl

  pub next-as : (x : Result Item ℕ) → item_of s i v w h ≡ x → Next s i v w h x
  next-as x e = subst (λ (y : Result Item ℕ). Next s i v w h y) e next

  -- ---- one sound record more
  still : i < n → sound s i ≡ true → first_faulty s n 0 ≡ first_faulty s (n - (i + 1)) (i + 1)
  still l q = P.left ∙ left-sound s n i l q

  before-next : (k : ℕ) → kind_at s i ≡ k → 0 < i + 1 → kind_at s (i + 1 - 1) ≡ k
  before-next k e l = let q : i + 1 - 1 ≡ i = omega arith in rw q e

  pub vertex-passed : i < n → Next s i v w h (Ok Vertex) → Passed s n (i + 1) (v + 1) w h
  unfolding last_kind
  vertex-passed l (vertex e q z f) =
      let w0 : w ≡ 0 = omega arith in
      let h0 : h ≡ 0 = omega arith in
      record {
        all = omega (arith, P.all);
        left = still l q;
        ones = of-same s 1 i e ∙ ap (λ (x : ℕ). x + 1) P.ones;
        twos = of_other s 2 1 i e (omega arith) ∙ P.twos;
        threes = of_other s 3 1 i e (omega arith) ∙ P.threes;
        fours = of_other s 4 1 i e (omega arith) ∙ P.fours;
        last = rw (w0, h0) (before-next 1 e);
        few = (omega arith, P.few.1, P.few.2);
        vertices = table-longer s 1 12 0 v i e (omega (arith, P.all)) P.vertices;
        walks = table-other s 2 1 16 i e (omega arith) ∙ P.walks ∙ bodies-none s 16 v (v + 1) w w0;
        hops = table-other s 3 1 16 i e (omega arith) ∙ P.hops ∙ bodies-none s 16 (v + w) (v + 1 + w) h h0;
      }

  pub walk-passed : i < n → Next s i v w h (Ok Walk) → Passed s n (i + 1) v (w + 1) h
  unfolding last_kind
  walk-passed l (walk e q z f) =
      let w1 : w + 1 ≡ suc w = omega arith in
      record {
        all = omega (arith, P.all);
        left = still l q;
        ones = of_other s 1 2 i e (omega arith) ∙ P.ones;
        twos = of-same s 2 i e ∙ ap (λ (x : ℕ). x + 1) P.twos;
        threes = of_other s 3 2 i e (omega arith) ∙ P.threes;
        fours = of_other s 4 2 i e (omega arith) ∙ P.fours;
        last = rw (w1, z) (before-next 2 e);
        few = (P.few.0, omega arith, P.few.2);
        vertices = table-other s 1 2 12 i e (omega arith) ∙ P.vertices;
        walks = table-longer s 2 16 v w i e (omega (arith, P.all)) P.walks;
        hops = table-other s 3 2 16 i e (omega arith) ∙ P.hops ∙ bodies-none s 16 (v + w) (v + (w + 1)) h z;
      }

  pub hop-passed : i < n → Next s i v w h (Ok Hop) → Passed s n (i + 1) v w (h + 1)
  unfolding last_kind
  hop-passed l (hop e q f) =
      let h1 : h + 1 ≡ suc h = omega arith in
      record {
        all = omega (arith, P.all);
        left = still l q;
        ones = of_other s 1 3 i e (omega arith) ∙ P.ones;
        twos = of_other s 2 3 i e (omega arith) ∙ P.twos;
        threes = of-same s 3 i e ∙ ap (λ (x : ℕ). x + 1) P.threes;
        fours = of_other s 4 3 i e (omega arith) ∙ P.fours;
        last = λ l. before-next 3 e l ∙ sym (hops-last w h1);
        few = (P.few.0, P.few.1, omega arith);
        vertices = table-other s 1 3 12 i e (omega arith) ∙ P.vertices;
        walks = table-other s 2 3 16 i e (omega arith) ∙ P.walks;
        hops = table-longer s 3 16 (v + w) h i e (omega (arith, P.all)) P.hops;
      }
    where
      hops-last : (w : ℕ) → h + 1 ≡ suc h → last_kind w (h + 1) ≡ 3
      hops-last zero q = rw q
      hops-last (suc w) q = rw q

  -- ---- where the reader stops
  pub at-fault : (m : ℕ) → i < n → Next s i v w h (Err m) → faulty m ≡ read_as s n
  unfolding read_as
  at-fault m l (fault q) = rw (P.left, left-faulty s n i l q, ne_eqb i n (omega arith))

  pub at-end : n ≤ i → i ≤ n → faulty n ≡ read_as s n
  unfolding read_as
  at-end l g =
      let e : i ≡ n = omega arith in
      let z : of_kind s 4 n ≡ 0 = ap (of_kind s 4) (sym e) ∙ P.fours in
      rw (P.left ∙ left-none s n i l ∙ e, z, and_right (eqb n n && eqb (20 * n) (length s)) {b = false} refl)

  module _ (l : i < n) (N : Next s i v w h (Ok Query)) where
    kind-4 : Next s i v w h (Ok Query) → kind_at s i ≡ 4
    kind-4 (query e q) = e

    one-query : of_kind s 4 (i + 1) ≡ 1
    one-query = of-same s 4 i (kind-4 N) ∙ omega (arith, P.fours)

    first-is : Next s i v w h (Ok Query) → first_faulty s n 0 ≡ i + 1
    first-is (query e q) =
        ⊎_elim (λ (g : n ≤ i + 1). still l q ∙ left-none s n (i + 1) g)
        (λ (g : i + 1 < n). still l q ∙ left-faulty s n (i + 1) g (after-query s i e one-query))
        (le-or-lt n (i + 1))

    -- nothing follows the query
    closed : length s ≡ 20 * (i + 1) → n ≡ i + 1 → job v w h (question_at s i) ≡ read_as s n
    unfolding read_as
    closed e q =
        let a = of_other s 1 4 i (kind-4 N) (omega arith) ∙ P.ones in
        let b = of_other s 2 4 i (kind-4 N) (omega arith) ∙ P.twos in
        let d = of_other s 3 4 i (kind-4 N) (omega arith) ∙ P.threes in
        let z : i + 1 - 1 ≡ i = omega arith in
        rw (first-is N, q, eq-eqb (i + 1) (i + 1) refl, eq-eqb (20 * (i + 1)) (length s) (sym e), one-query, a, b, d, z)

    open-ended : length s ≢ 20 * (i + 1) → faulty (i + 1) ≡ read_as s n
    unfolding read_as
    open-ended d = ⊎_elim (λ (t : eqb (i + 1) n ≡ true). cut (eqb-true _ _ t)) (λ (t : eqb (i + 1) n ≡ false). rw (first-is N, t)) (split (eqb (i + 1) n))
      where
        cut : i + 1 ≡ n → faulty (i + 1) ≡ read_as s n
        cut q = rw (first-is N, ← q, eq-eqb (i + 1) (i + 1) refl, ne_eqb (20 * (i + 1)) (length s) (λ e. d (sym e)))

    pub at-query : n ≡ length s / 20 → ended_of s i v w h ≡ read_as s n
    unfolding ended_of
    at-query q =
        ⊎_elim (λ (t : eqb (length s) (20 * (i + 1)) ≡ true). rw t (closed (eqb-true _ _ t) (whole (eqb-true _ _ t))))
        (λ (t : eqb (length s) (20 * (i + 1)) ≡ false). rw t (open-ended (eqb-false _ _ t)))
        (split _)
      where
        whole : length s ≡ 20 * (i + 1) → n ≡ i + 1
        whole e = omega arith

    pub query-laid : length s ≡ 20 * (i + 1) → Laid s v w h
    query-laid e =
        let q : length s / 20 ≡ i + 1 = omega arith in
        record {
          whole = omega (arith, P.all);
          vertex_most = P.few.0;
          walk_most = P.few.1;
          hop_most = P.few.2;
          vertex_table = table-all s 1 12 (i + 1) q ∙ table-other s 1 4 12 i (kind-4 N) (omega arith) ∙ P.vertices;
          walk_table = table-all s 2 16 (i + 1) q ∙ table-other s 2 4 16 i (kind-4 N) (omega arith) ∙ P.walks;
          hop_table = table-all s 3 16 (i + 1) q ∙ table-other s 3 4 16 i (kind-4 N) (omega arith) ∙ P.hops;
        }

-- what the end of a job says of the answer
pub ended-laid : (s : List ℕ) (i v w h : ℕ) (r : Result Job ℕ) → told r ≡ ended_of s i v w h → (length s ≡ 20 * (i + 1) → Laid s v w h) → LaidOut s r
unfolding ended_of
ended-laid s i v w h (Err n) e f = tt
ended-laid s i v w h (Ok j) e f = by (eqb (length s) (20 * (i + 1))) refl e
  where
    v' : ℕ
    v' = j.counts.vertices

    w' : ℕ
    w' = j.counts.walks

    h' : ℕ
    h' = j.counts.hops

    by : (t : Bool) → eqb (length s) (20 * (i + 1)) ≡ t → job v' w' h' (question j.asked) ≡ cond t (job v w h (question_at s i)) (faulty (i + 1)) → Laid s v' w' h'
    by true p g =
        let a : v ≡ v' = cc in
        let b : w ≡ w' = cc in
        let d : h ≡ h' = cc in
        subst (λ (x : ℕ). Laid s x w' h') a (subst (λ (x : ℕ). Laid s v x h') b (subst (λ (x : ℕ). Laid s v w x) d (f (eqb-true _ _ p))))
    by false p g = absurd (let z : ◌≡◌ {A = ℕ} 0 1 = cc in omega arith)
