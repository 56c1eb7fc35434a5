-- The hops of stops as a list: which are in it, in which order, and where their bytes stand. Assumes nothing.
use mathlib.Core.Path.{◌≡◌, refl, sym, ap, ap₂, subst, ◌∙◌}
use mathlib.Core.Logic.{◌⊎◌, inl, inr, ⊎_elim, ◌≢◌}
use mathlib.Core.Bool.{Bool, true, false, not, cond, ◌&&◌}
use mathlib.Core.List.{List, [], ◌∷◌, ◌++◌, flat_map, append_assoc}
use Prim.Native.Nat.{ℕ, zero, suc, ◌+◌, ◌-◌, ◌*◌, ◌/◌, ◌%◌, ◌≤◌, ◌<◌}
use native.Mathlib.Nat.{mul-suc}
use native.Mathlib.Omega.{arith}
use lib.Dec.{eqb}
use lib.ListN.{length, get_or, length-append, get_or-append}
use lib.Seq.{get_or-append-add}
use borrow.Author.Tests.{eqb-true, eqb-false, eq-eqb, ne_eqb}
use Rattle.journeys.specs.Counting.{joined, In}
use Rattle.journeys.specs.Bytes.{be32, clock, word, midnight}
use Rattle.journeys.specs.Tables.{Hop, hop_at}
use Rattle.journeys.proofs.Tests.{split, and_both, and-true, cond-true, cond-false, le-or-lt}
use Rattle.journeys.proofs.Counting.{in-joined, joined_in, in-append}
use Rattle.words.proofs.Written.{be32-word}
use Rattle.feed.specs.Stops.{Stop}
use Rattle.feed.specs.Trips.{stop, next, beyond, hop, hop_to, hops_to, hops_of}
use Rattle.succession.proofs.SomeLaws.{not-not}
use Rattle.hoporder.proofs.HopOrder.{beyond-above}
use Rattle.timetable_laws.specs.Pairs.{Pair, hop_between, Stands}

-- ---- elements by their places
pub get_d-in : {A : Type 0} (d : A) (l : List A) (j : ℕ) → j < length l → In (get_or l j d) l
get_d-in d [] j h = absurd (omega arith)
get_d-in d (x ∷ l) zero h = inl refl
get_d-in d (x ∷ l) (suc j) h = inr (get_d-in d l j (omega arith))

pub in-get_d : {A : Type 0} (d : A) (l : List A) (x : A) → In x l → (j : ℕ) × (j < length l) × (get_or l j d ≡ x)
in-get_d d [] x m = absurd m
in-get_d d (y ∷ l) x (inl e) = (0, omega arith, sym e)
in-get_d d (y ∷ l) x (inr m) = let r = in-get_d d l x m in (suc r.0, omega (arith, r.1), r.2)

-- ---- records of 20 bytes, one behind the other
pub byte_at : (L : List (List ℕ)) (rest : List ℕ) → ((h : List ℕ) → In h L → length h ≡ 20) → (j k : ℕ) → j < length L → k < 20
    → get_or (flat_map (λ h. h) L ++ rest) (20 * j + k) 0 ≡ get_or (get_or L j []) k 0
unfolding flat_map
byte_at [] rest long j k h l = absurd (omega arith)
byte_at (x ∷ L) rest long zero k h l =
    let size = long x (inl refl) in
    let e : 20 * zero + k ≡ k = omega arith in
    ap₂ (λ (b : List ℕ) (n : ℕ). get_or b n 0) (append_assoc x (flat_map (λ h. h) L) rest) e ∙ get_or-append x (flat_map (λ h. h) L ++ rest) 0 k (omega (arith, size))
byte_at (x ∷ L) rest long (suc j) k h l =
    let size = long x (inl refl) in
    let e : 20 * suc j + k ≡ length x + (20 * j + k) = omega (arith, size) in
    ap₂ (λ (b : List ℕ) (n : ℕ). get_or b n 0) (append_assoc x (flat_map (λ h. h) L) rest) e
    ∙ get_or-append-add x (flat_map (λ h. h) L ++ rest) (20 * j + k) 0
    ∙ byte_at L rest (λ h m. long h (inr m)) j k (omega arith) l

flat-long : (L : List (List ℕ)) → ((h : List ℕ) → In h L → length h ≡ 20) → length (flat_map (λ h. h) L) ≡ 20 * length L
unfolding flat_map
flat-long [] long = refl
flat-long (x ∷ L) long = length-append x (flat_map (λ h. h) L) ∙ omega (arith, long x (inl refl), flat-long L (λ h m. long h (inr m)))

module _ (b h : List ℕ) (j : ℕ) (same : (k : ℕ) → k < 20 → get_or b (20 * j + k) 0 ≡ get_or h k 0) where
  pub word_at : (o : ℕ) → o + 4 ≤ 20 → be32 b (20 * j + o) ≡ be32 h o
  unfolding be32
  word_at o l =
      let e1 : 20 * j + o + 1 ≡ 20 * j + (o + 1) = omega arith in
      let e2 : 20 * j + o + 2 ≡ 20 * j + (o + 2) = omega arith in
      let e3 : 20 * j + o + 3 ≡ 20 * j + (o + 3) = omega arith in
      rw (e1, e2, e3, same o (omega arith), same (o + 1) (omega arith), same (o + 2) (omega arith), same (o + 3) (omega arith)) refl

-- ---- which hops there are
module _ (S : List Stop) where
  to-known : (v p i : ℕ) (h : List ℕ) → p < length S → i < length S → In h (hop_to S v p i) → Pair S p i × ((stop S i).vertex ≡ v) × (h ≡ hop S p i)
  unfolding hop_to
  to-known v p i h lp li m = go (split (eqb (stop S i).vertex v && not (eqb (stop S p).vertex v) && next S p i))
    where
      only : In h (hop S p i ∷ []) → h ≡ hop S p i
      only (inl e) = e
      only (inr k) = absurd k

      go : (eqb (stop S i).vertex v && not (eqb (stop S p).vertex v) && next S p i ≡ true) ⊎ (eqb (stop S i).vertex v && not (eqb (stop S p).vertex v) && next S p i ≡ false) → Pair S p i × ((stop S i).vertex ≡ v) × (h ≡ hop S p i)
      go (inl t) =
          let one = and_both (eqb (stop S i).vertex v && not (eqb (stop S p).vertex v)) (next S p i) t in
          let two = and_both (eqb (stop S i).vertex v) (not (eqb (stop S p).vertex v)) one.0 in
          let there = eqb-true _ _ two.0 in
          let off = eqb-false _ _ (sym (not-not _) ∙ ap not two.1) in
          (record { departs = lp; arrives = li; consecutive = one.1; apart = λ e. off (e ∙ there) }, there, only (subst (λ (l : List (List ℕ)). In h l) (cond-true (hop S p i ∷ []) [] t) m))
      go (inr t) = absurd (subst (λ (l : List (List ℕ)). In h l) (cond-false (hop S p i ∷ []) [] t) m)

  abbrev Known : ℕ → List ℕ → Type 0
  Known v h = (p : ℕ) × (i : ℕ) × Pair S p i × ((stop S i).vertex ≡ v) × (h ≡ hop S p i)

  vertex-known : (v : ℕ) (h : List ℕ) → In h (hops_to S v) → Known v h
  unfolding hops_to
  vertex-known v h m =
      let a = joined_in (λ p. joined (hop_to S v p) (length S)) (length S) h m in
      let b = joined_in (hop_to S v a.0) (length S) h a.2 in
      let k = to-known v a.0 b.0 h a.1 b.1 b.2 in
      (a.0, b.0, k.0, k.1, k.2)

  pub hop-known : (h : List ℕ) → In h (hops_of S) → (p : ℕ) × (i : ℕ) × Pair S p i × (h ≡ hop S p i)
  unfolding hops_of
  hop-known h m = let a = joined_in (hops_to S) (beyond S) h m in let k = vertex-known a.0 h a.2 in (k.0, k.1, k.2, k.4)

  pub hop-there : (p i : ℕ) → Pair S p i → In (hop S p i) (hops_of S)
  unfolding hops_of hops_to hop_to
  hop-there p i q =
      let v = (stop S i).vertex in
      let t : eqb v v && not (eqb (stop S p).vertex v) && next S p i ≡ true = and-true (and-true (eq-eqb v v refl) (ap not (ne_eqb (stop S p).vertex v q.apart))) q.consecutive in
      in-joined (hops_to S) (beyond S) v (hop S p i) (beyond-above S i q.arrives)
      (in-joined (λ p. joined (hop_to S v p) (length S)) (length S) p (hop S p i) q.departs
      (in-joined (hop_to S v p) (length S) i (hop S p i) q.arrives (subst (λ (l : List (List ℕ)). In (hop S p i) l) (sym (cond-true (hop S p i ∷ []) [] t)) (inl refl))))

  hop-long : (p i : ℕ) → length (hop S p i) ≡ 20
  unfolding hop word
  hop-long p i = refl

  pub all-long : (h : List ℕ) → In h (hops_of S) → length h ≡ 20
  all-long h m = let k = hop-known h m in ap length k.3 ∙ hop-long k.0 k.1

  pub bytes-long : length (flat_map (λ h. h) (hops_of S)) ≡ 20 * length (hops_of S)
  bytes-long = flat-long (hops_of S) all-long

  -- ---- in which order: "to" ascends
  hop-to : (p i : ℕ) → be32 (hop S p i) 4 ≡ (stop S i).vertex
  unfolding hop word
  hop-to p i = be32-word (word (stop S p).vertex) (word (stop S p).departure ++ word (stop S i).arrival ++ word (stop S p).trip_number) (stop S i).vertex

  to_is : (v : ℕ) (h : List ℕ) → In h (hops_to S v) → be32 h 4 ≡ v
  to_is v h m = let k = vertex-known v h m in ap (λ (l : List ℕ). be32 l 4) k.4 ∙ hop-to k.0 k.1 ∙ k.3

  abbrev to_at : List (List ℕ) → ℕ → ℕ
  to_at L j = be32 (get_or L j []) 4

  below : (n j : ℕ) → j < length (joined (hops_to S) n) → to_at (joined (hops_to S) n) j < n
  below n j h =
      let a = joined_in (hops_to S) n (get_or (joined (hops_to S) n) j []) (get_d-in [] (joined (hops_to S) n) j h) in
      omega (arith, to_is a.0 _ a.2, a.1)

  later : (n j : ℕ) → length (joined (hops_to S) n) ≤ j → j < length (joined (hops_to S) n ++ hops_to S n) → to_at (joined (hops_to S) n ++ hops_to S n) j ≡ n
  later n j a b =
      let L = joined (hops_to S) n in
      let long = length-append L (hops_to S n) in
      let e : j ≡ length L + (j - length L) = omega (arith, a) in
      let at : get_or (L ++ hops_to S n) j [] ≡ get_or (hops_to S n) (j - length L) [] = ap (λ (k : ℕ). get_or (L ++ hops_to S n) k []) e ∙ get_or-append-add L (hops_to S n) (j - length L) [] in
      ap (λ (l : List ℕ). be32 l 4) at ∙ to_is n _ (get_d-in [] (hops_to S n) (j - length L) (omega (arith, a, b, long)))

  ascend : (n i j : ℕ) → i ≤ j → j < length (joined (hops_to S) n) → to_at (joined (hops_to S) n) i ≤ to_at (joined (hops_to S) n) j
  unfolding joined
  ascend zero i j h l = absurd (omega arith)
  ascend (suc n) i j h l =
      ⊎_elim
      (λ (a : length (joined (hops_to S) n) ≤ j).
      let y = later n j a l in
      ⊎_elim (λ (c : length (joined (hops_to S) n) ≤ i). omega (arith, y, later n i c (omega (arith, h, l))))
      (λ (c : i < length (joined (hops_to S) n)). omega (arith, y, front i c, below n i c))
      (le-or-lt (length (joined (hops_to S) n)) i))
      (λ (a : j < length (joined (hops_to S) n)). omega (arith, front i (omega (arith, h, a)), front j a, ascend n i j h a))
      (le-or-lt (length (joined (hops_to S) n)) j)
    where
      front : (k : ℕ) → k < length (joined (hops_to S) n) → to_at (joined (hops_to S) n ++ hops_to S n) k ≡ to_at (joined (hops_to S) n) k
      front k c = ap (λ (x : List ℕ). be32 x 4) (get_or-append (joined (hops_to S) n) (hops_to S n) [] k c)

  pub hops_ascend : (i j : ℕ) → i ≤ j → j < length (hops_of S) → be32 (get_or (hops_of S) i []) 4 ≤ be32 (get_or (hops_of S) j []) 4
  unfolding hops_of
  hops_ascend i j h l = ascend (beyond S) i j h l

  -- ---- hop j in a slice that begins with these hops
  module _ (rest : List ℕ) where
    abbrev pub table : List ℕ
    table = flat_map (λ h. h) (hops_of S) ++ rest

    pub word-is : (j o : ℕ) → j < length (hops_of S) → o + 4 ≤ 20 → be32 table (20 * j + o) ≡ be32 (get_or (hops_of S) j []) o
    word-is j o h l = word_at table (get_or (hops_of S) j []) j (λ k q. byte_at (hops_of S) rest all-long j k h q) o l

    clocked : (x : ℕ) → x < 2147483648 → clock x ≡ midnight + x
    unfolding clock
    clocked x h = omega arith

    pub stands : (j p i : ℕ) → j < length (hops_of S) → get_or (hops_of S) j [] ≡ hop S p i → (stop S p).departure < 2147483648 → (stop S i).arrival < 2147483648 → Stands table j S p i
    unfolding hop_at hop word
    stands j p i h e d a =
        let at : (o : ℕ) → o + 4 ≤ 20 → be32 table (20 * j + o) ≡ be32 (hop S p i) o = λ o l. word-is j o h l ∙ ap (λ (x : List ℕ). be32 x o) e in
        let z : 20 * j ≡ 20 * j + 0 = omega arith in
        let v = word (stop S p).vertex in
        let t = word (stop S i).vertex in
        let l = word (stop S p).departure in
        let r = word (stop S i).arrival in
        let n = word (stop S p).trip_number in
        let w0 : be32 table (20 * j) ≡ (stop S p).vertex = ap (be32 table) z ∙ at 0 (omega arith) ∙ be32-word [] (t ++ l ++ r ++ n) (stop S p).vertex in
        let w4 : be32 table (20 * j + 4) ≡ (stop S i).vertex = at 4 (omega arith) ∙ be32-word v (l ++ r ++ n) (stop S i).vertex in
        let w8 : be32 table (20 * j + 8) ≡ (stop S p).departure = at 8 (omega arith) ∙ be32-word (v ++ t) (r ++ n) (stop S p).departure in
        let w12 : be32 table (20 * j + 12) ≡ (stop S i).arrival = at 12 (omega arith) ∙ be32-word (v ++ t ++ l) n (stop S i).arrival in
        let w16 : be32 table (20 * j + 16) ≡ (stop S p).trip_number = at 16 (omega arith) ∙ be32-word (v ++ t ++ l ++ r) [] (stop S p).trip_number in
        record { hop = rw (w0, w4, w8, w12, clocked (stop S p).departure d, clocked (stop S i).arrival a) refl; trip = w16 }
