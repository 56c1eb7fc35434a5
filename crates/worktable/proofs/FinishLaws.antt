-- The packed and sorted words are the records of the map, ascending by vertex.
use mathlib.Core.Path.{◌≡◌, refl, sym, ap, ap₂, subst, ◌∙◌}
use mathlib.Core.Logic.{◌≢◌, ◌⊎◌, inl, inr}
use mathlib.Core.List.{List, [], ◌∷◌, ◌++◌, append_assoc, append-nil}
use Prim.Native.Nat.{ℕ, zero, suc, ◌-◌, ◌+◌, ◌*◌, ◌<◌, ◌≤◌}
use native.Mathlib.Omega.{arith}
use native.Mathlib.Decide.{dec_lt, ℕ_discrete}
use lib.ListN.{length, take, drop, replicate, length-append}
use lib.Seq.{drop_at, drop-drop, drop-length, length-take-le}
use borrow.Rule.Slice.PartMut.{mid_of, put_mid, mid_len}
use Rattle.table_bytes.specs.Columns.{cols, at}
use Rattle.table_tree.specs.Words.{vacant, vertex_in}
use mathlib.Core.List.{flat_map}
use Rattle.journeys.specs.Bytes.{filled}
use Rattle.journeys.specs.Network.{Held}
use Rattle.journeys.specs.Answers.{held_bytes}
use Rattle.table_records.specs.Fields.{distance_in, state_in, remaining_in, held_in}
use Rattle.table_records.specs.Sort.{Packed, swapped, Swaps, done, swap, Sorts, record_bytes}
use Rattle.table_records.proofs.SortLaws.{swaps-length, swap-i, swap-j, swap-out}
use Rattle.table_records.proofs.SpreadLaws.{held-length, front-word}
use Rattle.worktable.specs.Map.{Entry, Map, row, rows_to, rows, size}
use Rattle.worktable.specs.Inside.{entry_in, lookup, Single}
use Rattle.worktable.specs.Table.{map_of, InOrder}
use Rattle.worktable.specs.declared.Table.{Table}
use Rattle.worktable.proofs.MapLaws.{rows-length}
use Rattle.worktable.proofs.WordLaws.{entry_vacant, entry-used, vertex-low}
use Rattle.worktable.proofs.LookupLaws.{lookup-missing, lookup-slot}

-- ---- exchanges move words and lose none
Src : ℕ → ℕ → ℕ → ℕ → Type 0
Src i j t s = ((t ≡ i) × (s ≡ j)) ⊎ (((t ≡ j) × (s ≡ i)) ⊎ ((t ≢ i) × (t ≢ j) × (s ≡ t)))

swap-src : (Y : List ℕ) (i j t : ℕ) → i < j → j < length Y → (s : ℕ) × (at (swapped Y i j) t ≡ at Y s) × Src i j t s
unfolding Src
swap-src Y i j t a d = go (ℕ_discrete t i) (ℕ_discrete t j)
  where
    go : Dec (t ≡ i) → Dec (t ≡ j) → (s : ℕ) × (at (swapped Y i j) t ≡ at Y s) × (((t ≡ i) × (s ≡ j)) ⊎ (((t ≡ j) × (s ≡ i)) ⊎ ((t ≢ i) × (t ≢ j) × (s ≡ t))))
    go (yes e) y = (j, ap (at (swapped Y i j)) e ∙ swap-i Y i j a d, inl (e, refl))
    go (no e) (yes y) = (i, ap (at (swapped Y i j)) y ∙ swap-j Y i j d, inr (inl (y, refl)))
    go (no e) (no y) = (t, swap-out Y i j t e y, inr (inr (e, y, refl)))

src-low : (i j t s k : ℕ) → i < j → j < k → t < k → Src i j t s → s < k
unfolding Src
src-low i j t s k a b c (inl e) = omega arith
src-low i j t s k a b c (inr (inl e)) = omega arith
src-low i j t s k a b c (inr (inr e)) = omega arith

src-inj : (i j t u s : ℕ) → i < j → Src i j t s → Src i j u s → t ≡ u
unfolding Src
src-inj i j t u s a (inl e) (inl f) = e.0 ∙ sym f.0
src-inj i j t u s a (inl e) (inr (inl f)) = absurd (omega arith)
src-inj i j t u s a (inl e) (inr (inr f)) = absurd (f.1 (sym f.2 ∙ e.1))
src-inj i j t u s a (inr (inl e)) (inl f) = absurd (omega arith)
src-inj i j t u s a (inr (inl e)) (inr (inl f)) = e.0 ∙ sym f.0
src-inj i j t u s a (inr (inl e)) (inr (inr f)) = absurd (f.0 (sym f.2 ∙ e.1))
src-inj i j t u s a (inr (inr e)) (inl f) = absurd (e.1 (sym e.2 ∙ f.1))
src-inj i j t u s a (inr (inr e)) (inr (inl f)) = absurd (e.0 (sym e.2 ∙ f.1))
src-inj i j t u s a (inr (inr e)) (inr (inr f)) = sym e.2 ∙ f.2

-- each word of X is one of Y, from another place
swaps-from : (k : ℕ) {Y X : List ℕ} → Swaps 0 k Y X → (j : ℕ) → j < k → (i : ℕ) × (i < k) × (at X j ≡ at Y i)
swaps-from k done j l = (j, l, refl)
swaps-from k (swap {Y = Y} i j a b c d s) t l =
    let g = swap-src Y i j t b (rw (swaps-length 0 k s) d) in
    let r = swaps-from k s g.0 (src-low i j t g.0 k b c l g.2) in
    (r.0, r.1, g.1 ∙ r.2)

-- each word of Y is one of X
swaps-to : (k : ℕ) {Y X : List ℕ} → Swaps 0 k Y X → (i : ℕ) → i < k → (j : ℕ) × (j < k) × (at X j ≡ at Y i)
swaps-to k done i l = (i, l, refl)
swaps-to k (swap {Y = Y} i j a b c d s) t l =
    let r = swaps-to k s t l in
    let q = back r.0 r.1 (ℕ_discrete r.0 i) (ℕ_discrete r.0 j) in
    (q.0, q.1, q.2 ∙ r.2)
  where
    len : j < length Y
    len = rw (swaps-length 0 k s) d

    back : (x : ℕ) → x < k → Dec (x ≡ i) → Dec (x ≡ j) → (y : ℕ) × (y < k) × (at (swapped Y i j) y ≡ at Y x)
    back x h (yes e) z = (j, c, swap-j Y i j len ∙ ap (at Y) (sym e))
    back x h (no e) (yes z) = (i, omega arith, swap-i Y i j b len ∙ ap (at Y) (sym z))
    back x h (no e) (no z) = (x, h, swap-out Y i j x e z)

swaps-single : (k : ℕ) {Y X : List ℕ} → Swaps 0 k Y X → Single k Y → Single k X
swaps-single k done o t u lt lu nt nu e = o t u lt lu nt nu e
swaps-single k (swap {Y = Y} i j a b c d s) o t u lt lu nt nu e =
    let lj : j < length Y = rw (swaps-length 0 k s) d in
    let p = swap-src Y i j t b lj in
    let q = swap-src Y i j u b lj in
    let same = swaps-single k s o p.0 q.0 (src-low i j t p.0 k b c lt p.2) (src-low i j u q.0 k b c lu q.2) (λ z. nt (p.1 ∙ z)) (λ z. nu (q.1 ∙ z)) (ap vertex_in (sym p.1) ∙ e ∙ ap vertex_in q.1) in
    src-inj i j t u q.0 b (subst (Src i j t) same p.2) q.2

pack-single : (cap k : ℕ) (W Y : List ℕ) → Packed cap k W Y → Single cap W → Single k Y
pack-single cap k W Y v o a b la lb na nb e = go (dec_lt a b) (dec_lt b a)
  where
    eq : v.src a ≡ v.src b
    eq = let f = v.from a la in let g = v.from b lb in o (v.src a) (v.src b) f.0 g.0 f.1 g.1 (ap vertex_in (sym f.2) ∙ e ∙ ap vertex_in g.2)

    go : Dec (a < b) → Dec (b < a) → a ≡ b
    go (yes l) d = absurd (omega (arith, v.mono a b l lb, eq))
    go (no l) (yes d) = absurd (omega (arith, v.mono b a d la, eq))
    go (no l) (no d) = omega arith

-- the first k words of X are the used ones of W, ascending by vertex
pub record Lists (cap k : ℕ) (W X : List ℕ) : Type 0 where
  pub from : (j : ℕ) → j < k → (s : ℕ) × (s < cap) × (at W s ≢ vacant) × (at X j ≡ at W s)
  pub to : (s : ℕ) → s < cap → at W s ≢ vacant → (j : ℕ) × (j < k) × (at X j ≡ at W s)
  pub ascend : (i j : ℕ) → i < j → j < k → vertex_in (at X i) < vertex_in (at X j)

pub lists : {cap k : ℕ} {W Y X : List ℕ} → Single cap W → Packed cap k W Y → Sorts 0 k Y X → Lists cap k W X
lists {cap} {k} {W} {Y} {X} o v r = record {
  from = fr;
  to = λ s l n. let g = v.to s l n in let q = swaps-to k r.sw g.0 g.1 in (q.0, q.1, q.2 ∙ g.2);
  ascend = λ i j l h. strict i j l h (ℕ_discrete (vertex_in (at X i)) (vertex_in (at X j)));
}
  where
    fr : (j : ℕ) → j < k → (s : ℕ) × (s < cap) × (at W s ≢ vacant) × (at X j ≡ at W s)
    fr j l = let q = swaps-from k r.sw j l in let g = v.from q.0 q.1 in (v.src q.0, g.0, g.1, q.2 ∙ g.2)

    some : (i : ℕ) → i < k → at X i ≢ vacant
    some i h z = let g = fr i h in g.2 (sym g.3 ∙ z)

    strict : (i j : ℕ) → i < j → j < k → Dec (vertex_in (at X i) ≡ vertex_in (at X j)) → vertex_in (at X i) < vertex_in (at X j)
    strict i j l h (yes e) = absurd (omega (arith, swaps-single k r.sw (pack-single cap k W Y v o) i j (omega arith) h (some i (omega arith)) (some j h) e))
    strict i j l h (no e) = omega (arith, r.ord i j (omega arith) l h)

-- ---- the records of the first j words
held_to : ℕ → List ℕ → List Held
held_to zero X = []
held_to (suc j) X = held_to j X ++ (held_in (at X j) ∷ [])

held-count : (j : ℕ) (X : List ℕ) → length (held_to j X) ≡ j
unfolding held_to
held-count zero X = refl
held-count (suc j) X = length-append (held_to j X) (held_in (at X j) ∷ []) ∙ omega (arith, held-count j X)

flat_map-more : (l : List Held) (h : Held) → flat_map held_bytes (l ++ (h ∷ [])) ≡ flat_map held_bytes l ++ held_bytes h
unfolding flat_map
flat_map-more [] h = append-nil (held_bytes h)
flat_map-more (x ∷ l) h = ap (λ (z : List ℕ). held_bytes x ++ z) (flat_map-more l h) ∙ sym (append_assoc (held_bytes x) (flat_map held_bytes l) (held_bytes h))

held-flat_map : (j : ℕ) (X : List ℕ) → flat_map held_bytes (held_to j X) ≡ record_bytes j X
unfolding held_to record_bytes flat_map
held-flat_map zero X = refl
held-flat_map (suc j) X = flat_map-more (held_to j X) (held_in (at X j)) ∙ ap (λ (z : List ℕ). z ++ held_bytes (held_in (at X j))) (held-flat_map j X)

record-length : (j : ℕ) (X : List ℕ) → length (record_bytes j X) ≡ 16 * j
unfolding record_bytes
record-length zero X = refl
record-length (suc j) X = length-append (record_bytes j X) (held_bytes (held_in (at X j))) ∙ omega (arith, record-length j X, held-length (at X j))

record_same : (j : ℕ) (X Z : List ℕ) → ((i : ℕ) → i < j → at Z i ≡ at X i) → record_bytes j Z ≡ record_bytes j X
unfolding record_bytes
record_same zero X Z f = refl
record_same (suc j) X Z f = ap₂ (λ (y : List ℕ) (w : ℕ). y ++ held_bytes (held_in w)) (record_same j X Z (λ i l. f i (omega arith))) (f j (omega arith))

-- the row of the vertex n with the word x
row_is : (n x : ℕ) → x ≢ vacant → vertex_in x ≡ n → row n (entry_in x) ≡ held_in x ∷ []
unfolding row held_in
row_is n x used e = ap (row n) (entry-used x used) ∙ ap (λ (v : ℕ). record { vertex = v; distance = distance_in x; state = state_in x; remaining = remaining_in x } ∷ []) (sym e)

module _ {cap k : ℕ} {W X : List ℕ} (v : Lists cap k W X) where
  Cut : ℕ → ℕ → Type 0
  Cut n j = (j ≤ k) × ((i : ℕ) → i < j → vertex_in (at X i) < n) × ((i : ℕ) → j ≤ i → i < k → n ≤ vertex_in (at X i))

  -- no word has the vertex n
  cut-past : (n j : ℕ) → lookup cap W n ≡ vacant → Cut (suc n) j → Cut n j
  unfolding Cut
  cut-past n j e c = (c.0, (λ i l. omega (arith, c.1 i l, off i (omega (arith, c.0)))), λ i l h. omega (arith, c.2 i l h))
    where
      off : (i : ℕ) → i < k → vertex_in (at X i) ≢ n
      off i l z = let g = v.from i l in lookup-missing cap W n e g.0 g.1 g.2 (ap vertex_in (sym g.3) ∙ z)

  -- the last word before the cut has it
  cut-one : (n j i : ℕ) → i < k → vertex_in (at X i) ≡ n → Cut (suc n) j → (j ≡ suc i) × Cut n i
  unfolding Cut
  cut-one n j i l e c =
      let ij : i < j = below (dec_lt i j) in
      let last : j ≡ suc i = top ij (dec_lt (suc i) j) in
      (last, (omega arith, (λ x lx. omega (arith, v.ascend x i lx l)), λ x lx h. after x lx h (ℕ_discrete x i)))
    where
      below : Dec (i < j) → i < j
      below (yes p) = p
      below (no p) = absurd (omega (arith, c.2 i (omega arith) l))

      top : i < j → Dec (suc i < j) → j ≡ suc i
      top p (yes q) = absurd (omega (arith, v.ascend i (suc i) (omega arith) (omega (arith, c.0)), c.1 (suc i) q))
      top p (no q) = omega arith

      after : (x : ℕ) → i ≤ x → x < k → Dec (x ≡ i) → n ≤ vertex_in (at X x)
      after x lx h (yes q) = rw q (omega arith)
      after x lx h (no q) = omega (arith, v.ascend i x (omega arith) h)

  rows-to : (n j : ℕ) → Cut n j → rows_to n (λ u. entry_in (lookup cap W u)) ≡ held_to j X
  unfolding rows_to held_to Cut row
  rows-to zero zero c = refl
  rows-to zero (suc j) c = absurd (omega (arith, c.1 j (omega arith)))
  rows-to (suc n) j c = go (ℕ_discrete (lookup cap W n) vacant) (λ i q. rows-to n i q)
    where
      m : Map
      m u = entry_in (lookup cap W u)

      go : Dec (lookup cap W n ≡ vacant) → ((i : ℕ) → Cut n i → rows_to n m ≡ held_to i X) → rows_to n m ++ row n (entry_in (lookup cap W n)) ≡ held_to j X
      go (yes e) ih = ap (λ (z : Entry). rows_to n m ++ row n z) (entry_vacant e) ∙ append-nil (rows_to n m) ∙ ih j (cut-past n j e c)
      go (no e) ih =
          let sl = lookup-slot e in
          let g = v.to sl.0 sl.1.low sl.1.used in
          let x = at X g.0 in
          let is : lookup cap W n ≡ x = sl.2 ∙ sym g.2 in
          let ev : vertex_in x ≡ n = ap vertex_in g.2 ∙ sl.1.vertex in
          let one = cut-one n j g.0 g.1 ev c in
          ap (λ (z : ℕ). rows_to n m ++ row n (entry_in z)) is ∙ ap (λ (z : List Held). rows_to n m ++ z) (row_is n x (λ z. e (is ∙ z)) ev)
          ∙ ap (λ (z : List Held). z ++ (held_in x ∷ [])) (ih g.0 one.1) ∙ ap (λ (z : ℕ). held_to z X) (sym one.0)

  all-rows : rows_to 65536 (λ u. entry_in (lookup cap W u)) ≡ held_to k X
  unfolding Cut
  all-rows = rows-to 65536 k (omega arith, (λ i l. vertex-low (at X i)), λ i l h. absurd (omega arith))

-- ---- `finish`
module _ {t : Table} {b : List ℕ} (o : InOrder t b) {k : ℕ} {X : List ℕ} (v : Lists t.capacity k (cols t.slots b).w X) where
  rows_are : rows (map_of t b) ≡ held_to k X
  unfolding rows map_of
  rows_are = all-rows v

  pub finish-count : k ≡ size (map_of t b)
  unfolding rows size
  finish-count = sym (held-count k X) ∙ ap length (sym rows_are) ∙ rows-length 65536 (map_of t b)

  pub finish-bytes : flat_map held_bytes (rows (map_of t b)) ≡ record_bytes k X
  finish-bytes = ap (flat_map held_bytes) rows_are ∙ held-flat_map k X

-- the sorted buffer c gets the zeros y behind the place of the records, and then the records
pub finish-filled : {t : Table} {b : List ℕ} → InOrder t b → {k : ℕ} (c y : List ℕ) → Lists t.capacity k (cols t.slots b).w (cols t.slots c).w → length c ≡ length b → k ≤ t.slots
    → y ≡ replicate (length (mid_of (16 * k) (length c - 16 * k) c)) 0
    → record_bytes k (cols t.slots (put_mid (16 * k) (length c - 16 * k) c y)).w ++ drop (16 * k) (put_mid (16 * k) (length c - 16 * k) c y) ≡ filled b (flat_map held_bytes (rows (map_of t b)))
unfolding filled
finish-filled {t} {b} o {k} c y v len fit ey =
    let n : length (flat_map held_bytes (rows (map_of t b))) ≡ 16 * k = ap length (finish-bytes o v) ∙ record-length k (cols t.slots c).w in
    rw (n, finish-bytes o v) (ap₂ (λ (x z : List ℕ). x ++ z) (record_same k (cols t.slots c).w (cols t.slots (put_mid (16 * k) (length c - 16 * k) c y)).w words) tail)
  where
    post : List ℕ
    post = drop (length c - 16 * k) (drop (16 * k) c)

    low : 16 * k ≤ length c
    low = omega (arith, o.slotted.len)

    words : (i : ℕ) → i < k → at (cols t.slots (put_mid (16 * k) (length c - 16 * k) c y)).w i ≡ at (cols t.slots c).w i
    words i l = front-word t.slots c (y ++ post) (16 * k) i low (omega arith) (omega arith)

    nothing : post ≡ []
    nothing = drop-drop (length c - 16 * k) (16 * k) c ∙ (let e : 16 * k + (length c - 16 * k) ≡ length c = omega (arith, low) in ap (λ (x : ℕ). drop x c) e) ∙ drop-length c

    tail : drop (16 * k) (put_mid (16 * k) (length c - 16 * k) c y) ≡ replicate (length b - 16 * k) 0
    tail = drop_at (take (16 * k) c) (y ++ post) (16 * k) (length-take-le (16 * k) c low) ∙ ap (λ (z : List ℕ). y ++ z) nothing ∙ append-nil y ∙ ey
        ∙ ap (λ (x : ℕ). replicate x 0) (mid_len (16 * k) (length c) c (omega arith)) ∙ ap (λ (x : ℕ). replicate (x - 16 * k) 0) len
