-- The list of a run as the parts operation reads it: its settled bytes give back the settled vertices, and no entry of them is bad. Assumes nothing.
use mathlib.Core.Path.{◌≡◌, refl, sym, ap, ap₂, subst, ◌∙◌}
use mathlib.Core.Logic.{inl, inr, ⊎_elim, ◌≢◌}
use mathlib.Core.Bool.{true, false}
use mathlib.Core.List.{List, [], ◌∷◌, ◌++◌, flat_map, append_assoc, append-nil}
use Prim.Native.Nat.{ℕ, suc, ◌+◌, ◌*◌, ◌/◌, ◌%◌, ◌≤◌, ◌<◌}
use native.Mathlib.Omega.{arith}
use lib.Dec.{eqb}
use lib.ListN.{length, take, drop, length-append, take-append-drop}
use borrow.Author.Tests.{eq-eqb, le-leb}
use Rattle.journeys.specs.Bytes.{be32, word}
use Rattle.journeys.specs.Counting.{none, joined, In}
use Rattle.journeys.specs.Tables.{Tables, vertex_count}
use Rattle.journeys.specs.Query.{Query, allowed}
use Rattle.journeys.specs.Order.{Settled, settled, IsOrder}
use Rattle.journeys.specs.Network.{distance_in}
use Rattle.journeys.specs.Records.{network}
use Rattle.journeys.specs.Valid.{Valid}
use Rattle.journeys.specs.Lists.{allows, vertex_in, distance_at, entry_ok, list_refusal, settled_in}
use Rattle.journeys.specs.Refusals.{fine, whole_of}
use Rattle.journeys.specs.Answers.{settled_bytes}
use Rattle.journeys.proofs.Tests.{split, or_right}
use Rattle.journeys.proofs.Counting.{below_suc, in_left, in_right, in-joined, flat_append, flat-length}
use Rattle.journeys.proofs.Refusals.{bad-none}
use Rattle.journeys.proofs.Ways.{arrives-low}
use Rattle.journeys.proofs.Document.{ways, laws, journey-arrives}
use Rattle.journeys.proofs.Demands.{listed-exactly, figure-exactly}
use Rattle.journeys.proofs.Fits.{Distinct}
use Rattle.journeys.proofs.OrderLaws.{order-distinct}
use Rattle.words.proofs.Written.{length-word, be32-word}
use Rattle.records.proofs.RecordBytes.{length-settled}
use Rattle.lists.proofs.Meaning.{entry-means}

-- The settled bytes are a whole number of records, one for each vertex.
pub own-length : (S : List Settled) → length (flat_map settled_bytes S) ≡ 8 * length S
own-length = flat-length settled_bytes 8 length-settled

pub own-whole : (S : List Settled) → whole_of 8 (flat_map settled_bytes S) ≡ true
unfolding whole_of
own-whole S = eq-eqb (length (flat_map settled_bytes S) % 8) 0 (omega (arith, own-length S))

-- what holds of the beginning P and of one entry more each time holds of the whole list
along : (K : List Settled → Type 0) (S : List Settled) → ((P : List Settled) (x : Settled) (R : List Settled) → S ≡ P ++ x ∷ R → K P → K (P ++ x ∷ []))
    → (P R : List Settled) → S ≡ P ++ R → K P → K S
along K S more P [] e k = subst K (sym (e ∙ append-nil P)) k
along K S more P (x ∷ R) e k = along K S more (P ++ x ∷ []) R (e ∙ sym (append_assoc P (x ∷ []) R)) (more P x R e k)

one-longer : (P : List Settled) (x : Settled) → length (P ++ x ∷ []) ≡ suc (length P)
one-longer P x = simp length-append (omega arith)

module _ (S : List Settled) where
  abbrev list : List ℕ
  list = flat_map settled_bytes S

  abbrev at : ℕ → Settled
  at i = settled (vertex_in 8 list i) (distance_at 8 list i)

  -- ---- any list reads back
  -- the first entries are those of P
  abbrev Begins : List Settled → Type 0
  Begins P = joined (λ i. at i ∷ []) (length P) ≡ P

  next-is : (P : List Settled) (x : Settled) (R : List Settled) → S ≡ P ++ x ∷ R → at (length P) ≡ x
  unfolding flat_map
  next-is P x R e =
      let p = flat_map settled_bytes P in
      let r = flat_map settled_bytes R in
      let whole : list ≡ p ++ (settled_bytes x ++ r) = ap (flat_map settled_bytes) e ∙ flat_append settled_bytes P (x ∷ R) in
      let v : list ≡ p ++ word x.vertex ++ (word x.distance ++ r) = whole ∙ simp append_assoc in
      let d : list ≡ p ++ word x.vertex ++ word x.distance ++ r = whole ∙ simp append_assoc in
      let n : 8 * length P ≡ length p = sym (own-length P) in
      let m : 8 * length P + 4 ≡ length (p ++ word x.vertex) = simp length-append (omega (arith, n, length-word x.vertex)) in
      ap₂ settled (ap₂ be32 v n ∙ be32-word p (word x.distance ++ r) x.vertex) (ap₂ be32 d m ∙ be32-word (p ++ word x.vertex) r x.distance)

  begins-more : (P : List Settled) (x : Settled) (R : List Settled) → S ≡ P ++ x ∷ R → Begins P → Begins (P ++ x ∷ [])
  unfolding joined
  begins-more P x R e h = rw (one-longer P x, h, next-is P x R e)

  -- What was settled is read from the settled bytes.
  pub settled_back : settled_in list ≡ S
  unfolding settled_in joined
  settled_back =
      let n : length list / 8 ≡ length S = omega (arith, own-length S) in
      rw n (along Begins S begins-more [] S refl refl)

-- ---- a list that gives each vertex one distance
near : (S : List Settled) → Distinct S → (x : Settled) → In x S → distance_in S x.vertex < none
unfolding distance_in
near [] d x i = absurd i
near (y ∷ S) d x (inl e) = rw (eq-eqb x.vertex y.vertex (ap (λ (z : Settled). z.vertex) e)) d.1
near (y ∷ S) d x (inr i) = ⊎_elim (λ (t : eqb x.vertex y.vertex ≡ true). rw t d.1) (λ (t : eqb x.vertex y.vertex ≡ false). rw t (near S d.2 x i)) (split _)

apart : (P : List Settled) (x : Settled) (R : List Settled) → Distinct (P ++ x ∷ R) → (y : Settled) → In y P → y.vertex ≢ x.vertex
apart [] x R d y i q = absurd i
apart (p ∷ P) x R d y (inl e) q =
    let far : none ≤ distance_in (P ++ x ∷ R) x.vertex = subst (λ (v : ℕ). none ≤ distance_in (P ++ x ∷ R) v) (sym (ap (λ (z : Settled). z.vertex) e) ∙ q) d.0 in
    omega (arith, far, near (P ++ x ∷ R) d.2 x (in_right P (x ∷ R) x (inl refl)))
apart (p ∷ P) x R d y (inr i) q = apart P x R d.2 y i q

module _ (S : List Settled) (vertices most : ℕ) (distinct : Distinct S) (each : (x : Settled) → In x S → (x.vertex < vertices) × (x.distance ≤ most)) where
  -- the first entries are those of P, and they are good
  abbrev GoodTo : List Settled → Type 0
  GoodTo P = Begins S P × ((i : ℕ) → i < length P → entry_ok 8 vertices most (list S) i ≡ true)

  allows-to : (distance : ℕ) → distance ≤ most → allows most distance ≡ true
  unfolding allows
  allows-to distance h = or_right (eqb most none) (le-leb distance most h)

  good_more : (P : List Settled) (x : Settled) (R : List Settled) → S ≡ P ++ x ∷ R → GoodTo P → GoodTo (P ++ x ∷ [])
  good_more P x R e (b, good) = (
    begins-more S P x R e b,
    rw (one-longer P x) (below_suc {P = λ i. entry_ok 8 vertices most (list S) i ≡ true} (length P) good next),
  )
    where
      is : at S (length P) ≡ x
      is = next-is S P x R e

      x-good : (x.vertex < vertices) × (x.distance ≤ most)
      x-good = each x (rw e (in_right P (x ∷ R) x (inl refl)))

      other : (j : ℕ) → j < length P → vertex_in 8 (list S) j ≢ vertex_in 8 (list S) (length P)
      other j h q =
          apart P x R (subst Distinct e distinct) (at S j) (subst (In (at S j)) b (in-joined (λ i. at S i ∷ []) (length P) j (at S j) h (inl refl)))
          (q ∙ ap (λ (z : Settled). z.vertex) is)

      next : entry_ok 8 vertices most (list S) (length P) ≡ true
      next =
          (entry-means 8 vertices most (list S) (length P)).1 (
            omega (arith, x-good.0, ap (λ (z : Settled). z.vertex) is),
            allows-to (distance_at 8 (list S) (length P)) (omega (arith, x-good.1, ap (λ (z : Settled). z.distance) is)),
            other,
          )

  -- Such a list of vertices that exist, at distances that are allowed, has no bad entry.
  pub distinct-good : list_refusal 8 vertices most (list S) ≡ fine
  unfolding list_refusal joined
  distinct-good =
      let n : length (list S) / 8 ≡ length S = omega (arith, own-length S) in
      bad-none 21 (entry_ok 8 vertices most (list S)) (length (list S) / 8) (rw n (along GoodTo S good_more [] S refl (refl, λ i h. absurd (omega arith))).1)

-- ---- the order of settling
module _ (N : Tables) (Q : Query) (ok : Valid N Q) {l : List Settled} (O : IsOrder N Q l) where
  settled-low : (x : Settled) → In x l → (x.vertex < vertex_count N) × (x.distance ≤ allowed Q)
  settled-low x i =
      let far = figure-exactly N Q ok O x.vertex x.distance i in
      let some = (listed-exactly N Q ok O x.vertex).0 (x.distance, i) in
      (arrives-low (network N Q) (ways N Q) (laws N Q ok) (journey-arrives N Q ok far.starts), omega (arith, far.latest some.0 some.2, some.1))

  -- The list of a run of any limit has no bad entry.
  pub own-list-good : (k : ℕ) → list_refusal 8 (vertex_count N) (allowed Q) (flat_map settled_bytes (take k l)) ≡ fine
  own-list-good k =
      distinct-good (take k l) (vertex_count N) (allowed Q) (order-distinct N Q ok O k)
      (λ x i. settled-low x (subst (In x) (take-append-drop k l) (in_left (take k l) (drop k l) x i)))
