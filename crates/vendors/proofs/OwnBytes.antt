-- A settled list with a record put behind each entry reads back; so our own finished list passes with any records that tell where its distances come from, and
-- there are such records. Assumes nothing.
use mathlib.Core.Path.{◌≡◌, sym, ap, ap₂, subst, ◌∙◌}
use mathlib.Core.Logic.{inl, inr, ⊎_elim}
use mathlib.Core.List.{List, [], ◌∷◌, ◌++◌, append-nil, append_assoc}
use Prim.Native.Nat.{ℕ, zero, suc, ◌+◌, ◌*◌, ◌<◌}
use native.Mathlib.Omega.{arith}
use lib.ListN.{length, get_or, take, length-append}
use lib.Seq.{take-length, take-suc}
use Rattle.journeys.specs.Counting.{joined}
use Rattle.journeys.specs.Bytes.{be32, word}
use Rattle.journeys.specs.Tables.{Tables}
use Rattle.journeys.specs.Query.{Query}
use Rattle.journeys.specs.Order.{Settled, settled, IsOrder}
use Rattle.journeys.specs.Answers.{settled_bytes}
use Rattle.journeys.specs.Records.{network}
use Rattle.journeys.specs.Refusals.{fine}
use Rattle.journeys.specs.Valid.{Valid}
use Rattle.journeys.specs.Lists.{vertex_in, distance_at}
use Rattle.journeys.specs.VendorLists.{size, record_in, entry_in, listed, Reason, vendor_refusal, with_records}
use Rattle.journeys.proofs.Tests.{last-or-below}
use Rattle.journeys.proofs.VendorLists.{listed-none, listed_more, own-list-right, own-reasons-exist}
use Rattle.words.proofs.Written.{length-word, be32-word}
use Rattle.vendors.proofs.Exactly.{right-passes}

-- ---- blocks of bytes, one behind the other
module _ (block : ℕ → List ℕ) where
  around : (n i : ℕ) → i < n → (rest : List ℕ) × (joined block n ≡ joined block i ++ (block i ++ rest))
  unfolding joined
  around zero i h = absurd (omega arith)
  around (suc n) i h =
      ⊎_elim (λ (e : i ≡ n). ([], rw e (ap (λ (l : List ℕ). joined block n ++ l) (sym (append-nil (block n))))))
      (λ (l : i < n). let r = around n i l in (r.0 ++ block n, ap (λ (l : List ℕ). l ++ block n) r.1 ∙ simp append_assoc))
      (last-or-below h)

  long-blocks : (size : ℕ) → ((i : ℕ) → length (block i) ≡ size) → (n : ℕ) → length (joined block n) ≡ size * n
  unfolding joined
  long-blocks size each zero = omega arith
  long-blocks size each (suc n) = length-append (joined block n) (block n) ∙ omega (arith, each n, long-blocks size each n)

-- ---- the list of l with the records f
module _ (l : List Settled) (f : ℕ → ℕ) where
  abbrev at : ℕ → Settled
  at i = get_or l i (settled 0 0)

  abbrev list : List ℕ
  list = with_records l f

  abbrev block : ℕ → List ℕ
  block i = settled_bytes (at i) ++ word (f i)

  twelve : (i : ℕ) → length (block i) ≡ 12
  twelve i = simp length-append (omega (arith, length-word (at i).vertex, length-word (at i).distance, length-word (f i)))

  pub own-whole : length list ≡ 12 * length l
  unfolding with_records
  own-whole = long-blocks block 12 twelve (length l)

  pub own-size : size list ≡ length l
  own-size = omega (arith, own-whole)

  module _ (i : ℕ) (h : i < length l) where
    abbrev p : List ℕ
    p = joined block i

    abbrev rest : List ℕ
    rest = (around block (length l) i h).0

    before : length p ≡ 12 * i
    before = long-blocks block 12 twelve i

    is : list ≡ p ++ (settled_bytes (at i) ++ word (f i) ++ rest)
    unfolding with_records
    is = (around block (length l) i h).1

    vertex-read : vertex_in 12 list i ≡ (at i).vertex
    vertex-read =
        ap₂ be32 (is ∙ simp append_assoc) (sym before) ∙ be32-word p (word (at i).distance ++ (word (f i) ++ rest)) (at i).vertex

    distance_read : distance_at 12 list i ≡ (at i).distance
    distance_read =
        let n : 12 * i + 4 ≡ length (p ++ word (at i).vertex) = simp length-append (omega (arith, before, length-word (at i).vertex)) in
        ap₂ be32 (is ∙ simp append_assoc) n ∙ be32-word (p ++ word (at i).vertex) (word (f i) ++ rest) (at i).distance

    pub record-read : record_in list i ≡ f i
    record-read =
        let n : 12 * i + 8 ≡ length (p ++ word (at i).vertex ++ word (at i).distance) = simp length-append (omega (arith, before, length-word (at i).vertex, length-word (at i).distance)) in
        ap₂ be32 (is ∙ simp append_assoc) n ∙ be32-word (p ++ word (at i).vertex ++ word (at i).distance) rest (f i)

    pub entry_read : entry_in list i ≡ at i
    entry_read = ap₂ settled vertex-read distance_read

  front : (n : ℕ) → n < suc (length l) → listed list n ≡ take n l
  front zero h = listed-none list
  front (suc n) h =
      listed_more list n
      ∙ ap₂ (λ (S : List Settled) (x : Settled). S ++ x ∷ []) (front n (omega arith)) (entry_read n (omega arith))
      ∙ sym (take-suc l n (settled 0 0) (omega arith))

  -- What was settled is read from the list.
  pub own-listed : listed list (size list) ≡ l
  own-listed = ap (listed list) own-size ∙ front (length l) (omega arith) ∙ take-length l

-- ---- the order of settling
module _ (N : Tables) (Q : Query) (ok : Valid N Q) {l : List Settled} (O : IsOrder N Q l) where
  abbrev Told : (ℕ → ℕ) → Type 0
  Told f = (i : ℕ) → i < length l → Reason (network N Q) (λ i. get_or l i (settled 0 0)) i (f i)

  as-listed : (f : ℕ → ℕ) → Told f → (i : ℕ) → i < size (with_records l f) → Reason (network N Q) (entry_in (with_records l f)) i (record_in (with_records l f) i)
  as-listed f told i h = go (told i k)
    where
      k : i < length l
      k = omega (arith, own-size l f)

      read : (j : ℕ) → j < length l → get_or l j (settled 0 0) ≡ entry_in (with_records l f) j
      read j m = sym (entry_read l f j m)

      go : Reason (network N Q) (λ i. get_or l i (settled 0 0)) i (f i) → Reason (network N Q) (entry_in (with_records l f)) i (record_in (with_records l f) i)
      go (inl p) = rw (record-read l f i k) (inl (p.0, subst (λ (x : Settled). (network N Q).seed x.vertex ≡ x.distance) (read i k) p.1))
      go (inr p) =
          let q = p.2 in
          let m : q.0 < length l = omega (arith, q.1, k) in
          rw (record-read l f i k) (inr (
            p.0,
            p.1 ∙ ap (λ (x : Settled). x.vertex) (read i k),
            (
              q.0,
              q.1,
              q.2 ∙ ap (λ (x : Settled). x.vertex) (read q.0 m),
              subst (λ (x : Settled). (network N Q).offer (f i) x.distance ≡ (entry_in (with_records l f) i).distance) (read q.0 m)
                  (q.3 ∙ ap (λ (x : Settled). x.distance) (read i k)),
            ),
          ))

  -- Our own finished list passes, with any records that tell where its distances come from.
  pub own-list-passes : (f : ℕ → ℕ) → Told f → vendor_refusal N Q (with_records l f) ≡ fine
  own-list-passes f told = right-passes N Q ok (with_records l f) (own-list-right N Q ok O (with_records l f) (own-listed l f) (as-listed f told))

  -- And there are such records, each FFFFFFFF or the number of a record.
  pub some-list-passes : (f : ℕ → ℕ) × Told f × (vendor_refusal N Q (with_records l f) ≡ fine)
  some-list-passes = let x = own-reasons-exist N Q ok O in (x.0, x.1, own-list-passes x.0 x.1)
