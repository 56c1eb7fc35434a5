-- The hops gathered are exactly those between consecutive timed stops of a trip at different vertices.
use mathlib.Core.Path.{◌≡◌, refl, sym, ap, subst, ◌∙◌}
use mathlib.Core.Logic.{⊎_elim, inl}
use mathlib.Core.Bool.{Bool, true, false, not, ◌&&◌}
use mathlib.Core.List.{List, [], ◌∷◌}
use Prim.Native.Nat.{ℕ, suc, ◌+◌, ◌-◌, ◌<◌, ◌≤◌}
use native.Mathlib.Omega.{arith}
use native.Mathlib.Decide.{dec_lt, ℕ_discrete}
use lib.Dec.{eqb}
use lib.ListN.{length}
use borrow.Author.Tests.{eqb-false, ne_eqb}
use Rattle.journeys.specs.Counting.{In}
use Rattle.journeys.proofs.Tests.{never, split, and_both, and-true}
use Rattle.journeys.proofs.Counting.{in-joined, joined_in}
use Rattle.feed.specs.Stops.{Stop}
use Rattle.feed.specs.Trips.{stop, some, between, next}
use Rattle.succession.specs.Entries.{AllOnce, last_timed}
use Rattle.succession.proofs.SomeLaws.{some_at, not-not}
use Rattle.succession.proofs.OrderLaws.{Ordered}
use Rattle.succession.proofs.TimeLaws.{Latest, nothing, left, latest, next-is, next_known, next-arrives, among}
use Rattle.connections.specs.Gathered.{hop_entry, ends, hop_at, hop_entries}
use Rattle.connections.proofs.GatherLaws.{hop-one, hop-none, ends_above, ends_some}

module _ {S : List Stop} (o : Ordered S) (u : AllOnce S) where
  latest-next : (i d : ℕ) → i < length S → (stop S i).timed ≡ true → Latest S i d → 0 < d → (p : ℕ) × (d ≡ suc p) × (p < length S) × (next S p i ≡ true)
  latest-next i d h q (nothing f) l = absurd (omega arith)
  latest-next i d h q (left p a t w f) l = (p, refl, omega arith, next-is o u p i a h t w q f)

  next-latest : (p i d : ℕ) → p < length S → i < length S → next S p i ≡ true → Latest S i d → d ≡ suc p
  next-latest p i d l h e (nothing f) = let k = next_known o u p i l e in never k.2 (f p k.0 k.1)
  next-latest p i d l h e (left q a t w f) = go (next_known o u p i l e) (ℕ_discrete p q) (dec_lt p q)
    where
      go : (p < i) × ((stop S p).trip ≡ (stop S i).trip) × ((stop S p).timed ≡ true) × (some (between S p i) (length S) ≡ false) → Dec (p ≡ q) → Dec (p < q) → suc q ≡ suc p
      go k (yes z) c = ap suc (sym z)
      go k (no z) (yes c) = never (some_at (between S p i) (length S) q (omega arith) (among o u p q i c a h k.1 w)) k.3
      go k (no z) (no c) = never k.2 (f p (omega arith) k.0)

  differ : (p i : ℕ) → not (eqb (stop S p).vertex (stop S i).vertex) ≡ true → (stop S p).vertex ≡ (stop S i).vertex → ⊥
  differ p i e = eqb-false _ _ (sym (not-not _) ∙ ap not e)

  -- from one stop, and from some
  pub hop-at-from : (i x : ℕ) → i < length S → In x (hop_at S i)
      → (p : ℕ) × (p < length S) × (next S p i ≡ true) × ((stop S p).vertex ≡ (stop S i).vertex → ⊥) × (x ≡ hop_entry S p i)
  hop-at-from i x l j =
      ⊎_elim (λ (e : ends S (last_timed S i) i ≡ true). go e (subst (λ (l : List ℕ). In x l) (hop-one S i e) j))
      (λ (e : ends S (last_timed S i) i ≡ false). absurd (subst (λ (l : List ℕ). In x l) (hop-none S i e) j))
      (split (ends S (last_timed S i) i))
    where
      go : ends S (last_timed S i) i ≡ true → In x (hop_entry S (last_timed S i - 1) i ∷ [])
          → (p : ℕ) × (p < length S) × (next S p i ≡ true) × ((stop S p).vertex ≡ (stop S i).vertex → ⊥) × (x ≡ hop_entry S p i)
      go e m =
          let above = ends_above S (last_timed S i) i e in
          let tests = and_both (stop S i).timed (not (eqb (stop S (last_timed S i - 1)).vertex (stop S i).vertex)) (sym (ends_some S (last_timed S i) i above) ∙ e) in
          let q = latest-next i (last_timed S i) l tests.0 (latest o i l) above in
          let z : last_timed S i - 1 ≡ q.0 = omega (arith, q.1) in (
            q.0,
            q.2,
            q.3,
            differ q.0 i (subst (λ (p : ℕ). not (eqb (stop S p).vertex (stop S i).vertex) ≡ true) z tests.1),
            ⊎_elim (λ (w : x ≡ hop_entry S (last_timed S i - 1) i). w ∙ ap (λ (p : ℕ). hop_entry S p i) z) (λ w. absurd w) m,
          )

  pub hop-from : (n x : ℕ) → n ≤ length S → In x (hop_entries S n)
      → (p : ℕ) × (i : ℕ) × (i < n) × (p < length S) × (next S p i ≡ true) × ((stop S p).vertex ≡ (stop S i).vertex → ⊥) × (x ≡ hop_entry S p i)
  unfolding hop_entries
  hop-from n x h j =
      let r = joined_in (hop_at S) n x j in
      let q = hop-at-from r.0 x (omega (arith, r.1)) r.2 in
      (q.0, r.0, r.1, q.1, q.2, q.3, q.4)

  pub hop-into : (n p i : ℕ) → n ≤ length S → i < n → p < length S → next S p i ≡ true → ((stop S p).vertex ≡ (stop S i).vertex → ⊥) → In (hop_entry S p i) (hop_entries S n)
  unfolding hop_entries
  hop-into n p i h l m e f =
      let d = next-latest p i (last_timed S i) m (omega arith) e (latest o i (omega arith)) in
      let z : last_timed S i - 1 ≡ p = omega (arith, d) in
      let above : 0 < last_timed S i = omega (arith, d) in
      let t : ends S (last_timed S i) i ≡ true =
      ends_some S (last_timed S i) i above
      ∙ and-true (next-arrives o u p i e) (subst (λ (k : ℕ). not (eqb (stop S k).vertex (stop S i).vertex) ≡ true) (sym z) (ap not (ne_eqb _ _ f))) in
      in-joined (hop_at S) n i (hop_entry S p i) l
      (subst (λ (r : List ℕ). In (hop_entry S p i) r) (sym (hop-one S i t)) (inl (ap (λ (k : ℕ). hop_entry S k i) (sym z))))
