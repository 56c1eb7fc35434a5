-- The walks that arrive at the vertex of an entry, and the parts of one entry more. Assumes nothing.
use mathlib.Core.Path.{◌≡◌, sym, ap, subst, ◌∙◌}
use mathlib.Core.Logic.{⊎_elim}
use mathlib.Core.List.{List, append-nil}
use Prim.Native.Nat.{ℕ, suc, ◌+◌, ◌-◌, ◌*◌, ◌/◌, ◌≤◌, ◌<◌}
use native.Mathlib.Omega.{arith}
use lib.ListN.{length, length-append}
use Rattle.journeys.specs.Bytes.{be32}
use Rattle.journeys.specs.Counting.{joined}
use Rattle.journeys.specs.Tables.{vertex_at}
use Rattle.journeys.specs.Parts.{Part}
use Rattle.records.specs.Arriving.{first_of, end_of}
use Rattle.records.specs.declared.Kind.TheVariants.{Walks}
use Rattle.parts.specs.Listing.{parts_on, aheads_on, Behind, Overfull, ListedIs}
use Rattle.std.specs.Prelude.{Option, Some, None, IfSome, Ok, Err}
use Rattle.parts.specs.declared.Road.{Road}
use Rattle.journeys.proofs.Tests.{le-or-lt}
use Rattle.records.specs.Columns.{records_in}
use Rattle.listing.specs.Places.{total, from_of, below, same}
use Rattle.listing.proofs.PlaceLaws.{below_next, below-most, same_grows}
use Rattle.stretches.specs.Stretch.{walks_of}
use Rattle.stretches.specs.declared.Stretch.{Stretch}
use Rattle.stretches.proofs.Numbers.{stretch-walks}
use Rattle.parts.proofs.Laws.{behind-none, behind_more, over-more, listed-as, listed-length, listed-room}
use Rattle.covering.specs.Covering.{Sound, Leaving, first_at, end_at, entry_on, entry_ahead, listed_in, CoveredIs}

-- ---- one entry, in the code's terms
module _ (v w list : List ℕ) (allowed i x : ℕ) (s : Sound v w list allowed i) (e : x ≡ be32 list (8 * i)) where
  pub first-is : (first : ℕ) → first ≡ first_of Walks (vertex_at v x) → first ≡ first_at v w list i
  first-is first f = f ∙ ap (λ (z : ℕ). first_of Walks (vertex_at v z)) e

  pub end_is : (end : ℕ) → end ≡ end_of Walks v (length w / 16) x → end ≡ end_at v w list i
  end_is end f = f ∙ ap (λ (z : ℕ). end_of Walks v (length w / 16) z) e

  pub first_fits : (first : ℕ) → first ≡ first_of Walks (vertex_at v x) → first ≤ length w / 16
  first_fits first f = omega (arith, first-is first f, s.order, s.fit)

  pub run_fits : (first end : ℕ) → first ≡ first_of Walks (vertex_at v x) → end ≡ end_of Walks v (length w / 16) x → (first ≤ end) × (end ≤ length w / 16)
  run_fits first end f g = (omega (arith, first-is first f, end_is end g, s.order), omega (arith, end_is end g, s.fit))

  -- What is listed at the vertex are the parts of the entry.
  pub entry_listed : (road : Road) (first end d count : ℕ) (b b' : List ℕ) (r : Option ℕ) → d ≡ be32 list (8 * i + 4) → first ≡ first_of Walks (vertex_at v x) → end ≡ end_of Walks v (length w / 16) x
      → ListedIs count (parts_on w road (allowed - d) first (end - first)) b b' r → ListedIs count (entry_on v w list road allowed i) b b' r
  unfolding entry_on
  entry_listed road first end d count b b' r q f g l = rw (q, first-is first f, end_is end g) at l

-- the same for the courier: u is the vertex of the entry, s the stretch of its walks
module _ (size : ℕ) (v w h r list : List ℕ) (ok : Leaving size v w h r) (i u : ℕ) (s : Stretch) (e : s ≡ walks_of size w h u) where
  abbrev F : ℕ → ℕ
  F = from_of size w h

  abbrev n : ℕ
  n = total size w h

  begins : s.first ≡ below (from_of size w h) u (total size w h)
  begins = ap (λ (x : Stretch). x.first) e

  many : s.many ≡ same (from_of size w h) u (records_in 16 w)
  many = ap (λ (x : Stretch). x.many) e

  pub stretch-in : s.first + s.many ≤ total size w h
  stretch-in = omega (arith, begins, many, same_grows F u (records_in 16 w) n (omega arith), below_next F u n, below-most F (suc u) n)

  pub stretch-fits : (s.first ≤ s.first + s.many) × (s.first + s.many ≤ length r / 4) × ((j : ℕ) → s.first ≤ j → j < s.first + s.many → be32 r (4 * j) < length w / 16)
  stretch-fits = (
    omega arith,
    omega (arith, stretch-in, ok.long),
    λ j l m.
        let k : below F u n + (j - s.first) ≡ j = omega (arith, begins) in
        subst (λ (z : ℕ). be32 r (4 * z) < length w / 16) k (stretch-walks ok.right u (records_in 16 w) (j - s.first) (omega arith) (omega (arith, many))),
  )

  pub ahead-listed : (road : Road) (allowed d count : ℕ) (b b' : List ℕ) (x : Option ℕ) → u ≡ be32 list (8 * i) → d ≡ be32 list (8 * i + 4)
      → ListedIs count (aheads_on w road (allowed - d) r s.first (s.first + s.many - s.first)) b b' x → ListedIs count (entry_ahead size w h r list road allowed i) b b' x
  unfolding entry_ahead
  ahead-listed road allowed d count b b' x p q l =
      let z : s.first + s.many - s.first ≡ s.many = omega arith in
      listed-as count _ _ b b' x
      (ap (aheads_on w road (allowed - d) r s.first) z
      ∙ ap (λ (y : ℕ). aheads_on w road (allowed - y) r s.first s.many) q
      ∙ ap (λ (y : Stretch). aheads_on w road (allowed - be32 list (8 * i + 4)) r y.first y.many) (e ∙ ap (walks_of size w h) p)) l

pub over-same : (count : ℕ) (ps : List Part) (b b' : List ℕ) → ListedIs count ps b b' None → length b' ≡ length b
unfolding ListedIs
over-same count ps b b' x = x.same

-- ---- entry by entry: b₁ is the buffer behind step 0, b₂ behind i entries
pub record Going (entry : ℕ → List Part) (b₁ : List ℕ) (first : ℕ) (b₂ : List ℕ) (count i : ℕ) : Type 0 where
  pub behind : Behind first (joined entry i) b₁ b₂ count
  pub room : (j : ℕ) → j ≤ i → first + length (joined entry j) ≤ length b₁ / 12

module _ (step₀ : List Part) (entry : ℕ → List Part) where
  abbrev f : ℕ → List Part
  f = listed_in step₀ entry

  abbrev more : ℕ → List Part
  more = joined entry

  -- Step 0 alone has no room.
  pub no-first : (n : ℕ) (b b₁ : List ℕ) → ListedIs 0 step₀ b b₁ None → CoveredIs f n b b₁ (Err 0)
  unfolding ListedIs CoveredIs listed_in joined
  no-first n b b₁ x =
      record { made = omega arith; over = omega (arith, x.over, ap length (append-nil step₀)); before = λ j l. absurd (omega arith); same = x.same }

  module _ (b b₁ : List ℕ) (first : ℕ) (F : ListedIs 0 step₀ b b₁ (Some first)) where
    opened : Behind 0 step₀ b b₁ first
    unfolding ListedIs
    opened = F

    same₁ : length b₁ ≡ length b
    same₁ = listed-length 0 step₀ b b₁ first F

    long : (k : ℕ) → length (f k) ≡ first + length (more k)
    unfolding listed_in
    long k = omega (arith, length-append step₀ (more k), opened.counted)

    pub go-start : Going entry b₁ first b₁ first 0
    unfolding joined
    go-start = record {
      behind = behind-none first b₁ (omega (arith, opened.room, same₁));
      room = λ j h. let z : j ≡ 0 = omega arith in rw z (omega (arith, opened.room, same₁));
    }

    module _ (b₂ : List ℕ) (count i : ℕ) (G : Going entry b₁ first b₂ count i) where
      low : first ≤ length b₁ / 12
      low = omega (arith, opened.room, same₁)

      kept : length b₂ ≡ length b₁
      unfolding ListedIs
      kept = listed-length first (more i) b₁ b₂ count G.behind

      pub go_same : length b₂ ≡ length b
      go_same = kept ∙ same₁

      pub go-room : count ≤ length b₂ / 12
      go-room = omega (arith, G.behind.room, ap (λ (k : ℕ). k / 12) kept)

      pub go-next : (count' : ℕ) (b₃ : List ℕ) → ListedIs count (entry i) b₂ b₃ (Some count') → Going entry b₁ first b₃ count' (i + 1)
      unfolding ListedIs joined
      go-next count' b₃ x =
          let q : i + 1 ≡ suc i = omega arith in
          let y : Behind first (more (suc i)) b₁ b₃ count' = behind_more low G.behind x in
          subst (λ (k : ℕ). Going entry b₁ first b₃ count' k) (sym q) (record {
            behind = y;
            room = λ j h. ⊎_elim (λ (z : j ≤ i). G.room j z) (λ (z : i < j). let s : j ≡ suc i = omega arith in rw s (omega (arith, y.counted, y.room))) (le-or-lt j i);
          })

      pub go-full : (n : ℕ) (b₃ : List ℕ) → i < n → ListedIs count (entry i) b₂ b₃ None → CoveredIs f n b b₃ (Err (i + 1))
      unfolding ListedIs CoveredIs joined
      go-full n b₃ l x =
          let y : Overfull first (more (suc i)) b₁ b₃ = over-more low G.behind x in
          let q : i + 1 ≡ suc i = omega arith in
          let z : length (f (i + 1)) ≡ first + length (more (suc i)) = ap (λ (k : ℕ). length (f k)) q ∙ long (suc i) in
          record {
            made = omega arith;
            over = omega (arith, y.over, z, ap (λ (k : ℕ). k / 12) same₁);
            before = λ j h. omega (arith, long j, G.room j (omega arith), ap (λ (k : ℕ). k / 12) same₁);
            same = y.same ∙ same₁;
          }

      pub go-done : (n : ℕ) → i ≡ n → CoveredIs f n b b₂ (Ok count)
      unfolding CoveredIs listed_in
      go-done n q =
          let y : Behind 0 (f i) b b₂ count = behind_more (omega arith) opened G.behind in (
            subst (λ (k : ℕ). Behind 0 (f k) b b₂ count) q y,
            λ j h. omega (arith, long j, G.room j (omega arith), ap (λ (k : ℕ). k / 12) same₁),
          )

-- what is known of the number in a Some
pub at-some : (P : ℕ → Type 0) {r : Option ℕ} {x : ℕ} → r ≡ Some x → IfSome r P → P x
at-some P e p = subst (λ (o : Option ℕ). IfSome o P) e p

-- what is listed, if it fits, leaves its number within the room
pub room-kept : (count : ℕ) (ps : List Part) (b b' : List ℕ) (r : Option ℕ) → count ≤ length b / 12 → ListedIs count ps b b' r → IfSome r (λ k. k ≤ length b' / 12)
room-kept count ps b b' (Some k) h x = listed-room count ps b b' h k x
room-kept count ps b b' None h x = tt
