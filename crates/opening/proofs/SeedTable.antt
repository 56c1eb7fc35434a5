-- The seeds are entered into the working table. Assumes nothing.
use Rattle.std.specs.Prelude.{Option, Some, None, IfSome}
use mathlib.Core.Path.{◌≡◌, refl, sym, ap, subst, ◌∙◌}
use mathlib.Core.Logic.{inl, ◌≢◌}
use mathlib.Core.Bool.{Bool, true, false, cond}
use mathlib.Core.List.{List}
use Prim.Native.Nat.{ℕ, zero, suc, ◌+◌, ◌*◌, ◌≤◌, ◌<◌}
use native.Mathlib.Omega.{arith}
use Rattle.worktable.specs.Map.{Entry, absent, known, Map, empty, put, remaining_limit, Figure, one, size_to, size}
use Rattle.worktable.specs.Table.{map_of, InOrder, Holds, Gives}
use Rattle.worktable.specs.declared.Table.{Table}
use Rattle.worktable.proofs.MapLaws.{put_other, size-put}
use Rattle.directed.specs.Directed.{due_of}
use Rattle.directed.specs.declared.Directed.{Directed}
use Rattle.opening.specs.Seeds.{seed_map, SeedFits, PairFits, planted_if, one_or_two, SeededIs}
use Rattle.opening.specs.declared.Seed.{Seed}
use Rattle.opening.specs.declared.Pair.{Pair}

-- ---- the seeds
size-empty : (n : ℕ) → size_to n empty ≡ 0
unfolding size_to empty one
size-empty zero = refl
size-empty (suc n) = omega (arith, size-empty n)

size-one : (u : ℕ) (e : Entry) → u < 65536 → one e ≡ 1 → size (put empty u e) ≡ 1
unfolding size empty one
size-one u e h o = omega (arith, size-put 65536 empty u e h, size-empty 65536)

one_known : (d s n : ℕ) → one (known d s n) ≡ 1
unfolding one
one_known d s n = refl

near-distance : (d : ℕ) → d ≤ 112000 → Figure d
near-distance d h = inl (omega arith)

pub first-seed : (t : Table) (b : List ℕ) (c u d n : ℕ) → Holds t b empty → t.room ≡ c → 1 ≤ c → u < 65536 → d ≤ 112000 → n < remaining_limit
    → InOrder t b × (u < 65536) × Figure d × (n < remaining_limit) × (map_of t b u ≡ absent) × (size (map_of t b) < t.room)
unfolding empty size
first-seed t b c u d n h e l ul dl nl =
    (h.order, ul, near-distance d dl, nl, ap (λ (m : Map). m u) h.map, rw h.map (omega (arith, size-empty 65536)))

-- what the first insert leaves
pub after_first : (t r : Table) (b b1 : List ℕ) (u d n n' : ℕ) → n ≡ n' → Holds t b empty → Gives t r b b1 (put (map_of t b) u (known d 0 n)) → Holds r b1 (put empty u (known d 0 n'))
after_first t r b b1 u d n n' q h g =
    record { order = g.holds.order; map = g.holds.map ∙ ap (λ (m : Map). put m u (known d 0 n)) h.map ∙ ap (λ (k : ℕ). put empty u (known d 0 k)) q }

-- what the other seed has to be, if there is one
pub other-fits : (n : ℕ) (p : Pair) {s : Seed} → PairFits n p → p.other ≡ Some s → SeedFits n s × (p.sure.vertex ≢ s.vertex)
other-fits n p f e = subst (λ (o : Option Seed). IfSome o (λ s. SeedFits n s × (p.sure.vertex ≢ s.vertex))) e f.other

pub second-seed : (r : Table) (b : List ℕ) (from x s k u d n : ℕ) → Holds r b (put empty from (known x s k)) → from < 65536 → from ≢ u → 2 ≤ r.room → u < 65536 → d ≤ 112000 → n < remaining_limit
    → InOrder r b × (u < 65536) × Figure d × (n < remaining_limit) × (map_of r b u ≡ absent) × (size (map_of r b) < r.room)
unfolding empty
second-seed r b from x s k u d n h fl ne cap ul dl nl = (
  h.order,
  ul,
  near-distance d dl,
  nl,
  ap (λ (m : Map). m u) h.map ∙ put_other empty from (known x s k) u (λ z. ne (sym z)),
  rw h.map (omega (arith, size-one from (known x s k) fl (one_known x s k))),
)

module _ (v : List ℕ) (a : Directed) (m : Map) (c : ℕ) where
  pub seeded-none : (b : List ℕ) (o : Option Seed) → c < 1 → SeededIs b c (planted_if v a m o) (one_or_two o) None
  unfolding SeededIs one_or_two
  seeded-none b (Some s) l = omega arith
  seeded-none b None l = l

  pub seeded-one : (r : Table) (b : List ℕ) (o : Option Seed) → o ≡ None → Holds r b m → r.room ≡ c → 1 ≤ c → SeededIs b c (planted_if v a m o) (one_or_two o) (Some r)
  unfolding SeededIs planted_if one_or_two
  seeded-one r b o e h q l = rw e (h, q, l)

  pub seeded-few : (b : List ℕ) (o : Option Seed) {s : Seed} → o ≡ Some s → c < 2 → SeededIs b c (planted_if v a m o) (one_or_two o) None
  unfolding SeededIs one_or_two
  seeded-few b o e l = rw e l

  pub seeded-two : (r p : Table) (b b2 : List ℕ) (o : Option Seed) {s : Seed} (n : ℕ) → n ≡ due_of v a s.vertex → o ≡ Some s → Holds r b m → Gives r p b b2 (put (map_of r b) s.vertex (known s.away.0 0 n))
      → r.room ≡ c → 2 ≤ c → SeededIs b2 c (planted_if v a m o) (one_or_two o) (Some p)
  unfolding SeededIs planted_if one_or_two
  seeded-two r p b b2 o {s} n k e h g q l =
      rw e
      (record { order = g.holds.order; map = g.holds.map ∙ ap (λ (x : Map). put x s.vertex (known s.away.0 0 n)) h.map ∙ ap (λ (x : ℕ). put m s.vertex (known s.away.0 0 x)) k }, g.room ∙ q, l)

-- there are one or two of them
pub size-first : (from d n to e k : ℕ) → from < 65536 → to < 65536 → from ≢ to → (two : Bool) → size (seed_map from (known d 0 n) to (known e 0 k) two) ≡ cond two 2 1
unfolding seed_map size one empty
size-first from d n to e k a b ne false = size-one from (known d 0 n) a (one_known d 0 n)
size-first from d n to e k a b ne true =
    let m = put empty from (known d 0 n) in
    let gone : one (m to) ≡ 0 = ap one (put_other empty from (known d 0 n) to (λ z. ne (sym z))) in
    omega (arith, size-put 65536 m to (known e 0 k) b, size-one from (known d 0 n) a (one_known d 0 n), one_known e 0 k, gone)
