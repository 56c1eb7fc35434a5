-- What an input has that is not refused: the lengths, the vertices of the list, the points. Assumes nothing.
use mathlib.Core.Path.{◌≡◌, refl, ◌∙◌}
use mathlib.Core.Logic.{◌≢◌}
use mathlib.Core.Bool.{Bool, true, false, ◌&&◌}
use mathlib.Core.List.{List}
use Prim.Native.Nat.{ℕ, ◌-◌, ◌*◌, ◌/◌, ◌≤◌, ◌<◌}
use native.Mathlib.Omega.{arith}
use lib.Dec.{eqb, leb, ltb}
use lib.ListN.{length}
use borrow.Author.Tests.{eqb-true, leb-true, ltb-true, eq-eqb, ne_eqb}
use Rattle.journeys.specs.Counting.{none}
use Rattle.journeys.specs.Refusals.{fine, unless, first_bad, whole_of, table_of}
use Rattle.journeys.proofs.Tests.{and_both}
use Rattle.journeys.proofs.Refusals.{or-fine, or-next}
use Rattle.journeys.proofs.Refusals.{bad-fine}
use Rattle.journeys.specs.Lists.{vertex_in, list_refusal}
use Rattle.lists.proofs.Meaning.{entry-means, list-good}
use Rattle.frame.specs.Frames.{point_ok, no_bounds, bounds_to, frame_lengths, frame_refusal, frame_bounds, Listed}

unless-fine : (t : Bool) (number place : ℕ) → 0 < number → (unless t number place).number ≡ 0 → t ≡ true
unfolding unless
unless-fine true number place h e = refl
unless-fine false number place h e = absurd (let z : ⊥ = omega (arith, e) in z)

good-is-fine : (t : Bool) (number place : ℕ) → t ≡ true → unless t number place ≡ fine
unfolding unless
good-is-fine true number place e = refl
good-is-fine false number place e = cc

module _ (vertices list coordinates : List ℕ) where
  -- refusal 1 is not given
  module _ (e : (frame_lengths vertices list coordinates).number ≡ 0) where
    sizes : (table_of 12 1 65536 vertices ≡ true) × (whole_of 8 list ≡ true) × (eqb (length coordinates) (8 * (length vertices / 12)) ≡ true)
    unfolding frame_lengths
    sizes =
        let p = or-fine _ _ e in
        let q = or-fine _ _ p.1 in (
          unless-fine (table_of 12 1 65536 vertices) 1 0 (omega arith) p.0,
          unless-fine (whole_of 8 list) 1 4 (omega arith) q.0,
          unless-fine (eqb (length coordinates) (8 * (length vertices / 12))) 1 6 (omega arith) q.1,
        )

    pub few-vertices : length vertices / 12 ≤ 65536
    unfolding table_of
    few-vertices =
        leb-true (length vertices / 12) 65536 (and_both (whole_of 12 vertices && leb 1 (length vertices / 12)) (leb (length vertices / 12) 65536) sizes.0).1

    pub one-point-each : length coordinates ≡ 8 * (length vertices / 12)
    one-point-each = eqb-true (length coordinates) (8 * (length vertices / 12)) sizes.2

  -- no refusal is given
  module _ (e : (frame_refusal vertices list coordinates).number ≡ 0) where
    parts : ((frame_lengths vertices list coordinates).number ≡ 0) × ((list_refusal 8 (length vertices / 12) none list).number ≡ 0) × ((first_bad 23 (point_ok coordinates) (length vertices / 12)).number ≡ 0)
        × ((unless (ltb 0 (length list / 8)) 24 0).number ≡ 0)
    unfolding frame_refusal
    parts =
        let p = or-fine _ _ e in
        let q = or-fine _ _ p.1 in
        let r = or-fine _ _ q.1 in
        (p.0, q.0, r.0, r.1)

    pub some-entry : 0 < length list / 8
    some-entry = ltb-true 0 (length list / 8) (unless-fine (ltb 0 (length list / 8)) 24 0 (omega arith) parts.3)

    pub point-fine : (v : ℕ) → v < length vertices / 12 → point_ok coordinates v ≡ true
    point-fine v h = bad-fine 23 (point_ok coordinates) (length vertices / 12) (omega arith) parts.2 v h

    pub vertex-listed : (i : ℕ) → i < length list / 8 → vertex_in 8 list i < length vertices / 12
    vertex-listed i h = ((entry-means 8 (length vertices / 12) none list i).0 (list-good 8 (length vertices / 12) none list parts.1 i h)).0

    pub all_listed : Listed list coordinates
    all_listed i h =
        (omega (arith, vertex-listed i h, one-point-each parts.0), point-fine (vertex_in 8 list i) (vertex-listed i h))

    -- where the number is 0, so is the place
    pub refusal-fine : frame_refusal vertices list coordinates ≡ fine
    unfolding frame_refusal
    refusal-fine =
        or-next _ _ parts.0
        ∙ or-next _ _ parts.1
        ∙ or-next _ _ parts.2
        ∙ good-is-fine (ltb 0 (length list / 8)) 24 0 (unless-fine (ltb 0 (length list / 8)) 24 0 (omega arith) parts.3)

-- ---- the frame of the answer
module _ (vertices list coordinates : List ℕ) where
  pub bounds-none : (frame_refusal vertices list coordinates).number ≢ 0 → frame_bounds vertices list coordinates ≡ no_bounds
  unfolding frame_bounds
  bounds-none n = rw (ne_eqb (frame_refusal vertices list coordinates).number 0 n)

  pub bounds-are : (frame_refusal vertices list coordinates).number ≡ 0 → frame_bounds vertices list coordinates ≡ bounds_to list coordinates (length list / 8 - 1)
  unfolding frame_bounds
  bounds-are e = rw (eq-eqb (frame_refusal vertices list coordinates).number 0 e)
