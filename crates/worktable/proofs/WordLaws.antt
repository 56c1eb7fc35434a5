-- Words and entries.
use mathlib.Core.Path.{◌≡◌, refl, sym, ap, ◌∙◌}
use mathlib.Core.Logic.{◌≢◌, inl, inr, ⊎_elim}
use mathlib.Core.Bool.{Bool, true, false, ◌&&◌}
use Prim.Native.Nat.{ℕ, ◌-◌, ◌+◌, ◌*◌, ◌/◌, ◌%◌, ◌<◌, ◌≤◌, min}
use native.Mathlib.Omega.{arith}
use native.Mathlib.Decide.{ℕ_discrete}
use lib.Dec.{eqb, ltb}
use borrow.Author.Tests.{ltb-true, lt-ltb}
use Rattle.journeys.proofs.Tests.{same_test, le-or-lt}
use Rattle.table_tree.specs.Words.{vacant, vertex_in, key}
use Rattle.table_records.specs.Fields.{distance_in, state_in, remaining_in}
use Rattle.journeys.specs.Counting.{none}
use Rattle.worktable.specs.Map.{absent, known, remaining_limit, Figure, spent}
use Rattle.worktable.specs.Inside.{word_of, entry_in}
use Rattle.worktable.proofs.MapLaws.{choose_yes, choose_no, absent-known, spent-open, spent-settled}

pub entry_vacant : {w : ℕ} → w ≡ vacant → entry_in w ≡ absent
unfolding entry_in
entry_vacant {w} e = choose_yes (ℕ_discrete w vacant) absent (known (distance_in w) (state_in w) (remaining_in w)) e

pub entry-used : (w : ℕ) → w ≢ vacant → entry_in w ≡ known (distance_in w) (state_in w) (remaining_in w)
unfolding entry_in
entry-used w n = choose_no (ℕ_discrete w vacant) absent (known (distance_in w) (state_in w) (remaining_in w)) n

pub absent-vacant : (w : ℕ) → entry_in w ≡ absent → w ≡ vacant
absent-vacant w e = go (ℕ_discrete w vacant)
  where
    go : Dec (w ≡ vacant) → w ≡ vacant
    go (yes p) = p
    go (no p) = absurd (absent-known (sym e ∙ entry-used w p))

pub vertex-low : (w : ℕ) → vertex_in w < 65536
unfolding vertex_in
vertex-low w = omega arith

-- the state by the size of the word
pub open-low : (w : ℕ) → w < 9223372036854775808 → state_in w ≡ 0
unfolding state_in
open-low w h = omega arith

pub settled-high : (w : ℕ) → 9223372036854775808 ≤ w → state_in w ≢ 0
unfolding state_in
settled-high w h z = omega arith

pub known_is : {d d' s s' n n' : ℕ} → d ≡ d' → s ≡ s' → n ≡ n' → known d s n ≡ known d' s' n'
known_is a b c = rw (a, b, c)

pub key-vacant : (w : ℕ) → key w ≤ key vacant
unfolding key
key-vacant w = omega arith

-- a settled word comes last, as the vacant one does
pub key-settled : (w : ℕ) → 9223372036854775808 ≤ w → key vacant ≡ key w
unfolding key
key-settled w h = omega arith

-- a new word
module _ (u d n : ℕ) (lu : u < 65536) (ld : Figure d) (ln : n < remaining_limit) where
  pub new-used : word_of u d n ≢ vacant
  unfolding word_of
  new-used e = omega arith

  pub new-vertex : vertex_in (word_of u d n) ≡ u
  unfolding word_of vertex_in
  new-vertex = omega arith

  new-distance : Figure d → distance_in (word_of u d n) ≡ d
  unfolding word_of distance_in
  new-distance (inl h) = omega arith
  new-distance (inr h) = omega arith

  new-state : state_in (word_of u d n) ≡ 0
  unfolding word_of state_in
  new-state = omega arith

  new-remaining : remaining_in (word_of u d n) ≡ n
  unfolding word_of remaining_in
  new-remaining = omega arith

  pub new-entry : entry_in (word_of u d n) ≡ known d 0 n
  new-entry = entry-used (word_of u d n) new-used ∙ known_is (new-distance ld) new-state new-remaining

-- one less remains
module _ (w : ℕ) (fit : w < 18446744073709551616) (some : 0 < remaining_in w) where
  pub less-some : 1 ≤ w
  unfolding remaining_in
  less-some = omega arith

  pub less-used : w - 1 ≢ vacant
  unfolding remaining_in
  less-used e = omega arith

  pub less-vertex : vertex_in (w - 1) ≡ vertex_in w
  unfolding vertex_in remaining_in
  less-vertex = omega arith

  pub less-key : key (w - 1) ≡ key w
  unfolding key remaining_in
  less-key = omega arith

  pub less-half : (w - 1) / 68719476736 ≡ w / 68719476736
  unfolding remaining_in
  less-half = omega arith

  pub less-distance : distance_in (w - 1) ≡ distance_in w
  unfolding distance_in
  less-distance = rw less-half

  pub less-state : state_in (w - 1) ≡ state_in w
  unfolding state_in remaining_in
  less-state = omega arith

  pub less-remaining : remaining_in (w - 1) ≡ remaining_in w - 1
  unfolding remaining_in
  less-remaining = omega arith

  pub less-entry : entry_in (w - 1) ≡ known (distance_in w) (state_in w) (remaining_in w - 1)
  less-entry = entry-used (w - 1) less-used ∙ known_is less-distance less-state less-remaining

-- settled, with a distance
module _ (w : ℕ) (open-word : state_in w ≡ 0) (some : distance_in w < none) where
  pub settled-fits : w + 9223372036854775808 < 18446744073709551616
  unfolding state_in
  settled-fits = omega arith

  pub settled-used : w + 9223372036854775808 ≢ vacant
  unfolding state_in distance_in
  settled-used e = omega arith

  pub settled-vertex : vertex_in (w + 9223372036854775808) ≡ vertex_in w
  unfolding vertex_in
  settled-vertex = omega arith

  pub settled-entry : entry_in (w + 9223372036854775808) ≡ known (distance_in w) 1 (remaining_in w)
  unfolding distance_in state_in remaining_in
  settled-entry = entry-used (w + 9223372036854775808) settled-used ∙ known_is d s n
    where
      half : (w + 9223372036854775808) / 68719476736 % 134217728 ≡ w / 68719476736 % 134217728
      half = omega arith

      d : distance_in (w + 9223372036854775808) ≡ distance_in w
      d = rw half

      s : state_in (w + 9223372036854775808) ≡ 1
      s = omega arith

      n : remaining_in (w + 9223372036854775808) ≡ remaining_in w
      n = omega arith

lesser-is : (d q : ℕ) → d < q → q < 134217728 → d % 134217728 + d % 134217728 / 134217727 * 4160749568 ≡ min d (q % 134217728 + q % 134217728 / 134217727 * 4160749568)
lesser-is d q h l =
    let a : d % 134217728 ≡ d = omega arith in
    let b : d / 134217727 ≡ 0 = omega arith in
    let e : q % 134217728 ≡ q = omega arith in
    rw (a, b, e) (plain d q (q / 134217727 * 4160749568) h)
  where
    plain : (d q z : ℕ) → d < q → d + 0 * 4160749568 ≡ min d (q + z)
    plain d q z h = omega arith

-- no figure is above none
most-none : (x : ℕ) → x < 134217728 → x + x / 134217727 * 4160749568 ≤ none
most-none x h = omega arith

-- a lower distance
module _ (w d : ℕ) (open-word : state_in w ≡ 0) (ld : Figure d) where
  -- the offer is not less than what is known
  pub no_lower : w / 68719476736 ≤ d → min d (distance_in w) ≡ distance_in w
  unfolding distance_in state_in
  no_lower h = go ld
    where
      go : Figure d → min d (w / 68719476736 % 134217728 + w / 68719476736 % 134217728 / 134217727 * 4160749568) ≡ w / 68719476736 % 134217728 + w / 68719476736 % 134217728 / 134217727 * 4160749568
      go (inl l) =
          let a : w / 68719476736 % 134217728 ≡ w / 68719476736 = omega arith in
          let e : w / 68719476736 / 134217727 ≡ 0 = omega arith in
          rw (a, e) (omega arith)
      go (inr l) = omega (arith, most-none (w / 68719476736 % 134217728) (omega arith))

  module _ (h : d < w / 68719476736) where
    pub lower-fits : d * 68719476736 + w % 68719476736 < 9223372036854775808
    unfolding state_in
    lower-fits = omega arith

    pub lower-used : d * 68719476736 + w % 68719476736 ≢ vacant
    unfolding state_in
    lower-used e = omega arith

    pub lower-vertex : vertex_in (d * 68719476736 + w % 68719476736) ≡ vertex_in w
    unfolding vertex_in
    lower-vertex = omega arith

    pub lower-key : key (d * 68719476736 + w % 68719476736) ≤ key w
    unfolding key
    lower-key = omega arith

    pub lower-entry : entry_in (d * 68719476736 + w % 68719476736) ≡ known (min d (distance_in w)) (state_in w) (remaining_in w)
    unfolding distance_in state_in remaining_in
    lower-entry = entry-used (d * 68719476736 + w % 68719476736) lower-used ∙ known_is e s n
      where
        half : (d * 68719476736 + w % 68719476736) / 68719476736 ≡ d
        half = omega arith

        e : distance_in (d * 68719476736 + w % 68719476736) ≡ min d (distance_in w)
        e = rw half (lesser-is d (w / 68719476736) h (omega arith))

        s : state_in (d * 68719476736 + w % 68719476736) ≡ state_in w
        s = omega arith

        n : remaining_in (d * 68719476736 + w % 68719476736) ≡ remaining_in w
        n = omega arith

-- ---- a word tells whether its entry is spent
-- D compares with the 27 bits of a distance as with the distance: 134217727 and none are both above it
above_same : (w D : ℕ) → w < 9223372036854775808 → D < 134217727 → ltb D (distance_in w) ≡ ltb D (w / 68719476736)
unfolding distance_in
above_same w D h l =
    let q : w / 68719476736 % 134217728 ≡ w / 68719476736 = omega arith in
    let low : w / 68719476736 < 134217728 = omega arith in
    rw q (plain (w / 68719476736) low)
  where
    plain : (x : ℕ) → x < 134217728 → ltb D (x + x / 134217727 * 4160749568) ≡ ltb D x
    plain x k =
        same_test (ltb D (x + x / 134217727 * 4160749568)) (ltb D x)
        (λ e. lt-ltb D x (omega (arith, ltb-true D (x + x / 134217727 * 4160749568) e)))
        (λ e. lt-ltb D (x + x / 134217727 * 4160749568) (omega (arith, ltb-true D x e)))

pub word-spent : (w D : ℕ) → D < 134217727 → spent D (known (distance_in w) (state_in w) (remaining_in w)) ≡ (eqb (w % 1048576) 0 && ltb D (w / 68719476736))
unfolding remaining_in
word-spent w D l = ⊎_elim settled fresh (le-or-lt 9223372036854775808 w)
  where
    settled : 9223372036854775808 ≤ w → spent D (known (distance_in w) (state_in w) (w % 1048576)) ≡ (eqb (w % 1048576) 0 && ltb D (w / 68719476736))
    settled h =
        let above : ltb D (w / 68719476736) ≡ true = lt-ltb D (w / 68719476736) (omega arith) in
        spent-settled D (distance_in w) (state_in w) (w % 1048576) (settled-high w h) ∙ rw above (plain (eqb (w % 1048576) 0))
      where
        plain : (b : Bool) → b ≡ (b && true)
        plain true = refl
        plain false = refl

    fresh : w < 9223372036854775808 → spent D (known (distance_in w) (state_in w) (w % 1048576)) ≡ (eqb (w % 1048576) 0 && ltb D (w / 68719476736))
    fresh h = spent-open D (distance_in w) (state_in w) (w % 1048576) (open-low w h) ∙ ap (λ (b : Bool). eqb (w % 1048576) 0 && b) (above_same w D h l)
