-- A pending hop is taken from the stack or by the cursor and followed; when none is left, all is closed. Assumes nothing.
use mathlib.Core.Path.{◌≡◌, sym, ap, subst, ◌∙◌}
use mathlib.Core.Logic.{◌⊎◌, inl, inr, ⊎_elim}
use mathlib.Core.Bool.{true, false, ◌||◌}
use mathlib.Core.List.{List}
use Prim.Native.Nat.{ℕ, suc, ◌+◌, ◌-◌, ◌≤◌, ◌<◌}
use native.Mathlib.Omega.{arith}
use lib.ListN.{get_or}
use lib.Dec.{ltb}
use borrow.Author.Tests.{ltb-true, ltb-false}
use Rattle.journeys.specs.Tables.{Tables, hop_count}
use Rattle.journeys.specs.Query.{Query}
use Rattle.journeys.proofs.Tests.{never, or_cases, or-none, same-or-below, last-or-below}
use Rattle.boarding.specs.Rides.{Mode, Stays}
use Rattle.marks.specs.Marks.{bit}
use Rattle.marking.specs.Carried.{Carries}
use Rattle.marking.specs.Pends.{State, state, marks_of, figures_of, Followed, OnStack, Pends, Prefix, Fit}
use Rattle.marking.specs.declared.Pending.{Pending}
use Rattle.marking.proofs.Carrying.{carries_same, carries-then}
use Rattle.spreading.specs.Spreads.{FollowedBy, Turned, Spread}
use Rattle.spreading.proofs.Following.{prefix-followed}

-- one word less on the stack; the cursor one further
abbrev pub popped : Pending → Pending
popped p = record { table = p.table; height = p.height - 1; cursor = p.cursor }

abbrev pub passed : Pending → Pending
passed p = record { table = p.table; height = p.height; cursor = p.cursor + 1 }

module _ (N : Tables) (Q : Query) (M : Mode) {set : List ℕ} (p : Pending) (table marks stack : List ℕ) (k : Fit N Q set (state p table marks stack)) where
  pub popped-fit : Fit N Q set (state (popped p) table marks stack)
  popped-fit =
      record {
        ready = k.ready;
        marks_long = k.marks_long;
        set_long = k.set_long;
        stack_long = k.stack_long;
        height = omega (arith, k.height);
        stacked = λ i l. k.stacked i (omega arith);
        low = k.low;
        timely = k.timely;
      }

  pub passed-fit : Fit N Q set (state (passed p) table marks stack)
  passed-fit =
      record {
        ready = k.ready;
        marks_long = k.marks_long;
        set_long = k.set_long;
        stack_long = k.stack_long;
        height = k.height;
        stacked = k.stacked;
        low = k.low;
        timely = k.timely;
      }

  -- what is taken is still to be followed, and no more
  pub popped-pends : (x : ℕ) → x ≡ get_or stack (p.height - 1) 0 → Pends N M (hop_count N) (state p table marks stack) → Pends N M x (state (popped p) table marks stack)
  popped-pends x e w i h = go (w i h)
    where
      go : (i ≡ hop_count N) ⊎ OnStack stack p.height i ⊎ (p.cursor ≤ i) ⊎ Followed N M (bit marks) i → (i ≡ x) ⊎ OnStack stack (p.height - 1) i ⊎ (p.cursor ≤ i) ⊎ Followed N M (bit marks) i
      go (inl q) = absurd (let z : ⊥ = omega (arith, k.low i h) in z)
      go (inr (inl (n, l, q))) = top (last-or-below (let z : n < suc (p.height - 1) = omega arith in z))
        where
          top : (n ≡ p.height - 1) ⊎ (n < p.height - 1) → (i ≡ x) ⊎ OnStack stack (p.height - 1) i ⊎ (p.cursor ≤ i) ⊎ Followed N M (bit marks) i
          top (inl z) = inl (sym q ∙ ap (λ (y : ℕ). get_or stack y 0) z ∙ sym e)
          top (inr z) = inr (inl (n, z, q))
      go (inr (inr o)) = inr (inr o)

  pub passed-pends : Pends N M (hop_count N) (state p table marks stack) → Pends N M p.cursor (state (passed p) table marks stack)
  passed-pends w i h = go (w i h)
    where
      go : (i ≡ hop_count N) ⊎ OnStack stack p.height i ⊎ (p.cursor ≤ i) ⊎ Followed N M (bit marks) i → (i ≡ p.cursor) ⊎ OnStack stack p.height i ⊎ (p.cursor + 1 ≤ i) ⊎ Followed N M (bit marks) i
      go (inl q) = absurd (let z : ⊥ = omega (arith, k.low i h) in z)
      go (inr (inl o)) = inr (inl o)
      go (inr (inr (inl c))) = at (same-or-below c)
        where
          at : (p.cursor ≡ i) ⊎ (p.cursor < i) → (i ≡ p.cursor) ⊎ OnStack stack p.height i ⊎ (p.cursor + 1 ≤ i) ⊎ Followed N M (bit marks) i
          at (inl z) = inl (sym z)
          at (inr z) = inr (inr (inl (omega arith)))
      go (inr (inr (inr f))) = inr (inr (inr f))

module _ (N : Tables) (M : Mode) where
  -- a hop that has been followed is no exception any more
  all-pend : (s : State) (x : ℕ) → Followed N M (marks_of s) x → Pends N M x s → Pends N M (hop_count N) s
  all-pend s x f w i h = go (w i h)
    where
      go : (i ≡ x) ⊎ OnStack s.stack s.numbers.height i ⊎ (s.numbers.cursor ≤ i) ⊎ Followed N M (marks_of s) i
          → (i ≡ hop_count N) ⊎ OnStack s.stack s.numbers.height i ⊎ (s.numbers.cursor ≤ i) ⊎ Followed N M (marks_of s) i
      go (inl e) = inr (inr (inr (λ g l t. f g l (subst (Stays N M g) e t))))
      go (inr o) = inr o

  none-pend : (s : State) (x : ℕ) → marks_of s x ≡ false → Pends N M x s → Pends N M (hop_count N) s
  none-pend s x f w i h = go (w i h)
    where
      go : (i ≡ x) ⊎ OnStack s.stack s.numbers.height i ⊎ (s.numbers.cursor ≤ i) ⊎ Followed N M (marks_of s) i
          → (i ≡ hop_count N) ⊎ OnStack s.stack s.numbers.height i ⊎ (s.numbers.cursor ≤ i) ⊎ Followed N M (marks_of s) i
      go (inl e) = never (subst (λ (y : ℕ). marks_of s y ≡ true) e h) f
      go (inr o) = inr o

module _ (N : Tables) (Q : Query) (M : Mode) (set : List ℕ) where
  module _ (p : Pending) (table marks stack : List ℕ) (k : Fit N Q set (state p table marks stack)) (w : Pends N M (hop_count N) (state p table marks stack)) (pre : Prefix N M (bit marks)) {s' : State} where
    pub turned-pop : (x : ℕ) → x ≡ get_or stack (p.height - 1) 0 → 0 < p.height → FollowedBy N Q M set x (state (popped p) table marks stack) s' → Turned N Q M set (state p table marks stack) s'
    turned-pop x e some f =
        record {
          fit = f.moved.fit;
          carries = f.moved.carries;
          pends = all-pend N M s' x f.done (f.moved.pends x (popped-pends N Q M p table marks stack k x e w));
          prefix = prefix-followed N Q M x pre f;
          falls = omega (arith, f.moved.falls);
        }

    pub turned-pass : p.cursor < hop_count N → FollowedBy N Q M set p.cursor (state (passed p) table marks stack) s' → Turned N Q M set (state p table marks stack) s'
    turned-pass low f =
        record {
          fit = f.moved.fit;
          carries = f.moved.carries;
          pends = all-pend N M s' p.cursor f.done (f.moved.pends p.cursor (passed-pends N Q M p table marks stack k w));
          prefix = prefix-followed N Q M p.cursor pre f;
          falls = omega (arith, f.moved.falls);
        }

  pub turned-not : (p : Pending) (table marks stack : List ℕ) (k : Fit N Q set (state p table marks stack)) → Pends N M (hop_count N) (state p table marks stack) → Prefix N M (bit marks)
      → p.cursor < hop_count N → bit marks p.cursor ≡ false → Turned N Q M set (state p table marks stack) (state (passed p) table marks stack)
  turned-not p table marks stack k w pre low f =
      record {
        fit = passed-fit N Q M p table marks stack k;
        carries = carries_same N Q M;
        pends = none-pend N M (state (passed p) table marks stack) p.cursor f (passed-pends N Q M p table marks stack k w);
        prefix = pre;
        falls = omega arith;
      }

  -- ---- one turn after another
  pub record Turning (s t : State) : Type 0 where
    pub fit : Fit N Q set t
    pub carries : Carries N Q M (λ _. Unit {0}) (bit set) (marks_of s) (figures_of s) (marks_of t) (figures_of t)
    pub pends : Pends N M (hop_count N) t
    pub prefix : Prefix N M (marks_of t)

  pub turning-none : {s : State} → Fit N Q set s → Pends N M (hop_count N) s → Prefix N M (marks_of s) → Turning s s
  turning-none k w pre = record { fit = k; carries = carries_same N Q M; pends = w; prefix = pre }

  pub turning-one : {s t u : State} → Turning s t → Turned N Q M set t u → Turning s u
  turning-one a b = record { fit = b.fit; carries = carries-then N Q M a.carries b.carries; pends = b.pends; prefix = b.prefix }

  pub spread-all : {s t : State} → Turning s t → t.numbers.height ≡ 0 → hop_count N ≤ t.numbers.cursor → Spread N Q M set s t
  spread-all {s} {t} a e c =
      record { fit = a.fit; carries = a.carries; prefix = a.prefix; closed = λ i j il st h. go i j il st h (a.pends j h); empty = e }
    where
      go : (i j : ℕ) → i < hop_count N → Stays N M i j → marks_of t j ≡ true
          → (j ≡ hop_count N) ⊎ OnStack t.stack t.numbers.height j ⊎ (t.numbers.cursor ≤ j) ⊎ Followed N M (marks_of t) j → marks_of t i ≡ true
      go i j il st h (inl q) = absurd (let z : ⊥ = omega (arith, a.fit.low j h) in z)
      go i j il st h (inr (inl (n, l, q))) = absurd (let z : ⊥ = omega (arith, e) in z)
      go i j il st h (inr (inr (inl q))) = absurd (let z : ⊥ = omega (arith, a.fit.low j h) in z)
      go i j il st h (inr (inr (inr f))) = f i il st

-- ---- the test for more: a word on the stack, or a hop from the cursor on
module _ {height cursor n : ℕ} where
  pub more-passed : ltb 0 height || ltb cursor n ≡ true → height ≡ 0 → cursor < n
  more-passed t e = ⊎_elim (λ (h : ltb 0 height ≡ true). absurd (let z : ⊥ = omega (arith, ltb-true 0 height h, e) in z)) (λ (h : ltb cursor n ≡ true). ltb-true cursor n h) (or_cases (ltb 0 height) (ltb cursor n) t)

  pub no_more : ltb 0 height || ltb cursor n ≡ false → (height ≡ 0) × (n ≤ cursor)
  no_more t =
      let o = or-none (ltb 0 height) (ltb cursor n) t in
      (omega (arith, ltb-false 0 height o.0), ltb-false cursor n o.1)
