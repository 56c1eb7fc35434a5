-- A hop is marked and pushed: what the state then is, and that less is left to be done. Assumes nothing.
use mathlib.Core.Path.{◌≡◌, refl, sym, ap, subst, ◌∙◌}
use mathlib.Core.Logic.{◌⊎◌, inl, inr, ◌≢◌}
use mathlib.Core.Bool.{Bool, true, false, not, cond}
use mathlib.Core.List.{List}
use Prim.Native.Nat.{ℕ, ◌+◌, ◌-◌, ◌≤◌, ◌<◌}
use native.Mathlib.Omega.{arith}
use lib.Dec.{eqb}
use lib.ListN.{length, get_or, set, length-set}
use lib.Seq.{get_or-set_same, get_or-set_other}
use borrow.Author.Tests.{eq-eqb}
use Rattle.journeys.specs.Counting.{count, one}
use Rattle.journeys.specs.Tables.{Tables, hop, hop_count}
use Rattle.journeys.specs.Query.{Query}
use Rattle.journeys.proofs.Tests.{Test, same, other, test, cond-true, last-or-below}
use Rattle.journeys.proofs.Counting.{count-join, some-count}
use Rattle.worktable.specs.declared.Table.{Table}
use Rattle.boarding.specs.Rides.{Mode}
use Rattle.marks.specs.Marks.{bit}
use Rattle.bitset.specs.Joined.{joined}
use Rattle.improving.specs.Figures.{Ready, figures}
use Rattle.marking.specs.Carried.{offered_by}
use Rattle.marking.specs.Pends.{State, marks_of, figures_of, Followed, OnStack, Pends, Fit, left, Markable, HopMarked, Pushed}

-- one number more, and one less that is not in the set
pub fewer : (m : ℕ → Bool) (j n : ℕ) → j < n → m j ≡ false → count (λ i. not (joined m j i)) n + 1 ≤ count (λ i. not (m i)) n
fewer m j n l e = omega (arith, count-join (λ i. not (m i)) (λ i. not (joined m j i)) (λ i. eqb i j) n (λ i h. go i (test i j)), some-count (λ i. eqb i j) n j l (eq-eqb j j refl))
  where
    go : (i : ℕ) {t : Bool} → Test i j t → one (not (m i)) ≡ one (not (cond t true (m i))) + one t
    go i (same q) = ap (λ (b : Bool). one (not b)) (ap m q ∙ e)
    go i (other q) = omega arith

module _ (N : Tables) (Q : Query) (M : Mode) (settled : List ℕ) (j : ℕ) (s s' : State) (k : Fit N Q settled s) (may : Markable N Q s j) (few : hop_count N ≤ 262144) (t : Table)
    (long : length s'.marks ≡ length s.marks) (marks : marks_of s' ≡ joined (marks_of s) j) (ready : Ready t s'.table)
    (figs : figures t s'.table ≡ offered_by N Q M (bit settled) j (figures_of s)) (pushed : Pushed s.numbers t j s.stack s'.numbers s'.stack) where
  at : (i : ℕ) → marks_of s' i ≡ cond (eqb i j) true (marks_of s i)
  at i = ap (λ (m : ℕ → Bool). m i) marks

  own : (i : ℕ) → i ≡ j → marks_of s' i ≡ true
  own i e = at i ∙ cond-true true (marks_of s i) (eq-eqb i j e)

  grows : (i : ℕ) → marks_of s i ≡ true → marks_of s' i ≡ true
  grows i h = at i ∙ go (eqb i j)
    where
      go : (b : Bool) → cond b true (marks_of s i) ≡ true
      go true = refl
      go false = h

  -- a mark of the new state is j or was there
  new-or-old : (i : ℕ) → marks_of s' i ≡ true → (i ≡ j) ⊎ (marks_of s i ≡ true)
  new-or-old i h = go (test i j) (sym (at i) ∙ h)
    where
      go : {b : Bool} → Test i j b → cond b true (marks_of s i) ≡ true → (i ≡ j) ⊎ (marks_of s i ≡ true)
      go (same e) q = inl e
      go (other n) q = inr q

  on_stack : (i : ℕ) → i ≡ j → OnStack s'.stack s'.numbers.height i ⊎ (s'.numbers.cursor ≤ i)
  on_stack i e = go pushed.1
    where
      go : ((s.numbers.height < 16384) × (s'.numbers.height ≡ s.numbers.height + 1) × (s'.numbers.cursor ≡ s.numbers.cursor) × (s'.stack ≡ set s.stack s.numbers.height j))
          ⊎ ((s'.numbers.height ≡ s.numbers.height) × (s'.numbers.cursor ≡ 0) × (s'.stack ≡ s.stack)) → OnStack s'.stack s'.numbers.height i ⊎ (s'.numbers.cursor ≤ i)
      go (inl x) =
          inl
          (s.numbers.height, omega (arith, x.1), ap (λ (l : List ℕ). get_or l s.numbers.height 0) x.3 ∙ get_or-set_same s.stack s.numbers.height j 0 (omega (arith, x.0, k.stack_long)) ∙ sym e)
      go (inr x) = inr (omega (arith, x.1))

  still-there : (i : ℕ) → i < s.numbers.height → (i < s'.numbers.height) × (get_or s'.stack i 0 ≡ get_or s.stack i 0)
  still-there i l = go pushed.1
    where
      go : ((s.numbers.height < 16384) × (s'.numbers.height ≡ s.numbers.height + 1) × (s'.numbers.cursor ≡ s.numbers.cursor) × (s'.stack ≡ set s.stack s.numbers.height j))
          ⊎ ((s'.numbers.height ≡ s.numbers.height) × (s'.numbers.cursor ≡ 0) × (s'.stack ≡ s.stack)) → (i < s'.numbers.height) × (get_or s'.stack i 0 ≡ get_or s.stack i 0)
      go (inl x) =
          let n : i ≢ s.numbers.height = omega arith in
          (omega (arith, x.1), ap (λ (l : List ℕ). get_or l i 0) x.3 ∙ get_or-set_other s.stack s.numbers.height i j 0 n)
      go (inr x) = (omega (arith, x.0), ap (λ (l : List ℕ). get_or l i 0) x.2)

  stacked : (i : ℕ) → i < s'.numbers.height → marks_of s' (get_or s'.stack i 0) ≡ true
  stacked i l = go pushed.1
    where
      old : i < s.numbers.height → marks_of s' (get_or s'.stack i 0) ≡ true
      old h = ap (marks_of s') (still-there i h).1 ∙ grows (get_or s.stack i 0) (k.stacked i h)

      go : ((s.numbers.height < 16384) × (s'.numbers.height ≡ s.numbers.height + 1) × (s'.numbers.cursor ≡ s.numbers.cursor) × (s'.stack ≡ set s.stack s.numbers.height j))
          ⊎ ((s'.numbers.height ≡ s.numbers.height) × (s'.numbers.cursor ≡ 0) × (s'.stack ≡ s.stack)) → marks_of s' (get_or s'.stack i 0) ≡ true
      go (inr x) = old (omega (arith, x.0))
      go (inl x) = top (last-or-below (omega (arith, x.1)))
        where
          top : (i ≡ s.numbers.height) ⊎ (i < s.numbers.height) → marks_of s' (get_or s'.stack i 0) ≡ true
          top (inr h) = old h
          top (inl e) =
              own (get_or s'.stack i 0)
              (ap (λ (l : List ℕ). get_or l i 0) x.3 ∙ ap (λ (i : ℕ). get_or (set s.stack s.numbers.height j) i 0) e ∙ get_or-set_same s.stack s.numbers.height j 0 (omega (arith, x.0, k.stack_long)))

  lengths : (length s'.stack ≡ 16384) × (s'.numbers.height ≤ 16384) × (s'.numbers.cursor ≤ s.numbers.cursor) × (s'.numbers.height + (hop_count N - s'.numbers.cursor) ≤ s.numbers.height + (hop_count N - s.numbers.cursor) + 262146)
  lengths = go pushed.1
    where
      go : ((s.numbers.height < 16384) × (s'.numbers.height ≡ s.numbers.height + 1) × (s'.numbers.cursor ≡ s.numbers.cursor) × (s'.stack ≡ set s.stack s.numbers.height j))
          ⊎ ((s'.numbers.height ≡ s.numbers.height) × (s'.numbers.cursor ≡ 0) × (s'.stack ≡ s.stack))
          → (length s'.stack ≡ 16384) × (s'.numbers.height ≤ 16384) × (s'.numbers.cursor ≤ s.numbers.cursor) × (s'.numbers.height + (hop_count N - s'.numbers.cursor) ≤ s.numbers.height + (hop_count N - s.numbers.cursor) + 262146)
      go (inl x) =
          (ap length x.3 ∙ length-set s.stack s.numbers.height j ∙ k.stack_long, omega (arith, x.0, x.1), omega (arith, x.2), omega (arith, x.1, x.2))
      go (inr x) = (ap length x.2 ∙ k.stack_long, omega (arith, x.0, k.height), omega (arith, x.1), omega (arith, x.0, x.1, few))

  fit : Fit N Q settled s'
  fit =
      record {
        ready = subst (λ (r : Table). Ready r s'.table) (sym pushed.0) ready;
        marks_long = long ∙ k.marks_long;
        set_long = k.set_long;
        stack_long = lengths.0;
        height = lengths.1;
        stacked = stacked;
        low = λ i h. low i (new-or-old i h);
        timely = λ i h. timely i (new-or-old i h);
      }
    where
      low : (i : ℕ) → (i ≡ j) ⊎ (marks_of s i ≡ true) → i < hop_count N
      low i (inl e) = omega (arith, may.there)
      low i (inr h) = k.low i h

      timely : (i : ℕ) → (i ≡ j) ⊎ (marks_of s i ≡ true) → (hop N i).departure ≤ Q.arrival
      timely i (inl e) = rw e may.in_time
      timely i (inr h) = k.timely i h

  pends : (x : ℕ) → Pends N M x s → Pends N M x s'
  pends x p i h = go (new-or-old i h)
    where
      kept : (i ≡ x) ⊎ OnStack s.stack s.numbers.height i ⊎ (s.numbers.cursor ≤ i) ⊎ Followed N M (marks_of s) i
          → (i ≡ x) ⊎ OnStack s'.stack s'.numbers.height i ⊎ (s'.numbers.cursor ≤ i) ⊎ Followed N M (marks_of s') i
      kept (inl e) = inl e
      kept (inr (inl (n, l, e))) = inr (inl (n, (still-there n l).0, (still-there n l).1 ∙ e))
      kept (inr (inr (inl c))) = inr (inr (inl (omega (arith, lengths.2))))
      kept (inr (inr (inr f))) = inr (inr (inr (λ g l st. grows g (f g l st))))

      newly : OnStack s'.stack s'.numbers.height i ⊎ (s'.numbers.cursor ≤ i) → (i ≡ x) ⊎ OnStack s'.stack s'.numbers.height i ⊎ (s'.numbers.cursor ≤ i) ⊎ Followed N M (marks_of s') i
      newly (inl o) = inr (inl o)
      newly (inr c) = inr (inr (inl c))

      go : (i ≡ j) ⊎ (marks_of s i ≡ true) → (i ≡ x) ⊎ OnStack s'.stack s'.numbers.height i ⊎ (s'.numbers.cursor ≤ i) ⊎ Followed N M (marks_of s') i
      go (inl e) = newly (on_stack i e)
      go (inr o) = kept (p i o)

  falls : left N s' ≤ left N s
  falls =
      let e : count (λ i. not (marks_of s' i)) (hop_count N) ≡ count (λ i. not (joined (marks_of s) j i)) (hop_count N) = ap (λ (m : ℕ → Bool). count (λ i. not (m i)) (hop_count N)) marks in
      omega (arith, e, fewer (marks_of s) j (hop_count N) may.there may.new, lengths.3)

  pub hop-marked : HopMarked N Q M settled j s s'
  hop-marked =
      record { fit = fit; marks_are = marks; figures_are = ap (λ (r : Table). figures r s'.table) pushed.0 ∙ figs; pends = pends; falls = falls }
