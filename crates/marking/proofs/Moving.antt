-- Marks one after another: what a mark is for its reason, that two moves are one, and what is marked when all hops to a vertex have been asked. Assumes nothing.
use mathlib.Core.Path.{◌≡◌, refl, sym, ap, subst, ◌∙◌}
use mathlib.Core.Logic.{◌⊎◌, inl, inr, ⊎_elim, ◌≢◌}
use mathlib.Core.Bool.{Bool, true, false, cond, ◌&&◌}
use mathlib.Core.List.{List}
use Prim.Native.Nat.{ℕ, suc, ◌+◌, ◌≤◌, ◌<◌}
use native.Mathlib.Omega.{arith}
use lib.Dec.{leb}
use borrow.Author.Tests.{leb-true, le-leb, eq-eqb}
use Rattle.journeys.specs.Counting.{In}
use Rattle.journeys.specs.Tables.{Tables, hop, hop_count}
use Rattle.journeys.specs.Query.{Query, before}
use Rattle.journeys.specs.Settled.{Settled, settled}
use Rattle.journeys.proofs.Tests.{Test, same, other, test, never, and_both, and-true, cond-true, le-or-lt, last-or-below}
use Rattle.boarding.specs.Rides.{Mode, Stays}
use Rattle.boarding.proofs.Boards.{before-mono}
use Rattle.marks.specs.Marks.{bit}
use Rattle.bitset.specs.Joined.{joined}
use Rattle.marking.specs.Carried.{offered_by, Carries}
use Rattle.marking.specs.Pends.{State, marks_of, figures_of, Prefix, Fit, HopMarked}
use Rattle.marking.specs.Moves.{Alights, Moved, alights_test, AlightsBy, Alighted}
use Rattle.marking.proofs.Carrying.{carries_same, carries-then, carries-any, carries-stays, carries-alights}

pub and_first : {a : Bool} (b : Bool) → a ≡ true → a && b ≡ b
and_first b h = rw h refl

module _ (N : Tables) (Q : Query) (M : Mode) where
  pub moved_same : {A : List Settled → Type 0} {B : ℕ → Type 0} {set : List ℕ} {s : State} → Fit N Q set s → Moved N Q M A B set s s
  moved_same k = record { fit = k; carries = carries_same N Q M; only = λ j h. inl h; pends = λ x p. p; falls = omega arith }

  pub moved_then : {A : List Settled → Type 0} {B : ℕ → Type 0} {set : List ℕ} {s t u : State} → Moved N Q M A B set s t → Moved N Q M A B set t u → Moved N Q M A B set s u
  moved_then {B = B} {s = s} {t = t} a b =
      record {
        fit = b.fit;
        carries = carries-then N Q M a.carries b.carries;
        only = λ j h. ⊎_elim (λ (q : marks_of t j ≡ true). a.only j q) (λ (q : B j). inr q) (b.only j h);
        pends = λ x p. b.pends x (a.pends x p);
        falls = omega (arith, a.falls, b.falls);
      }

  -- for a reason that is given in other words
  pub moved-for : {A : List Settled → Type 0} {B C : ℕ → Type 0} {set : List ℕ} {s t : State} → ((j : ℕ) → B j → C j) → Moved N Q M (λ _. Unit {0}) B set s t → Moved N Q M A C set s t
  moved-for {B = B} {s = s} f a =
      record {
        fit = a.fit;
        carries = carries-any N Q M a.carries;
        only = λ j h. ⊎_elim (λ (q : marks_of s j ≡ true). inl q) (λ (q : B j). inr (f j q)) (a.only j h);
        pends = a.pends;
        falls = a.falls;
      }

  -- one mark
  module _ (set : List ℕ) (j : ℕ) (s s' : State) (m : HopMarked N Q M set j s s') where
    carried : {A : List Settled → Type 0} → Carries N Q M A (bit set) (marks_of s) (figures_of s) (joined (marks_of s) j) (offered_by N Q M (bit set) j (figures_of s))
        → Carries N Q M A (bit set) (marks_of s) (figures_of s) (marks_of s') (figures_of s')
    carried {A} c =
        subst (λ (g : ℕ → ℕ). Carries N Q M A (bit set) (marks_of s) (figures_of s) (marks_of s') g) (sym m.figures_are)
        (subst (λ (g : ℕ → Bool). Carries N Q M A (bit set) (marks_of s) (figures_of s) g (offered_by N Q M (bit set) j (figures_of s))) (sym m.marks_are) c)

    only-it : (B : ℕ → Type 0) → B j → (i : ℕ) → marks_of s' i ≡ true → (marks_of s i ≡ true) ⊎ B i
    only-it B b i h = go (test i j) (sym (ap (λ (g : ℕ → Bool). g i) m.marks_are) ∙ h)
      where
        go : {t : Bool} → Test i j t → cond t true (marks_of s i) ≡ true → (marks_of s i ≡ true) ⊎ B i
        go (same e) q = inr (subst B (sym e) b)
        go (other n) q = inl q

    pub marked-now : marks_of s' j ≡ true
    marked-now = ap (λ (g : ℕ → Bool). g j) m.marks_are ∙ cond-true true (marks_of s j) (eq-eqb j j refl)

    pub moved-stays : {A : List Settled → Type 0} (i : ℕ) → j < hop_count N → i < hop_count N → Stays N M j i → marks_of s i ≡ true → Moved N Q M A (λ g. Stays N M g i) set s s'
    moved-stays i jl il t e =
        record { fit = m.fit; carries = carried (carries-stays N Q M j i jl il t e); only = only-it (λ g. Stays N M g i) t; pends = m.pends; falls = m.falls }

    pub moved-alights : (x d : ℕ) → j < hop_count N → Alights N Q x d j → Moved N Q M (In (settled x d)) (Alights N Q x d) set s s'
    moved-alights x d jl a =
        record { fit = m.fit; carries = carried (carries-alights N Q M j x d jl a.there a.in_time a.soon); only = only-it (Alights N Q x d) a; pends = m.pends; falls = m.falls }

  -- ---- one hop is asked
  pub test-alights : (x d j : ℕ) → (hop N j).to ≡ x → alights_test Q d (hop N j).arrival ≡ true → Alights N Q x d j
  test-alights x d j e t =
      let b = and_both (leb (hop N j).arrival Q.arrival) (leb d (before Q (hop N j).arrival)) t in
      record { there = e; in_time = leb-true _ _ b.0; soon = leb-true _ _ b.1 }

  pub not-alights : (x d j : ℕ) → alights_test Q d (hop N j).arrival ≡ false → ¬ Alights N Q x d j
  not-alights x d j f a = never (and-true (le-leb (hop N j).arrival Q.arrival a.in_time) (le-leb d (before Q (hop N j).arrival) a.soon)) f

  pub alights-mark : {set : List ℕ} {s s' : State} (i d : ℕ) → i < hop_count N → alights_test Q d (hop N i).arrival ≡ true → HopMarked N Q M set i s s' → AlightsBy N Q M set i d s s'
  alights-mark {set} {s} {s'} i d l t m =
      record { moved = moved-alights set i s s' m (hop N i).to d l (test-alights (hop N i).to d i refl t); done = λ _. marked-now set i s s' m }

  pub alights-not : {set : List ℕ} {s : State} (i d : ℕ) → Fit N Q set s → alights_test Q d (hop N i).arrival ≡ false → AlightsBy N Q M set i d s s
  alights-not i d k f = record { moved = moved_same k; done = λ a. absurd (not-alights (hop N i).to d i f a) }

  pub alights-already : {set : List ℕ} {s : State} (i d : ℕ) → Fit N Q set s → marks_of s i ≡ true → AlightsBy N Q M set i d s s
  alights-already i d k h = record { moved = moved_same k; done = λ _. h }

  -- ---- one hop after another
  pub record Asking (set : List ℕ) (x d first end : ℕ) (s t : State) (i : ℕ) : Type 0 where
    pub from : first ≤ i
    pub to : i ≤ end
    pub moved : Moved N Q M (In (settled x d)) (Alights N Q x d) set s t
    pub done : (j : ℕ) → first ≤ j → j < i → Alights N Q x d j → marks_of t j ≡ true

  pub asking-none : {set : List ℕ} {x d first end : ℕ} {s : State} → first ≤ end → Fit N Q set s → Asking set x d first end s s first
  asking-none l k = record { from = omega arith; to = l; moved = moved_same k; done = λ j a b. absurd (let z : ⊥ = omega arith in z) }

  pub asking-one : {set : List ℕ} (x d first end : ℕ) (s t u : State) (i : ℕ) → i < end → (hop N i).to ≡ x → Asking set x d first end s t i → AlightsBy N Q M set i d t u → Asking set x d first end s u (i + 1)
  asking-one {set} x d first end s t u i l e k b =
      let m : Moved N Q M (In (settled x d)) (Alights N Q x d) set t u = subst (λ (y : ℕ). Moved N Q M (In (settled y d)) (Alights N Q y d) set t u) e b.moved in
      record {
        from = omega (arith, k.from);
        to = omega arith;
        moved = moved_then k.moved m;
        done = λ j a h al. go m (last-or-below (let z : j < suc i = omega arith in z)) a al;
      }
    where
      go : Moved N Q M (In (settled x d)) (Alights N Q x d) set t u → {j : ℕ} → (j ≡ i) ⊎ (j < i) → first ≤ j → Alights N Q x d j → marks_of u j ≡ true
      go m {j} (inr h) a al = m.carries.grows j (k.done j a h al)
      go m {j} (inl q) a al = subst (λ (g : ℕ). marks_of u g ≡ true) (sym q) (b.done (subst (λ (y : ℕ). Alights N Q y d i) (sym e) (subst (Alights N Q x d) q al)))

  -- the hops to x are those from first to end
  pub asking-all : {set : List ℕ} (x d first end : ℕ) (s t : State) (i : ℕ) → end ≤ i
      → ((j : ℕ) → j < first → (hop N j).to ≢ x) → ((j : ℕ) → end ≤ j → j < hop_count N → (hop N j).to ≢ x) → Asking set x d first end s t i → Alighted N Q M set x d s t
  asking-all x d first end s t i l below above k =
      record {
        moved = k.moved;
        done = λ j jl a.
            ⊎_elim (λ (f : first ≤ j). ⊎_elim (λ (g : end ≤ j). absurd (above j g jl a.there)) (λ (g : j < end). k.done j f (omega (arith, k.to)) a) (le-or-lt end j)) (λ (f : j < first). absurd (below j f a.there))
            (le-or-lt first j);
      }

  -- of one trip the hops to a vertex that are marked are still those up to an arrival
  pub prefix-alighted : {set : List ℕ} {x d : ℕ} {s t : State} → Prefix N M (marks_of s) → Alighted N Q M set x d s t → Prefix N M (marks_of t)
  prefix-alighted {x = x} {d = d} {s = s} p k i j il e tr kn h m =
      ⊎_elim (λ (q : marks_of s j ≡ true). k.moved.carries.grows i (p i j il e tr kn h q))
      (λ (q : Alights N Q x d j).
      k.done i il
      (record { there = e ∙ q.there; in_time = omega (arith, q.in_time); soon = omega (arith, q.soon, before-mono Q (hop N i).arrival (hop N j).arrival h) }))
      (k.moved.only j m)
