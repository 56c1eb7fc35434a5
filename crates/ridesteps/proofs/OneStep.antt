-- One whole step: the vertex is put into the set and leaves the map, the records to it make their offers, the hops that alight there are marked, and those that stay for them. The search stands one step further. Assumes nothing.
use mathlib.Core.Path.{◌≡◌, refl, sym, ap, subst, fun_ext, ◌∙◌}
use mathlib.Core.Logic.{◌⊎◌, inl, inr}
use mathlib.Core.Bool.{Bool, true, cond}
use mathlib.Core.List.{List, [], ◌∷◌}
use Prim.Native.Nat.{ℕ, suc, ◌≤◌, ◌<◌}
use native.Mathlib.Omega.{arith}
use lib.ListN.{length, take}
use borrow.Author.Tests.{eq-eqb}
use Rattle.journeys.specs.Counting.{none, In}
use Rattle.journeys.specs.Tables.{Tables, hop_count}
use Rattle.journeys.specs.Query.{Query, allowed}
use Rattle.journeys.specs.Settled.{settled}
use Rattle.journeys.specs.Network.{distance_in, within}
use Rattle.journeys.specs.Records.{record_count}
use Rattle.journeys.specs.Valid.{Valid}
use Rattle.journeys.proofs.Tests.{Test, same, other, test, cond-true}
use Rattle.journeys.proofs.Counting.{in_right}
use Rattle.journeys.proofs.Document as document
use Rattle.worktable.specs.Map.{absent, Map, put, state_of, remaining_of, distance_of, Foremost}
use Rattle.worktable.specs.Table.{map_of, Gives}
use Rattle.worktable.specs.declared.Table.{Table}
use Rattle.worktable.proofs.MapLaws.{put_same, put_other}
use Rattle.boarding.specs.Rides.{Mode}
use Rattle.boarding.specs.RideOrder.{IsRideOrder}
use Rattle.boarding.proofs.Searching.{Underway, Searching, settles, closes-step}
use Rattle.marks.specs.Marks.{bit}
use Rattle.bitset.specs.Joined.{joined}
use Rattle.improving.specs.Figures.{Plain, Ready, figures}
use Rattle.marking.specs.Pends.{State, state, marks_of, figures_of, Pends, Prefix, Fit}
use Rattle.marking.specs.Moves.{Alighted}
use Rattle.marking.specs.declared.Pending.{Pending}
use Rattle.marking.proofs.Moving.{prefix-alighted}
use Rattle.offering.specs.Offers.{Passable, passed}
use Rattle.spreading.specs.Spreads.{Spread}
use Rattle.ridesteps.specs.Between.{Steps, Stepped}
use Rattle.ridesteps.proofs.Settling.{without, members-next, settled-underway}

-- ---- an entry leaves the map
module _ {t g : Table} {b c : List ℕ} (x : ℕ) (gone : Gives t g b c (put (map_of t b) x absent)) where
  dropped-plain : Plain (map_of t b) → Plain (put (map_of t b) x absent)
  unfolding state_of remaining_of
  dropped-plain p = record { unsettled = λ u. state-of u (test u x); spare = λ u. rest_of u (test u x) }
    where
      state-of : (u : ℕ) {e : Bool} → Test u x e → state_of (put (map_of t b) x absent u) ≡ 0
      state-of u (same e) = ap state_of (put_same (map_of t b) x absent u e)
      state-of u (other n) = ap state_of (put_other (map_of t b) x absent u n) ∙ p.unsettled u

      rest_of : (u : ℕ) {e : Bool} → Test u x e → remaining_of (put (map_of t b) x absent u) ≡ 0
      rest_of u (same e) = ap remaining_of (put_same (map_of t b) x absent u e)
      rest_of u (other n) = ap remaining_of (put_other (map_of t b) x absent u n) ∙ p.spare u

  dropped-ready : Ready t b → Ready g c
  dropped-ready k = record { order = gone.holds.order; plain = subst Plain (sym gone.holds.map) (dropped-plain k.plain); room = gone.room ∙ k.room }

  dropped-figures : figures g c ≡ without (figures t b) x
  unfolding distance_of
  dropped-figures = fun_ext (λ u. ap (λ (m : Map). distance_of (m u)) gone.holds.map ∙ go u (test u x))
    where
      go : (u : ℕ) {e : Bool} → Test u x e → distance_of (put (map_of t b) x absent u) ≡ cond e none (figures t b u)
      go u (same e) = ap distance_of (put_same (map_of t b) x absent u e)
      go u (other n) = ap distance_of (put_other (map_of t b) x absent u n)

-- ---- who comes first in the map is first of its figures
pub first-figure : {t : Table} {b : List ℕ} {x d D : ℕ} → Ready t b → Foremost (map_of t b) x d → D < none
    → (u : ℕ) → figures t b u ≤ D → (figures t b x < figures t b u) ⊎ ((figures t b x ≡ figures t b u) × (x ≤ u))
first-figure {t} {b} {x} {d} k front small u h =
    go (front.first u (figures t b u) (record { unsettled = k.plain.unsettled u; at = refl; some = omega arith }))
  where
    go : (d < figures t b u) ⊎ ((d ≡ figures t b u) × (x ≤ u)) → (figures t b x < figures t b u) ⊎ ((figures t b x ≡ figures t b u) × (x ≤ u))
    go (inl q) = inl (omega (arith, front.waits.at))
    go (inr q) = inr (front.waits.at ∙ q.0, q.1)

-- ---- the step
-- with another table, when the records to a vertex have made their offers
abbrev pub offered : Pending → Table → Pending
offered p t = record { table = t; height = p.height; cursor = p.cursor }

module _ (N : Tables) (Q : Query) (M : Mode) (ok : Valid N Q) {set : List ℕ} {p : Pending} {table marks stack : List ℕ} {x slot d : ℕ} (S : Steps N Q M set (state p table marks stack) x slot d)
    (set' : List ℕ) (put_is : bit set' ≡ joined (bit set) x) (long : length set' ≡ length set) {g : Table} {b : List ℕ} (gone : Gives p.table g table b (put (map_of p.table table) x absent)) where
  long' : length set' ≡ 4096
  long' = long ∙ S.fit.set_long

  abbrev f : ℕ → ℕ
  f = figures p.table table

  at : f x ≡ d
  at = S.front.waits.at

  near : f x ≤ allowed Q
  near = omega (arith, S.near, at)

  first : (u : ℕ) → f u ≤ allowed Q → (f x < f u) ⊎ ((f x ≡ f u) × (x ≤ u))
  first = first-figure S.fit.ready S.front (document.allowed-low N Q ok)

  pub passable : Passable N Q set' marks x d g b
  passable =
      record {
        ready = dropped-ready x gone S.fit.ready;
        set_long = long';
        marks_long = S.fit.marks_long;
        settled = ap (λ (f : ℕ → Bool). f x) put_is ∙ cond-true true (bit set x) (eq-eqb x x refl);
        low = S.low;
        near = S.near;
        timely = S.fit.timely;
      }

  module _ (t : Table) (c : List ℕ) (ready : Ready t c) (passed_is : figures t c ≡ passed N Q M (bit set') (bit marks) x d (record_count N) (figures g b)) where
    pub offered-fit : Fit N Q set' (state (offered p t) c marks stack)
    offered-fit =
        record {
          ready = ready;
          marks_long = S.fit.marks_long;
          set_long = long';
          stack_long = S.fit.stack_long;
          height = S.fit.height;
          stacked = S.fit.stacked;
          low = S.fit.low;
          timely = S.fit.timely;
        }

    module _ {s : State} (A : Alighted N Q M set' x d (state (offered p t) c marks stack) s) where
      pub still-pends : Pends N M (hop_count N) s
      still-pends = A.moved.pends (hop_count N) S.pends

      pub still-prefix : Prefix N M (marks_of s)
      still-prefix = prefix-alighted N Q M S.prefix A

      module _ {s' : State} (W : Spread N Q M set' s s') where
        pub one-step : Stepped N Q M set (state p table marks stack) set' s'
        one-step l O k B =
            record {
              fit = W.fit;
              members = members;
              searching = λ ok O. searching ok O;
              prefix = W.prefix;
              empty = W.empty;
            }
          where
            members : (v : ℕ) → bit set' v ≡ within (distance_in (take (suc k) l)) v
            members v = ap (λ (h : ℕ → Bool). h v) put_is ∙ members-next N Q M ok O (B.searching ok O) x near first (bit set) B.members v

            figures_are : figures t c ≡ passed N Q M (joined (bit set) x) (bit marks) x (f x) (record_count N) (without f x)
            figures_are =
                passed_is
                ∙ ap (λ (h : ℕ → Bool). passed N Q M h (bit marks) x d (record_count N) (figures g b)) put_is
                ∙ ap (λ (e : ℕ). passed N Q M (joined (bit set) x) (bit marks) x e (record_count N) (figures g b)) (sym at)
                ∙ ap (λ (h : ℕ → ℕ). passed N Q M (joined (bit set) x) (bit marks) x (f x) (record_count N) h) (dropped-figures x gone)

            searching : (ok : Valid N Q) (O : IsRideOrder N Q M l) → Searching N Q M ok O (suc k) (marks_of s') (figures_of s')
            searching ok O =
                closes-step N Q M ok O before x near first
                (W.carries.underway ok O (suc k) members tt (A.moved.carries.underway ok O (suc k) members there settled-now))
                (λ j e. W.carries.grows j (A.moved.carries.grows j e))
                (λ j jl to in_time soon. W.carries.grows j (A.done j jl (record { there = to; in_time = in_time; soon = omega (arith, soon, at) })))
                W.closed
              where
                before : Searching N Q M ok O k (bit marks) f
                before = B.searching ok O

                settled-now : Underway N Q M ok O (suc k) (bit marks) (figures t c)
                settled-now = subst (Underway N Q M ok O (suc k) (bit marks)) (sym figures_are) (settled-underway N Q M ok O before x near first (bit set) B.members)

                there : In (settled x d) (take (suc k) l)
                there =
                    subst (In (settled x d)) (sym (settles N Q M ok O before x near first).1)
                    (in_right (take k l) (settled x (f x) ∷ []) (settled x d) (inl (λ i. settled x (sym at i))))
