-- One step in the code's terms. Assumes nothing.
use Rattle.std.specs.Prelude.{Option, Some, None, Result, Ok, Err, IsErr, ok_or}
use Rattle.std.specs.Result.{IsErrAnd}
use Rattle.std.proofs.lemmas.Result.{err_from_is_err_and}
use mathlib.Core.Path.{◌≡◌, refl, sym, ap, subst, ◌∙◌}
use mathlib.Core.Logic.{inl, inr}
use mathlib.Core.Bool.{Bool, true, false, cond}
use mathlib.Core.List.{List}
use Prim.Native.Nat.{ℕ, ◌+◌, ◌*◌, ◌/◌, ◌≤◌, ◌<◌}
use native.Mathlib.Omega.{arith}
use lib.Dec.{eqb}
use lib.ListN.{length}
use Rattle.journeys.specs.Answers.{settled_bytes}
use Rattle.words.specs.Written.{written}
use Rattle.records.specs.Fields.{settled_of}
use Rattle.worktable.specs.Map.{absent, Map, put, settled, remaining_of, size}
use Rattle.worktable.specs.Table.{map_of}
use Rattle.worktable.specs.declared.Table.{Table}
use Rattle.worktable.proofs.MapLaws.{put_other}
use Rattle.passing.specs.Row.{Row, passes}
use Rattle.stretches.specs.declared.Stretch.{Stretch}
use Rattle.directed.specs.Directed.{row_in}
use Rattle.directed.specs.declared.Directed.{Directed}
use Rattle.meeting.specs.Passing.{passed, Enough, Few, Inside, Ready}
use Rattle.meeting.specs.Answer.{Leads, ArrivedIs, Passed}
use Rattle.blocks.proofs.NextRecord.{ends_at}
use Rattle.heldmap.specs.Model.{settled_now}
use Rattle.heldmap.specs.RowsOfTables.{numbers_at, walks_in, hops_in}
use Rattle.stepping.specs.Taken.{StepIs, row_from, Begins}
use Rattle.stepping.specs.declared.Progress.{Progress}
use Rattle.words.specs.declared.Reason.TheVariants.{HeldRoom, SettledRoom}
use Rattle.words.specs.Refusal.{Refusal}

-- a refusal that is handed on is the same
pub handed-on : {T E : Type 0} (r : Result T E) {e : E} → IsErr r × IsErrAnd r (λ x. x ≡ e) → r ≡ Err e
handed-on r h =
    let w = err_from_is_err_and r h.1 in
    w.1 ∙ ap Err w.2

err_or : {T E : Type 0} → E → Result T E → E
err_or d (Ok x) = d
err_or d (Err e) = e

err-of-none : {T E : Type 0} (o : Option T) (e : E) → err_or e (ok_or o e) ≡ e
unfolding err_or
err-of-none None e = refl
err-of-none (Some x) e = refl

-- and where nothing was found, it is the one that was named for that
pub lacked : {T P E : Type 0} (o : Option T) (q : Result T E) (r : Result P E) {x e : E} → q ≡ ok_or o e → q ≡ Err x → IsErr r × IsErrAnd r (λ z. z ≡ x) → r ≡ Err e
unfolding err_or
lacked o q r {x} {e} k was h = handed-on r h ∙ ap Err (ap (err_or e) (sym was ∙ k) ∙ err-of-none o e)

-- settling x brings no entry but its own
settled-inside : (n : ℕ) (m : Map) (x : ℕ) → x < n → Inside n m → Inside n (settled_now m x)
unfolding settled_now
settled-inside n m x l h u k = go (eqb (remaining_of (settled (m x))) 0)
  where
    ne : u ≡ x → ⊥
    ne q = let z : ⊥ = omega arith in z

    go : (b : Bool) → cond b (put (put m x (settled (m x))) x absent) (put m x (settled (m x))) u ≡ absent
    go true = put_other (put m x (settled (m x))) x absent u ne ∙ put_other m x (settled (m x)) u ne ∙ h u k
    go false = put_other m x (settled (m x)) u ne ∙ h u k

-- x is settled, its row is read from three parts, and it is passed
module _ (v w h list : List ℕ) (x slot : ℕ) (s : Stretch) (a : Directed) (t t1 : Table) (h1 : List ℕ) {held w1 r1 l1 : List ℕ} (B : Begins v w h list x slot s a t held) (walks-are : w1 ≡ walks_in a.courier v w x)
    (hops-are : r1 ≡ hops_in a.courier a.arriving.size v h x) (numbers-are : l1 ≡ numbers_at list s) (L : Leads t t1 h1 (settled_now (map_of t held) x)) where
  abbrev R : Row
  R = row_from v w h list x s a

  abbrev n : ℕ
  n = passes a.arriving

  abbrev m : Map
  m = settled_now (map_of t held) x

  pub ready : Ready v w1 r1 l1 a t1 h1
  ready =
      rw (walks-are, hops-are, numbers-are)
      (record {
        order = L.holds.order;
        sound = B.sound;
        near = B.near;
        enough = subst (λ (k : Map). Enough R n k) (sym L.holds.map) B.enough;
        few = subst (λ (k : Map). Few R n k) (sym L.holds.map) B.few;
        inside = subst (λ (k : Map). Inside (length v / 12) k) (sym L.holds.map) (settled-inside (length v / 12) (map_of t held) x B.standing.low B.inside);
      })

  -- what was passed is the row of x
  over-parts : (h2 : List ℕ) (r : Option Table) → Passed v w1 r1 l1 a t1 h1 h2 r → ArrivedIs t1 h2 (passed R n (map_of t1 h1)) r
  over-parts h2 r p =
      subst (λ (y : List ℕ). ArrivedIs t1 h2 (passed (row_in v (walks_in a.courier v w x) (hops_in a.courier a.arriving.size v h x) y a) n (map_of t1 h1)) r) numbers-are
      (subst (λ (y : List ℕ). ArrivedIs t1 h2 (passed (row_in v (walks_in a.courier v w x) y l1 a) n (map_of t1 h1)) r) hops-are
      (subst (λ (y : List ℕ). ArrivedIs t1 h2 (passed (row_in v y r1 l1 a) n (map_of t1 h1)) r) walks-are p))

  pub all-passed : (h2 : List ℕ) (r : Option Table) → Passed v w1 r1 l1 a t1 h1 h2 r → ArrivedIs t h2 (passed R n m) r
  all-passed h2 r p = ends_at t t1 h2 L.room r (ap (passed R n) L.holds.map) (over-parts h2 r p)

module _ (p : Progress) (m : Map) (x d : ℕ) (held' settled settled' : List ℕ) where
  pub full-held : (r : Result Progress Refusal) → r ≡ Err (record { reason = HeldRoom; place = p.settled + 1 }) → p.table.room < size m → StepIs p m x d held' settled settled' r
  unfolding StepIs
  full-held r e h = rw e (inl (refl, h), refl)

  pub full-settled : size m ≤ p.table.room → p.settled ≡ length settled / 8 → StepIs p m x d held' settled settled' (Err (record { reason = SettledRoom; place = p.settled + 1 }))
  unfolding StepIs
  full-settled h e = (inr (refl, h, omega arith), refl)

  pub one_more : (t2 : Table) → Leads p.table t2 held' m → size m ≤ p.table.room → p.settled ≤ length settled / 8 → (p.settled ≡ length settled / 8 → ⊥)
      → settled' ≡ written settled (8 * p.settled) (settled_bytes (settled_of x d)) → StepIs p m x d held' settled settled' (Ok (record { table = t2; settled = p.settled + 1 }))
  unfolding StepIs
  one_more t2 L h l ne s = record { table = L; fits = h; count = refl; room = omega arith; listed = s }
