-- A record is passed at a vertex that is held: from the changed word to the entry, and what the answer tells.
use mathlib.Core.Path.{◌≡◌, refl, sym, ap, subst, ◌∙◌}
use mathlib.Core.Bool.{Bool, true, false, cond}
use mathlib.Core.Logic.{◌≢◌}
use mathlib.Core.List.{List}
use Prim.Native.Nat.{ℕ, ◌-◌, ◌+◌, ◌*◌, ◌/◌, ◌%◌, ◌<◌, ◌≤◌, min}
use native.Mathlib.Omega.{arith}
use lib.ListN.{length}
use Rattle.table_bytes.specs.Columns.{cols, at, set_w}
use Rattle.table_bytes.proofs.Access.{sized}
use Rattle.table_tree.specs.Words.{key}
use Rattle.table_tree.specs.Tree.{Changed}
use Rattle.table_records.specs.Fields.{distance_in, state_in, remaining_in}
use Rattle.worktable.specs.Map.{Entry, absent, known, Map, Figure, remaining_of, put, touched, spent}
use Rattle.worktable.specs.Inside.{entry_in, told_of}
use Rattle.worktable.specs.Table.{map_of, InOrder, Place, Gives, PassedIs}
use Rattle.worktable.specs.declared.Table.{Table}
use Rattle.worktable.specs.declared.Passed.{Passed}
use Rattle.worktable.proofs.MapLaws.{put_same, put-put, absent-known, touched-open, touched-settled}
use Rattle.worktable.proofs.WordLaws.{open-low, settled-high, known_is, entry-used, less-some, less-used, less-vertex, less-key, less-state, less-remaining, less-distance, less-half, less-entry, no_lower, lower-used, lower-vertex, lower-key, lower-entry}
use Rattle.worktable.proofs.LayoutLaws.{same-changed}
use Rattle.worktable.proofs.TableLaws.{place-low, place-pos, place-entry, place-remaining, gives-changed}

-- ---- what the answer tells in each of its cases
pub passed-absent : (D : ℕ) (t : Table) (b : List ℕ) (u : ℕ) (e : Entry) {p : Passed} → PassedIs D t b u e p → p ≡ Passed.Absent → e ≡ absent
unfolding PassedIs
passed-absent D t b u e h q = subst (PassedIs D t b u e) q h

pub passed-kept : (D : ℕ) (t : Table) (b : List ℕ) (u : ℕ) (e : Entry) {p : Passed} → PassedIs D t b u e p → p ≡ Passed.Kept → (e ≢ absent) × (spent D e ≡ false)
unfolding PassedIs
passed-kept D t b u e h q = subst (PassedIs D t b u e) q h

pub passed-spent : (D : ℕ) (t : Table) (b : List ℕ) (u : ℕ) (e : Entry) {s : ℕ} {p : Passed} → PassedIs D t b u e p → p ≡ Passed.Spent s → Place t b u s × (spent D e ≡ true)
unfolding PassedIs
passed-spent D t b u e h q = subst (PassedIs D t b u e) q h

-- what the word of u tells is the answer
pub told_is : (D w : ℕ) {s : ℕ} {t : Table} {b : List ℕ} {u : ℕ} {e : Entry} {r : Passed} → Place t b u s → known (distance_in w) (state_in w) (remaining_in w) ≡ e
    → r ≡ told_of D s (known (distance_in w) (state_in w) (remaining_in w)) → PassedIs D t b u e r
unfolding told_of PassedIs
told_is D w {s} {t} {b} {u} {e} {r} p is eq =
    let held : e ≢ absent = λ z. absent-known (sym z ∙ sym is) in
    subst (PassedIs D t b u e) (sym (eq ∙ ap (λ (x : Entry). cond (spent D x) (Passed.Spent s) Passed.Kept) is)) (go held (spent D e) refl)
  where
    go : e ≢ absent → (k : Bool) → spent D e ≡ k → PassedIs D t b u e (cond k (Passed.Spent s) Passed.Kept)
    go held true q = (p, q)
    go held false q = (held, q)

-- ---- one change of an entry after another
pub gives_at : {t r : Table} {b c : List ℕ} (u : ℕ) (e : Entry) → Gives t r b c (put (map_of t b) u e) → map_of r c u ≡ e
gives_at {t} {r} {b} u e g = ap (λ (m : Map). m u) g.holds.map ∙ put_same (map_of t b) u e u refl

pub gives-place : {t r : Table} {b c : List ℕ} {u s : ℕ} (e : Entry) → Gives t r b c (put (map_of t b) u e) → e ≢ absent → Place t b u s → Place r c u s
gives-place {t} {r} {b} {c} {u} {s} e g n p = g.stays u s (λ z. n (sym (put_same (map_of t b) u e u refl) ∙ z)) p

pub gives-twice : {t r : Table} {b c : List ℕ} (u : ℕ) (d e : Entry) → Gives t r b c (put (map_of t b) u d) → put (map_of r c) u e ≡ put (map_of t b) u e
gives-twice {t} {r} {b} u d e g = ap (λ (m : Map). put m u e) g.holds.map ∙ put-put (map_of t b) u d e

-- u is at s and its word is v; a record of it remains, which offers x
module _ {t : Table} {b : List ℕ} {u s v : ℕ} (x : ℕ) (o : InOrder t b) (p : Place t b u s) (ev : v ≡ at (cols t.slots b).w s) (fit : v < 18446744073709551616)
    (due : map_of t b u ≢ absent → 0 < remaining_of (map_of t b u)) where
  some : 0 < remaining_in v
  some = omega (arith, due (λ z. absent-known (sym z ∙ place-entry o p ev)), place-remaining o p ev)

  pub pass-some : 1 ≤ v
  pass-some = less-some v fit some

  pub less-is : known (distance_in (v - 1)) (state_in (v - 1)) (remaining_in (v - 1)) ≡ known (distance_in v) (state_in v) (remaining_in v - 1)
  less-is = known_is (less-distance v fit some) (less-state v fit some) (less-remaining v fit some)

  -- the word without that record is stored
  stored : {c : List ℕ} {e : Entry} → entry_in (v - 1) ≡ e → cols t.slots c ≡ set_w (cols t.slots b) s (v - 1) → length c ≡ length b → Gives t t b c (put (map_of t b) u e)
  stored is eq len = gives-changed o p ev (less-used v fit some) (less-vertex v fit some) is
      (same-changed (sized t.slots b) (place-low o p) (less-key v fit some ∙ ap key ev) (o.layout (place-pos o p)).win eq) len

  module _ (h : 9223372036854775808 ≤ v - 1) where
    settled : state_in v ≢ 0
    settled z = settled-high (v - 1) h (less-state v fit some ∙ z)

    pub pass-settled : touched x (map_of t b u) ≡ known (distance_in v) (state_in v) (remaining_in v - 1)
    pass-settled = ap (touched x) (place-entry o p ev) ∙ touched-settled x (distance_in v) (state_in v) (remaining_in v) settled

    pub pass-settled-gives : {c : List ℕ} → cols t.slots c ≡ set_w (cols t.slots b) s (v - 1) → length c ≡ length b → Gives t t b c (put (map_of t b) u (touched x (map_of t b u)))
    pass-settled-gives eq len = stored (less-entry v fit some ∙ sym pass-settled) eq len

  module _ (h : v - 1 < 9223372036854775808) where
    less-open : state_in (v - 1) ≡ 0
    less-open = open-low (v - 1) h

    open-word : state_in v ≡ 0
    open-word = sym (less-state v fit some) ∙ less-open

    pub pass-open : touched x (map_of t b u) ≡ known (min x (distance_in v)) (state_in v) (remaining_in v - 1)
    pass-open = ap (touched x) (place-entry o p ev) ∙ touched-open x (distance_in v) (state_in v) (remaining_in v) open-word

    pub pass-open-same : Figure x → (v - 1) / 68719476736 ≤ x → touched x (map_of t b u) ≡ known (distance_in v) (state_in v) (remaining_in v - 1)
    pass-open-same ld l = pass-open ∙ known_is (no_lower v x open-word ld (omega (arith, l, less-half v fit some))) refl refl

    pub pass-open-gives : {c : List ℕ} → Figure x → (v - 1) / 68719476736 ≤ x → cols t.slots c ≡ set_w (cols t.slots b) s (v - 1) → length c ≡ length b → Gives t t b c (put (map_of t b) u (touched x (map_of t b u)))
    pass-open-gives ld l eq len = stored (less-entry v fit some ∙ sym (pass-open-same ld l)) eq len

    pub pass-lower-same : Figure x → x < (v - 1) / 68719476736
        → known (distance_in (x * 68719476736 + (v - 1) % 68719476736)) (state_in (x * 68719476736 + (v - 1) % 68719476736)) (remaining_in (x * 68719476736 + (v - 1) % 68719476736)) ≡ touched x (map_of t b u)
    pass-lower-same ld l =
        sym (entry-used (x * 68719476736 + (v - 1) % 68719476736) (lower-used (v - 1) x less-open ld l))
        ∙ lower-entry (v - 1) x less-open ld l ∙ known_is (ap (min x) (less-distance v fit some)) (less-state v fit some) (less-remaining v fit some) ∙ sym pass-open

    pub pass-lower-key : Figure x → x < (v - 1) / 68719476736 → key (x * 68719476736 + (v - 1) % 68719476736) ≤ key (at (cols t.slots b).w s)
    pass-lower-key ld l = rw (← ev) (omega (arith, lower-key (v - 1) x less-open ld l, less-key v fit some))

    pub pass-lower-gives : {c : List ℕ} → Figure x → x < (v - 1) / 68719476736 → Changed t.capacity s (x * 68719476736 + (v - 1) % 68719476736) (cols t.slots b) (cols t.slots c) → length c ≡ length b
        → Gives t t b c (put (map_of t b) u (touched x (map_of t b u)))
    pass-lower-gives ld l ch len = gives-changed o p ev (lower-used (v - 1) x less-open ld l) (lower-vertex (v - 1) x less-open ld l ∙ less-vertex v fit some)
        (entry-used (x * 68719476736 + (v - 1) % 68719476736) (lower-used (v - 1) x less-open ld l) ∙ pass-lower-same ld l) ch len
