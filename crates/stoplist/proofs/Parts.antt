-- What a line that 13 and 14 let pass has for its record. Assumes nothing.
use mathlib.Core.Path.{◌≡◌, refl, sym, ap, subst, ◌∙◌}
use mathlib.Core.Logic.{⊎_elim}
use mathlib.Core.Bool.{Bool, true, false, not, ◌&&◌, ◌||◌}
use mathlib.Core.List.{List, [], ◌∷◌}
use Rattle.std.specs.Prelude.{Option, Some, None, IsSome}
use borrow.Author.Rules.{rules}
use Prim.Native.Nat.{ℕ, ◌+◌, ◌-◌, ◌≤◌, ◌<◌, ◌^◌}
use native.Mathlib.Omega.{arith}
use native.Mathlib.Decide.{ℕ_discrete}
use lib.Dec.{eqb, leb}
use lib.ListN.{length, get_or, take, drop}
use borrow.Author.Tests.{eqb-true, eq-eqb, leb-true, le-leb}
use Rattle.journeys.specs.Counting.{none, one}
use Rattle.journeys.specs.Refusals.{fine}
use Rattle.journeys.proofs.Tests.{split, never, and_both, and-true, or_cases}
use Rattle.feed.specs.Lines.{empty}
use Rattle.feed.specs.Fields.{row_of, field}
use Rattle.feed.specs.Values.{digits, number, value_from, value_of, time, time_or_blank, seconds_of}
use Rattle.feed.specs.Ids.{list_line, ids_refusal, number_of}
use Rattle.feed.specs.Stops.{or_other}
use Rattle.lines.specs.Spans.{bytes_in}
use Rattle.rows.specs.declared.Places.{Places}
use Rattle.rows.specs.Placed.{field_span, places_of}
use Rattle.rows.proofs.Fields.{value, pairs}
use Rattle.rows.proofs.Picks.{nowhere-uncounted}
use Rattle.naming.specs.Named.{line_at, found_from}
use Rattle.naming.proofs.Meaning.{number_is}
use Rattle.known.specs.Counted.{id_known}
use Rattle.known.proofs.Lookups.{listed-is}
use Rattle.spelling.specs.Spelled.{number_at}
use Rattle.stops.specs.StopLines.{line_good}
use Rattle.stoplist.specs.declared.Columns.{Columns}
use Rattle.stoplist.specs.Made.{entry_good}

-- ---- an id that is listed
list-none : (l : List ℕ) → list_line 65535 l ≡ true → (list_line none l ≡ true) × (value_of (field (row_of l) 1) ≤ 65535)
unfolding list_line number
list-none l g =
    let a = and_both ((row_of l).sound && eqb (length (row_of l).fields) 2) (digits (field (row_of l) 1) && leb (value_of (field (row_of l) 1)) 65535) g in
    let b = and_both (digits (field (row_of l) 1)) (leb (value_of (field (row_of l) 1)) 65535) a.1 in
    let c = leb-true (value_of (field (row_of l) 1)) 65535 b.1 in
    (and-true a.0 (and-true b.0 (le-leb (value_of (field (row_of l) 1)) none (omega (arith, c)))), c)

module _ (most : ℕ) (list l : List ℕ) (k : ℕ) (h : k < length (row_of l).fields) (e : ids_refusal most list ≡ fine) (g : id_known list k l ≡ true) where
  abbrev found : ℕ
  found = found_from list 0 (bytes_in l (field_span l k))

  pub found_some : {r : ℕ} → r ≡ found → 1 ≤ r
  found_some {r} q = go (ℕ_discrete r 0)
    where
      go : Dec (r ≡ 0) → 1 ≤ r
      go (yes z) = never g (listed-is most list l k e h ∙ ap not (eq-eqb found 0 (sym q ∙ z)))
      go (no z) = omega arith

  pub found-there : {r : ℕ} → r ≡ found → (r - 1 < length list) × (list_line most (line_at list (r - 1)) ≡ true) × (number_at list (r - 1) ≡ number_of list (field (row_of l) k))
  unfolding number_at
  found-there {r} q =
      let s = found_some q in
      let w = number_is most list (bytes_in l (field_span l k)) (pairs l k h) e (r - 1) (sym q ∙ omega (arith, s)) in
      (w.0, w.2, sym (ap (number_of list) (value l k h) ∙ w.3))

pub vertex-good : (list l : List ℕ) (k : ℕ) (h : k < length (row_of l).fields) (e : ids_refusal 65535 list ≡ fine) (g : id_known list k l ≡ true) {r : ℕ} → r ≡ found_from list 0 (bytes_in l (field_span l k))
    → (r - 1 < length list) × (list_line none (line_at list (r - 1)) ≡ true)
vertex-good list l k h e g q = let w = found-there 65535 list l k h e g q in (w.0, (list-none _ w.1).0)

pub vertex-told : (list l : List ℕ) (k : ℕ) (h : k < length (row_of l).fields) (e : ids_refusal 65535 list ≡ fine) (g : id_known list k l ≡ true) {r v : ℕ} → r ≡ found_from list 0 (bytes_in l (field_span l k))
    → v ≡ number_at list (r - 1) → (v ≡ number_of list (field (row_of l) k)) × (v ≤ 65535)
unfolding number_at
vertex-told list l k h e g {r} {v} q n =
    let w = found-there 65535 list l k h e g q in
    (n ∙ w.2, subst (λ (x : ℕ). x ≤ 65535) (sym n) (list-none (line_at list (r - 1)) w.1).1)

-- ---- times are below 48 hours
number-most : (most : ℕ) (f : List ℕ) → number most f ≡ true → value_of f ≤ most
unfolding number
number-most most f e = leb-true (value_of f) most (and_both (digits f) (leb (value_of f) most) e).1

blank_none : (f : List ℕ) → empty f ≡ true → seconds_of f ≡ 0
unfolding empty seconds_of value_of value_from
blank_none [] e = refl
blank_none (b ∷ r) e = never e refl

time-most : (f : List ℕ) → time f ≡ true → seconds_of f ≤ 172799
unfolding time seconds_of
time-most f e =
    let h = length f - 6 in
    let p5 = and_both ((eqb (length f) 7 || eqb (length f) 8) && number 47 (take h f) && eqb (get_or f h 0) 58 && number 59 (take 2 (drop (h + 1) f)) && eqb (get_or f (h + 3) 0) 58) (number 59 (take 2 (drop (h + 4) f))) e in
    let p4 = and_both ((eqb (length f) 7 || eqb (length f) 8) && number 47 (take h f) && eqb (get_or f h 0) 58 && number 59 (take 2 (drop (h + 1) f))) (eqb (get_or f (h + 3) 0) 58) p5.0 in
    let p3 = and_both ((eqb (length f) 7 || eqb (length f) 8) && number 47 (take h f) && eqb (get_or f h 0) 58) (number 59 (take 2 (drop (h + 1) f))) p4.0 in
    let p2 = and_both ((eqb (length f) 7 || eqb (length f) 8) && number 47 (take h f)) (eqb (get_or f h 0) 58) p3.0 in
    let p1 = and_both (eqb (length f) 7 || eqb (length f) 8) (number 47 (take h f)) p2.0 in
    let a = number-most 47 (take h f) p1.1 in
    let b = number-most 59 (take 2 (drop (h + 1) f)) p3.1 in
    let c = number-most 59 (take 2 (drop (h + 4) f)) p5.1 in
    omega (arith, a, b, c)

seconds-most : (f : List ℕ) → time_or_blank f ≡ true → seconds_of f ≤ 172799
unfolding time_or_blank
seconds-most f e = ⊎_elim (λ q. rw (blank_none f q) (omega arith)) (time-most f) (or_cases (empty f) (time f) e)

pub other-most : (f g : List ℕ) → time_or_blank f ≡ true → time_or_blank g ≡ true → or_other f g ≤ 172799
unfolding or_other
other-most f g a b = ⊎_elim (λ (q : empty f ≡ true). rw q (seconds-most g b)) (λ (q : empty f ≡ false). rw q (seconds-most f a)) (split (empty f))

pub other-small : (f g : List ℕ) → time_or_blank f ≡ true → time_or_blank g ≡ true → or_other f g < 262144
other-small f g a b = omega (arith, other-most f g a b)

-- ---- the tests of a good line
module _ (C : Columns) (stops trips l : List ℕ) (g : entry_good C stops trips l ≡ true) where
  pub record Good : Type 0 where
    pub counted : ((row_of l).sound && eqb (length (row_of l).fields) C.count) ≡ true
    pub many : length (row_of l).fields ≡ C.count
    pub arrival : time_or_blank (field (row_of l) C.arrival) ≡ true
    pub departure : time_or_blank (field (row_of l) C.departure) ≡ true
    pub sequence : number none (field (row_of l) C.sequence) ≡ true
    pub stop : id_known stops C.stop l ≡ true
    pub trip : id_known trips C.trip l ≡ true

  pub good : Good
  unfolding entry_good line_good
  good =
      let a = and_both ((row_of l).sound && eqb (length (row_of l).fields) C.count && time_or_blank (field (row_of l) C.arrival) && time_or_blank (field (row_of l) C.departure) && number none (field (row_of l) C.sequence)) (id_known stops C.stop l && id_known trips C.trip l) g in
      let k = and_both (id_known stops C.stop l) (id_known trips C.trip l) a.1 in
      let p3 = and_both ((row_of l).sound && eqb (length (row_of l).fields) C.count && time_or_blank (field (row_of l) C.arrival) && time_or_blank (field (row_of l) C.departure)) (number none (field (row_of l) C.sequence)) a.0 in
      let p2 = and_both ((row_of l).sound && eqb (length (row_of l).fields) C.count && time_or_blank (field (row_of l) C.arrival)) (time_or_blank (field (row_of l) C.departure)) p3.0 in
      let p1 = and_both ((row_of l).sound && eqb (length (row_of l).fields) C.count) (time_or_blank (field (row_of l) C.arrival)) p2.0 in
      let p0 = and_both (row_of l).sound (eqb (length (row_of l).fields) C.count) p1.0 in
      record { counted = p1.0; many = eqb-true _ _ p0.1; arrival = p1.1; departure = p2.1; sequence = p3.1; stop = k.0; trip = k.1 }

  pub all_fit : (p : Option Places) → p ≡ places_of C.count C.trip C.arrival C.departure C.stop C.sequence l → IsSome p
  all_fit (Some p) e = search rules
  all_fit None e = never good.counted (nowhere-uncounted C.count C.trip C.arrival C.departure C.stop C.sequence l e)

  pub below : {c : ℕ} → c < C.count → c < length (row_of l).fields
  below {c} h = subst (λ (n : ℕ). c < n) (sym good.many) h

pub one-least : (t : Bool) {x : ℕ} → x ≡ one t → x ≤ 1
one-least true e = omega (arith, e)
one-least false e = omega (arith, e)

pub below-two-to-32 : {r n : ℕ} → r - 1 < n → n < 4294967296 → r < 2 ^ 32
below-two-to-32 h k = omega (arith, h, k)
