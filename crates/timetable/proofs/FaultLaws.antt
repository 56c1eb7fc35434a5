-- A timetable that is refused before its trips are judged, and one that is not. Assumes nothing.
use mathlib.Core.Path.{◌≡◌, refl, sym, ap, ap₂, subst, ◌∙◌}
use mathlib.Core.Logic.{◌⊎◌, inl, inr, ⊎_elim, ◌≢◌}
use mathlib.Core.Bool.{Bool, true, false, cond}
use mathlib.Core.List.{List, [], ◌∷◌, ◌++◌, flat_map}
use Prim.Native.Nat.{ℕ, ◌+◌, ◌/◌, ◌≤◌}
use native.Mathlib.Omega.{arith}
use native.Mathlib.Decide.{ℕ_discrete}
use lib.Dec.{eqb, leb}
use lib.ListN.{length, take, drop}
use borrow.Author.Tests.{eq-eqb, ne_eqb}
use Rattle.journeys.specs.Counting.{none}
use Rattle.journeys.specs.Bytes.{word, filled, cleared}
use Rattle.journeys.specs.Refusals.{Refusal, fine, unless, or_else, table_of}
use Rattle.journeys.proofs.Tests.{split, cond-true, cond-false}
use Rattle.journeys.proofs.Refusals.{or-fine, or-first, or-next, unless-good, unless-bad, unless-fine}
use Rattle.feed.specs.Lines.{lines_of}
use Rattle.feed.specs.Fields.{Row, row_of}
use Rattle.lines.specs.Ends.{width, end_width}
use Rattle.feed.specs.Ids.{list_line, ids_refusal}
use Rattle.feed.specs.Stops.{header, columns_once, header_refusal, stop_line, below, ids_known, lines_refusal, known_refusal}
use Rattle.feed.specs.Answers.{Feed, Passed, feed_hops, feed_refusal, hop_count, target_after}
use Rattle.vetting.proofs.LineLaws.{line-number, line-fine}
use Rattle.vetting.specs.Vetted.{text_refusal, opens, all_fit}
use Rattle.vetting.proofs.VettedLaws.{ids-fine, fit-lines}
use Rattle.vetting.proofs.FitLaws.{Open, all-open}
use Rattle.stoplist.specs.declared.Columns.{Columns}
use Rattle.stoplist.specs.Made.{entry_good}
use Rattle.headings.specs.Opened.{Opened}
use Rattle.headings.proofs.OpenedLaws.{first-row}
use Rattle.timetable_laws.proofs.Demands.{count_most}
use Rattle.std.specs.Prelude.{Result}
use Rattle.words.specs.Refusal.{Refusal as Reasoned}
use Rattle.words.specs.Told.{told}
use Rattle.departures.specs.Answered.{hops_told}
use Rattle.timetable.specs.Lent.{Answers, answer_bytes}

or_assoc : (a b c : Refusal) → or_else (or_else a b) c ≡ or_else a (or_else b c)
or_assoc a b c = go (ℕ_discrete a.number 0)
  where
    go : Dec (a.number ≡ 0) → or_else (or_else a b) c ≡ or_else a (or_else b c)
    go (yes e) = ap (λ (r : Refusal). or_else r c) (or-next a b e) ∙ sym (or-next a (or_else b c) e)
    go (no n) = ap (λ (r : Refusal). or_else r c) (or-first a b n) ∙ or-first a c n ∙ sym (or-first a (or_else b c) n)

-- ---- a refusal is told by its number alone
abbrev Is : ℕ → Refusal → Type 0
Is n r = (r.number ≡ 0) ⊎ (r.number ≡ n)

either : (P : ℕ → Type 0) (a b : Refusal) → P a.number → P b.number → P (or_else a b).number
either P a b p q = go (ℕ_discrete a.number 0)
  where
    go : Dec (a.number ≡ 0) → P (or_else a b).number
    go (yes e) = subst (λ (r : Refusal). P r.number) (sym (or-next a b e)) q
    go (no n) = subst (λ (r : Refusal). P r.number) (sym (or-first a b n)) p

abbrev NotOne : ℕ → Type 0
NotOne n = n ≡ 1 → ⊥

not-one : {n k : ℕ} → (n ≡ 0) ⊎ (n ≡ k) → NotOne k → NotOne n
not-one (inl e) f q = absurd (omega (arith, e, q))
not-one (inr e) f q = f (sym e ∙ q)

line-not-one : {r : Refusal} {k : ℕ} → (r ≡ fine) ⊎ (r.number ≡ k) → NotOne k → NotOne r.number
line-not-one (inl e) f q = let z = ap (λ (x : Refusal). x.number) e in absurd (omega (arith, z, q))
line-not-one (inr e) f q = f (sym e ∙ q)

unless-not-one : (b : Bool) (k p : ℕ) → NotOne k → NotOne (unless b k p).number
unless-not-one b k p f =
    ⊎_elim (λ (t : b ≡ true). λ q. let z = ap (λ (x : Refusal). x.number) (unless-good b k p t) in absurd (omega (arith, z, q)))
    (λ (t : b ≡ false). λ q. f (ap (λ (x : Refusal). x.number) (sym (unless-bad b k p t)) ∙ q))
    (split b)

ids-not-one : (most : ℕ) (list : List ℕ) → NotOne (ids_refusal most list).number
unfolding ids_refusal
ids-not-one most list = line-not-one (line-number 29 refl (list_line most) 1 (lines_of list)) (λ q. absurd (omega (arith, q)))

header-not-one : (text : List ℕ) → NotOne (header_refusal text).number
unfolding header_refusal
header-not-one text = unless-not-one (columns_once (header text)) 12 1 (λ q. absurd (omega (arith, q)))

lines-not-one : (text : List ℕ) → NotOne (lines_refusal text).number
unfolding lines_refusal
lines-not-one text =
    either NotOne (unless (header text).sound 13 1) _ (unless-not-one (header text).sound 13 1 (λ q. absurd (omega (arith, q))))
    (line-not-one (line-number 13 refl (stop_line (header text)) 2 (below text)) (λ q. absurd (omega (arith, q))))

known-not-one : (text stops trips : List ℕ) → NotOne (known_refusal text stops trips).number
unfolding known_refusal
known-not-one text stops trips = line-not-one (line-number 14 refl (ids_known (header text) stops trips) 2 (below text)) (λ q. absurd (omega (arith, q)))

text-not-one : (text stops trips : List ℕ) → NotOne (text_refusal text stops trips).number
unfolding text_refusal
text-not-one text stops trips =
    either NotOne (ids_refusal 65535 stops) _ (ids-not-one 65535 stops)
    (either NotOne (ids_refusal none trips) _ (ids-not-one none trips) (either NotOne (header_refusal text) (lines_refusal text) (header-not-one text) (lines-not-one text)))

-- ---- what passes
pub record Vetted (text stops trips : List ℕ) : Type 0 where
  pub stops-fine : ids_refusal 65535 stops ≡ fine
  pub trips-fine : ids_refusal none trips ≡ fine
  pub columns : columns_once (header text) ≡ true
  pub header-fine : (header_refusal text).number ≡ 0
  pub lines-fine : lines_refusal text ≡ fine

rest-fine : (text : List ℕ) → (lines_refusal text).number ≡ 0 → lines_refusal text ≡ fine
unfolding lines_refusal
rest-fine text e =
    let p = or-fine (unless (header text).sound 13 1) _ e in
    or-next (unless (header text).sound 13 1) _ p.0 ∙ line-fine 13 refl (stop_line (header text)) 2 (below text) p.1

pub vetted : (text stops trips : List ℕ) → (text_refusal text stops trips).number ≡ 0 → Vetted text stops trips
unfolding text_refusal header_refusal
vetted text stops trips e =
    let p = or-fine (ids_refusal 65535 stops) _ e in
    let q = or-fine (ids_refusal none trips) _ p.1 in
    let r = or-fine (header_refusal text) _ q.1 in
    record { stops-fine = ids-fine 65535 stops p.0; trips-fine = ids-fine none trips q.0; columns = unless-fine (columns_once (header text)) 12 1 (omega arith) r.0; header-fine = r.0; lines-fine = rest-fine text r.1 }

-- line 1 by its place
pub opening_of : (text stops trips : List ℕ) (stop next : ℕ) → stop ≡ 0 + width (drop 0 text) → next ≡ stop + end_width (drop stop text) → opens (row_of (take stop text)) stops trips ≡ true → Open (header text) stops trips
opening_of text stops trips stop next s n e = all-open (header text) stops trips (ap (λ (H : Row). opens H stops trips) (sym (first-row text stop next s n)) ∙ e)

-- the lists and line 1 are not refused, and all lines are let pass
pub fitted : (text stops trips : List ℕ) (from : ℕ) (C : Columns) → Opened text from C → Open (header text) stops trips → all_fit (entry_good C stops trips) (lines_of (drop from text)) ≡ true → Vetted text stops trips
unfolding header_refusal
fitted text stops trips from C o w e =
    record {
      stops-fine = ids-fine 65535 stops w.stops-none;
      trips-fine = ids-fine none trips w.trips-none;
      columns = w.columns;
      header-fine = ap (λ (r : Refusal). r.number) (unless-good (columns_once (header text)) 12 1 w.columns);
      lines-fine = fit-lines text from C o stops trips e w.sound;
    }

-- ---- the answer of the definitions
module _ (F : Feed) where
  -- 1 changes nothing
  pub target-refused : (a : Result ℕ Reasoned) → table_of 20 0 262144 F.target ≡ false → told a ≡ record { number = 1; place = 2 } → hops_told a ≡ 0 → Answers F a F.target
  unfolding feed_refusal hop_count target_after
  target-refused a t e h =
      let bad = unless-bad (table_of 20 0 262144 F.target) 1 2 t in
      let r : feed_refusal F ≡ record { number = 1; place = 2 } = or-first (unless (table_of 20 0 262144 F.target) 1 2) _ (λ z. absurd (omega (arith, z, ap (λ (x : Refusal). x.number) bad))) ∙ bad in
      record { refusal = e ∙ sym r; hops = h ∙ sym (ap (λ (x : Refusal). cond (eqb x.number 0) (length (feed_hops F)) 0) r); target = sym (ap (λ (x : Refusal). cond (eqb x.number 1) F.target (cond (eqb x.number 0) (filled F.target (flat_map (λ h. h) (feed_hops F))) (cleared F.target))) r) }

  -- every other refusal leaves the target zero
  other-refused : (a : Result ℕ Reasoned) (target : List ℕ) (r : Refusal) → feed_refusal F ≡ r → r.number ≢ 0 → NotOne r.number → told a ≡ r → hops_told a ≡ 0 → target ≡ cleared F.target → Answers F a target
  unfolding hop_count target_after
  other-refused a target r f n o e h z =
      record {
        refusal = e ∙ sym f;
        hops = h ∙ sym (ap (λ (x : Refusal). cond (eqb x.number 0) (length (feed_hops F)) 0) f ∙ cond-false _ _ (ne_eqb r.number 0 n));
        target = z ∙ sym (ap (λ (x : Refusal). cond (eqb x.number 1) F.target (cond (eqb x.number 0) (filled F.target (flat_map (λ h. h) (feed_hops F))) (cleared F.target))) f ∙ cond-false _ _ (ne_eqb r.number 1 o) ∙ cond-false _ _ (ne_eqb r.number 0 n));
      }

  module _ (t : table_of 20 0 262144 F.target ≡ true) where
    abbrev early : Refusal
    early = text_refusal F.stop_times F.stops F.trips

    whole : (unless (table_of 20 0 262144 F.target) 1 2).number ≡ 0
    whole = ap (λ (x : Refusal). x.number) (unless-good (table_of 20 0 262144 F.target) 1 2 t)

    -- 29, 12 and 13
    pub text-refused : (a : Result ℕ Reasoned) (target : List ℕ) → early.number ≢ 0 → told a ≡ early → hops_told a ≡ 0 → target ≡ cleared F.target → Answers F a target
    unfolding feed_refusal text_refusal
    text-refused a target n e h z = other-refused a target early first n (text-not-one F.stop_times F.stops F.trips) e h z
      where
        first : feed_refusal F ≡ early
        first =
            let s = ids_refusal 65535 F.stops in
            let p = ids_refusal none F.trips in
            let c = header_refusal F.stop_times in
            let l = lines_refusal F.stop_times in
            or-next (unless (table_of 20 0 262144 F.target) 1 2) _ whole
            ∙ ap (λ (x : Refusal). or_else s (or_else p x)) (sym (or_assoc c l _))
            ∙ ap (or_else s) (sym (or_assoc p (or_else c l) _))
            ∙ sym (or_assoc s (or_else p (or_else c l)) _)
            ∙ or-first early _ n

    module _ (v : Vetted F.stop_times F.stops F.trips) where
      number-0 : {r : Refusal} → r ≡ fine → r.number ≡ 0
      number-0 e = ap (λ (x : Refusal). x.number) e

      -- 14
      pub id-refused : (a : Result ℕ Reasoned) (target : List ℕ) → (known_refusal F.stop_times F.stops F.trips).number ≢ 0 → told a ≡ known_refusal F.stop_times F.stops F.trips → hops_told a ≡ 0 → target ≡ cleared F.target → Answers F a target
      unfolding feed_refusal
      id-refused a target n e h z = other-refused a target (known_refusal F.stop_times F.stops F.trips) first n (known-not-one F.stop_times F.stops F.trips) e h z
        where
          first : feed_refusal F ≡ known_refusal F.stop_times F.stops F.trips
          first =
              or-next (unless (table_of 20 0 262144 F.target) 1 2) _ whole
              ∙ or-next (ids_refusal 65535 F.stops) _ (number-0 v.stops-fine)
              ∙ or-next (ids_refusal none F.trips) _ (number-0 v.trips-fine)
              ∙ or-next (header_refusal F.stop_times) _ v.header-fine
              ∙ or-next (lines_refusal F.stop_times) _ (number-0 v.lines-fine)
              ∙ or-first (known_refusal F.stop_times F.stops F.trips) _ n

      pub passed : (known_refusal F.stop_times F.stops F.trips).number ≡ 0 → Passed F
      passed k = record { target = whole; stops = number-0 v.stops-fine; trips = number-0 v.trips-fine; header = v.header-fine; lines = number-0 v.lines-fine; known = k }

-- ---- the answer in 12 bytes
module _ {F : Feed} {a : Result ℕ Reasoned} {after : List ℕ} (x : Answers F a after) where
  pub hops_few : hops_told a ≤ 262144
  hops_few = let n = count_most F in omega (arith, x.hops, n)

  pub answer-bytes : word (told a).number ++ word (told a).place ++ word (hops_told a) ≡ answer_bytes F
  unfolding answer_bytes
  answer-bytes = ap₂ (λ (r : Refusal) (n : ℕ). word r.number ++ word r.place ++ word n) x.refusal x.hops
