-- Refusals 1 (places 3 and 4) and 7: each return is the first test that fails. Assumes nothing.
use mathlib.Core.Path.{◌≡◌, sym, ap, ap₂, ◌∙◌}
use mathlib.Core.Bool.{Bool, true, false, not, ◌&&◌}
use mathlib.Core.List.{List}
use Prim.Native.Nat.{ℕ, ◌+◌, ◌/◌, ◌%◌, ◌≤◌, ◌<◌}
use native.Mathlib.Omega.{arith}
use lib.Dec.{leb, ltb}
use lib.ListN.{length}
use borrow.Author.Tests.{eq-eqb, ne_eqb, lt-ltb, le-ltb, le-leb, lt-leb, not-true, not-false}
use Rattle.journeys.specs.Bytes.{midnight}
use Rattle.journeys.specs.Tables as tables
use Rattle.journeys.specs.Tables.{tables_of, walk_at, walk_count}
use Rattle.journeys.specs.Query.{Query, asked}
use Rattle.journeys.specs.Refusals.{Refusal, fine, unless, or_else, whole_of, buffer_lengths, query_refusal}
use Rattle.journeys.proofs.Decoding.{walk-count, walk_at_lem}
use Rattle.records.specs.Meaning.{walk_of}
use Rattle.records.specs.declared.Walk.{Walk}

-- a test that fails gives its refusal; one that passes hands on
pub failed : (good : Bool) (n p : ℕ) (rest : Refusal) → 0 < n → good ≡ false → or_else (unless good n p) rest ≡ record { number = n; place = p }
unfolding or_else unless
failed good n p rest l e = rw (e, ne_eqb n 0 (omega arith))

pub passed : (good : Bool) (n p : ℕ) (rest : Refusal) → good ≡ true → or_else (unless good n p) rest ≡ rest
unfolding or_else unless
passed good n p rest e = rw e

pub last : (good : Bool) (n p : ℕ) → good ≡ true → unless good n p ≡ fine
unfolding unless
last good n p e = rw e

pub last-failed : (good : Bool) (n p : ℕ) → good ≡ false → unless good n p ≡ record { number = n; place = p }
unfolding unless
last-failed good n p e = rw e

whole : (size : ℕ) (b : List ℕ) → length b % size ≡ 0 → whole_of size b ≡ true
unfolding whole_of
whole size b e = eq-eqb (length b % size) 0 e

cut : (size : ℕ) (b : List ℕ) → (length b % size ≡ 0 → ⊥) → whole_of size b ≡ false
unfolding whole_of
cut size b n = ne_eqb (length b % size) 0 n

module _ (held settled : List ℕ) where
  pub held_cut : (length held % 16 ≡ 0 → ⊥) → record { number = 1; place = 3 } ≡ buffer_lengths held settled
  unfolding buffer_lengths
  held_cut n = sym (failed (whole_of 16 held) 1 3 _ (omega arith) (cut 16 held n))

  pub settled-cut : length held % 16 ≡ 0 → (length settled % 8 ≡ 0 → ⊥) → record { number = 1; place = 4 } ≡ buffer_lengths held settled
  unfolding buffer_lengths
  settled-cut h n = sym (passed (whole_of 16 held) 1 3 _ (whole 16 held h) ∙ last-failed (whole_of 8 settled) 1 4 (cut 8 settled n))

  pub none-cut : length held % 16 ≡ 0 → length settled % 8 ≡ 0 → fine ≡ buffer_lengths held settled
  unfolding buffer_lengths
  none-cut h s = sym (passed (whole_of 16 held) 1 3 _ (whole 16 held h) ∙ last (whole_of 8 settled) 1 4 (whole 8 settled s))

-- the query: what its road and its fields have to be
module _ (size : ℕ) (v w h : List ℕ) (Q : Query) where
  low-walk : Q.walk < length w / 16 → ltb Q.walk (walk_count (tables_of size v w h)) ≡ true
  low-walk l = lt-ltb Q.walk _ (rw (walk-count size v w h) l)

  pub walk-fault : length w / 16 ≤ Q.walk → record { number = 7; place = 0 } ≡ query_refusal (tables_of size v w h) Q
  unfolding query_refusal
  walk-fault l = sym (failed (ltb Q.walk (walk_count (tables_of size v w h))) 7 0 _ (omega arith) (le-ltb Q.walk _ (rw (walk-count size v w h) l)))

  module _ (l : Q.walk < length w / 16) where
    road : asked (tables_of size v w h) Q ≡ walk_at w Q.walk
    road = walk_at_lem size v w h Q.walk l

    pub offset-fault : (walk_at w Q.walk).len < Q.offset → record { number = 7; place = 1 } ≡ query_refusal (tables_of size v w h) Q
    unfolding query_refusal
    offset-fault q =
        sym (passed (ltb Q.walk (walk_count (tables_of size v w h))) 7 0 _ (low-walk l)
        ∙ failed (leb Q.offset (asked (tables_of size v w h) Q).len) 7 1 _ (omega arith) (lt-leb Q.offset _ (rw road q)))

    module _ (o : Q.offset ≤ (walk_at w Q.walk).len) where
      good-road : (rest : Refusal) → or_else (unless (ltb Q.walk (walk_count (tables_of size v w h))) 7 0) (or_else (unless (leb Q.offset (asked (tables_of size v w h) Q).len) 7 1) rest) ≡ rest
      good-road rest =
          passed (ltb Q.walk (walk_count (tables_of size v w h))) 7 0 _ (low-walk l)
          ∙ passed (leb Q.offset (asked (tables_of size v w h) Q).len) 7 1 _ (le-leb Q.offset _ (rw road o))

      abbrev pub arrives : Bool
      arrives = leb midnight Q.arrival && leb Q.arrival (midnight + 172800)

      abbrev pub lasts : Bool
      lasts = leb 1 Q.duration && leb Q.duration 86400

      abbrev pub walks : Bool
      walks = leb 1 Q.speed && leb Q.speed 100

      pub arrival-fault : arrives ≡ false → record { number = 7; place = 2 } ≡ query_refusal (tables_of size v w h) Q
      unfolding query_refusal
      arrival-fault e = sym (good-road _ ∙ failed arrives 7 2 _ (omega arith) e)

      pub duration-fault : arrives ≡ true → lasts ≡ false → record { number = 7; place = 3 } ≡ query_refusal (tables_of size v w h) Q
      unfolding query_refusal
      duration-fault a e = sym (good-road _ ∙ passed arrives 7 2 _ a ∙ failed lasts 7 3 _ (omega arith) e)

      pub speed-fault : arrives ≡ true → lasts ≡ true → walks ≡ false → record { number = 7; place = 4 } ≡ query_refusal (tables_of size v w h) Q
      unfolding query_refusal
      speed-fault a d e = sym (good-road _ ∙ passed arrives 7 2 _ a ∙ passed lasts 7 3 _ d ∙ last-failed walks 7 4 e)

      pub no-fault : arrives ≡ true → lasts ≡ true → walks ≡ true → fine ≡ query_refusal (tables_of size v w h) Q
      unfolding query_refusal
      no-fault a d e = sym (good-road _ ∙ passed arrives 7 2 _ a ∙ passed lasts 7 3 _ d ∙ last walks 7 4 e)

-- the length of a road as the code reads it
pub len_is : (w : tables.Walk) (r : Walk) → r ≡ walk_of w → r.len.0 ≡ w.len
len_is w r e = ap (λ (x : Walk). x.len.0) e

-- two tests joined, as a branch has them
pub both-fail : (r s a b : Bool) → r ≡ a → s ≡ b → not (r && s) ≡ true → a && b ≡ false
both-fail r s a b p q e = ap₂ (λ (x y : Bool). x && y) (sym p) (sym q) ∙ not-true (r && s) e

pub both-pass : (r s a b : Bool) → r ≡ a → s ≡ b → not (r && s) ≡ false → a && b ≡ true
both-pass r s a b p q e = ap₂ (λ (x y : Bool). x && y) (sym p) (sym q) ∙ not-false (r && s) e
