-- The list of counters that records are sifted into. Assumes nothing.
use Rattle.std.proofs.Common.{◌≡◌, ℕ, ◌+◌, ◌%◌, ◌<◌, ◌≤◌, Bool, true, false, not, ◌&&◌, ◌||◌, eqb, ltb, List, length, set, refl, ap, ◌∙◌, add-one, arith, get_or-set_other, get_or-set_same, ltb-false, ltb-true, eq-eqb, ne_eqb, eqb-true}
use Rattle.journeys.specs.Counting.{none, one, count}
use Rattle.journeys.proofs.Tests.{same_test, and_right}
use Rattle.journeys.proofs.Counting.{is_zero, count_same, below_suc}
use Rattle.records.specs.Columns.{from_at}
use Rattle.tally.specs.Laid.{listed, times}
use Rattle.quick.specs.Claims.{twin_at, leaves}
use Rattle.quick.specs.Lists.{Listed}

pub count-zero : (p : ℕ → Bool) → count p 0 ≡ 0
unfolding count
count-zero p = refl

pub count_next : (p : ℕ → Bool) (i : ℕ) → count p i + one (p i) ≡ count p (i + 1)
unfolding count
count_next p i = rw add-one

pub listed-none : (len : ℕ) (s : List ℕ) (a : ℕ → ℕ) → Listed len 0 s a a
unfolding count
listed-none len s a = record { inside = λ j l. absurd (omega arith); sum = λ k l. omega arith }

pub listed_same : {len n : ℕ} {s : List ℕ} {a b b' : ℕ → ℕ} → ((k : ℕ) → b k ≡ b' k) → Listed len n s a b → Listed len n s a b'
listed_same e h = record { inside = h.inside; sum = λ k l. h.sum k l ∙ e k }

-- ---- a number written behind the first n of the list
pub kept : (s : List ℕ) (n x j : ℕ) → j < n → listed (set s (1984 + n) x) j ≡ listed s j
kept s n x j l = get_or-set_other s (1984 + n) (1984 + j) x 0 (λ (e : 1984 + j ≡ 1984 + n). omega arith)

pub written : (s : List ℕ) (n x : ℕ) → 1984 + n < length s → listed (set s (1984 + n) x) n ≡ x
written s n x room = get_or-set_same s (1984 + n) x 0 room

module _ (len n : ℕ) (s : List ℕ) (x : ℕ) (room : 1984 + n < length s) where
  abbrev s' : List ℕ
  s' = set s (1984 + n) x

  times-kept : (k : ℕ) → times s' n k ≡ times s n k
  times-kept k = count_same _ _ n (λ j l. ap (λ (y : ℕ). eqb y k) (kept s n x j l))

  -- it does not belong to the list
  pub listed-less : {a b c : ℕ → ℕ} → ((k : ℕ) → k < len → c k ≡ 0) → Listed len n s a b → Listed len (n + 0) s' a (λ k. b k + c k)
  listed-less e h =
      let z : n + 0 ≡ n = omega arith in
      rw z
      (record {
        inside = λ j l. rw (kept s n x j l) (h.inside j l);
        sum = λ k l. omega (arith, h.sum k l, times-kept k, e k l);
      })

  -- it is one more
  pub listed_more : {a b c : ℕ → ℕ} → x < len → ((k : ℕ) → k < len → c k ≡ one (eqb x k)) → Listed len n s a b → Listed len (n + 1) s' a (λ k. b k + c k)
  unfolding count
  listed_more below e h =
      rw add-one
      (record {
        inside = below_suc {P = λ j. listed s' j < len} n (λ j l. rw (kept s n x j l) (h.inside j l)) (rw (written s n x room) below);
        sum = λ k l. omega (arith, h.sum k l, times-kept k, e k l, ap (λ (y : ℕ). one (eqb y k)) (written s n x room));
      })

-- ---- a record sifted: d is the distance of its "from" from `base`, which may wrap
module _ (pairs : Bool) (size : ℕ) (t : List ℕ) (i base d len n : ℕ) (s : List ℕ) (a b : ℕ → ℕ) (wraps : (d + base) % 18446744073709551616 ≡ from_at size t i)
    (small : d < 18446744073709551616) (low : base ≤ 65536) (few : len ≤ 65536) (room : 1984 + n < length s) (h : Listed len n s a b) where
  near : (k : ℕ) → d < len → eqb (from_at size t i) (base + k) ≡ eqb (d % 65536) k
  near k l =
      same_test _ _ (λ (e : eqb (from_at size t i) (base + k) ≡ true). eq-eqb (d % 65536) k (omega (arith, eqb-true (from_at size t i) (base + k) e)))
      (λ (e : eqb (d % 65536) k ≡ true). eq-eqb (from_at size t i) (base + k) (omega (arith, eqb-true (d % 65536) k e)))

  far : (k : ℕ) → k < len → len ≤ d → eqb (from_at size t i) (base + k) ≡ false
  far k l m = ne_eqb (from_at size t i) (base + k) (λ (e : from_at size t i ≡ base + k). omega arith)

  sifted-by : (p q : Bool) → ltb d len ≡ p → Listed len (n + one (p && q)) (set s (1984 + n) (d % 65536)) a (λ k. b k + one (q && eqb (from_at size t i) (base + k)))
  sifted-by true true e = listed_more len n s (d % 65536) room (omega (arith, ltb-true d len e)) (λ k l. ap one (near k (ltb-true d len e))) h
  sifted-by true false e = listed-less len n s (d % 65536) room (λ k l. refl) h
  sifted-by false q e = listed-less len n s (d % 65536) room (λ k l. is_zero (and_right q (far k l (ltb-false d len e)))) h

  pub sifted : Listed len (n + one (ltb d len && (not pairs || eqb (twin_at t i) none))) (set s (1984 + n) (d % 65536)) a (λ k. b k + one (leaves pairs size t (base + k) i))
  unfolding leaves
  sifted = sifted-by (ltb d len) (not pairs || eqb (twin_at t i) none) refl
