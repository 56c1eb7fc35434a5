-- One run more of those in turn: what lies before it is done, what lies behind it is still to come. Assumes nothing.
use mathlib.Core.Path.{◌≡◌, refl, sym, ap, subst, ◌∙◌}
use mathlib.Core.List.{List, [], ◌∷◌, ◌++◌, append_assoc, append-nil}
use Prim.Native.Nat.{ℕ, suc, ◌+◌, ◌-◌, ◌*◌, ◌/◌, ◌≤◌, ◌<◌}
use native.Mathlib.Omega.{arith}
use native.Mathlib.Nat.{div-le_self, div-mul-le_self, mul-suc, mul_assoc}
use lib.ListN.{length, take, drop, length-append, take-append-drop}
use lib.Seq.{take_at, drop_at, take_all, length-take-le}
use borrow.Rule.Slice.PartMut.{mid_of, put_mid}
use borrow.Rule.Slice.PartMut.{mid_len}
use Rattle.calls.specs.CallBytes.{query_in, limit_in, query_from}
use Rattle.calls.proofs.Reading.{query-read}
use Rattle.journeys.specs.Query as query
use Rattle.records.specs.declared.Query.{Query}
use Rattle.records.specs.Asked.{query_of}
use Rattle.intake.specs.Lending.{lent}
use Rattle.queries.specs.Single.{Left, Single}
use Rattle.queries.specs.InTurn.{Ask, asks_from, InTurn}

-- a part that comes back: up to its end, and behind it
module _ (at k : ℕ) (d y : List ℕ) (within : at + k ≤ length d) (same : length y ≡ k) where
  long : length (take at d ++ y) ≡ at + k
  long = length-append (take at d) y ∙ omega (arith, length-take-le at d (omega arith))

  pub back-front : take (at + k) (put_mid at k d y) ≡ take at d ++ y
  back-front = ap (take (at + k)) (sym (append_assoc (take at d) y (drop k (drop at d)))) ∙ take_at (take at d ++ y) (drop k (drop at d)) (at + k) long

  pub back-rest : drop (at + k) (put_mid at k d y) ≡ drop k (drop at d)
  back-rest = ap (drop (at + k)) (sym (append_assoc (take at d) y (drop k (drop at d)))) ∙ drop_at (take at d ++ y) (drop k (drop at d)) (at + k) long

module _ (One : List ℕ → List ℕ → Ask → List ℕ → List ℕ → List ℕ → Type 0) (size : ℕ) (all : List Ask) (held₀ settled₀ : List ℕ) where
  -- with the front of the settled buffer and of the answers written, the runs of `left` over `rest` end as all runs do
  abbrev pub Goes : List Ask → List ℕ → List ℕ → List ℕ → List ℕ → Type 0
  Goes left held rest front done =
      (h s a : List ℕ) → InTurn One size left held rest h s a → InTurn One size all held₀ settled₀ h (front ++ s) (done ++ a)

  pub goes_on : (q : Ask) (left : List Ask) (held settled answers h share answer : List ℕ) (at m : ℕ) → at + size ≤ length settled → m + 24 ≤ length answers
      → length share ≡ size → length answer ≡ 24 → One held (take size (drop at settled)) q h share answer
      → Goes (q ∷ left) held (drop at settled) (take at settled) (take m answers)
      → Goes left h (drop (at + size) (put_mid at size settled share)) (take (at + size) (put_mid at size settled share)) (take (m + 24) (put_mid m 24 answers answer))
  unfolding InTurn
  goes_on q left held settled answers h share answer at m fs fa ls la one before h' s' a' rest =
      let here = subst (λ (x : List ℕ). InTurn One size left h x h' s' a') (back-rest at size settled share fs ls) rest in
      let z = before h' (share ++ s') (answer ++ a') (h, share, answer, s', a', one, here, refl, refl) in
      subst (λ (x : List ℕ). InTurn One size all held₀ settled₀ h' (x ++ s') (take (m + 24) (put_mid m 24 answers answer) ++ a')) (sym (back-front at size settled share fs ls))
      (subst (λ (x : List ℕ). InTurn One size all held₀ settled₀ h' ((take at settled ++ share) ++ s') (x ++ a')) (sym (back-front m 24 answers answer fa la))
      (subst (λ (x : List ℕ). InTurn One size all held₀ settled₀ h' x ((take m answers ++ answer) ++ a')) (sym (append_assoc (take at settled) share s'))
      (subst (λ (x : List ℕ). InTurn One size all held₀ settled₀ h' (take at settled ++ (share ++ s')) x) (sym (append_assoc (take m answers) answer a')) z)))

  -- nothing is left to come
  pub goes_end : (held settled answers : List ℕ) (at m : ℕ) → length answers ≤ m → Goes [] held (drop at settled) (take at settled) (take m answers)
      → InTurn One size all held₀ settled₀ held settled answers
  unfolding InTurn
  goes_end held settled answers at m h before =
      let z = before held (drop at settled) [] (refl, refl, refl) in
      subst (λ (x : List ℕ). InTurn One size all held₀ settled₀ held x answers) (take-append-drop at settled)
      (subst (λ (x : List ℕ). InTurn One size all held₀ settled₀ held (take at settled ++ drop at settled) x) (append-nil (take m answers) ∙ take_all m answers h) z)

-- ---- the queries of the bytes, one by one
abbrev pub ask_at : List ℕ → ℕ → Ask
ask_at queries i = record { query = query_in queries (24 * i); limit = limit_in queries (24 * i) }

pub asks-next : (queries : List ℕ) (n i : ℕ) → i < n → asks_from queries (n - i) i ≡ ask_at queries i ∷ asks_from queries (n - (i + 1)) (i + 1)
unfolding asks_from
asks-next queries n i h =
    let e : n - i ≡ suc (n - (i + 1)) = omega arith in
    let f : suc i ≡ i + 1 = omega arith in
    ap (λ (k : ℕ). asks_from queries k i) e ∙ ap (λ (k : ℕ). ask_at queries i ∷ asks_from queries (n - (i + 1)) k) f

pub asks_none : (queries : List ℕ) (n i : ℕ) → n ≤ i → asks_from queries (n - i) i ≡ []
unfolding asks_from
asks_none queries n i h = let e : n - i ≡ 0 = omega arith in ap (λ (k : ℕ). asks_from queries k i) e

-- No query at all: nothing is written.
pub none-asked : (One : List ℕ → List ℕ → Ask → List ℕ → List ℕ → List ℕ → Type 0) (size : ℕ) (queries held settled answers : List ℕ) (n : ℕ) → n ≡ 0 → length answers ≡ 0
    → InTurn One size (asks_from queries n 0) held settled held settled answers
unfolding InTurn asks_from
none-asked One size queries held settled [] n e h = subst (λ (k : ℕ). InTurn One size (asks_from queries k 0) held settled held settled []) (sym e) (refl, refl, refl)
none-asked One size queries held settled (x ∷ answers) n e h = absurd (omega arith)

-- ---- the shares lie within the buffer
pub shares-fit : (n m : ℕ) → 8 * (m / 8 / n) * n ≤ m
shares-fit n m =
    let e : 8 * (m / 8 / n) * n ≡ 8 * (m / 8 / n * n) = mul_assoc 8 (m / 8 / n) n in
    let f = div-mul-le_self (m / 8) n in
    omega (arith, e, f)

pub share-next : (share n i at m : ℕ) → i < n → at + share * (n - i) ≤ m → (at + share ≤ m) × (at + share + share * (n - (i + 1)) ≤ m)
share-next share n i at m h f =
    let e : n - i ≡ suc (n - (i + 1)) = omega arith in
    let g : share * (n - i) ≡ share * suc (n - (i + 1)) = ap (λ (k : ℕ). share * k) e in
    (omega (arith, g, mul-suc share (n - (i + 1))), omega (arith, g, mul-suc share (n - (i + 1))))

pub share-low : (n m : ℕ) → 8 * (m / 8 / n) ≤ m
share-low n m = let f = div-le_self (m / 8) n in omega (arith, f)

pub share-start : (share n m : ℕ) → share * n ≤ m → 0 + share * (n - 0) ≤ m
share-start share n m h = let e : n - 0 ≡ n = omega arith in omega (arith, ap (λ (k : ℕ). share * k) e)

-- a part of so many bytes
pub part-long : (at k : ℕ) (d : List ℕ) → at + k ≤ length d → length (mid_of at (at + k - at) d) ≡ k
part-long at k d h = mid_len at (at + k) d h ∙ omega arith

-- ---- a turn of the loop
module _ (v w hops : List ℕ) (hop size : ℕ) (queries : List ℕ) (n : ℕ) (held₀ settled₀ : List ℕ) where
  -- i queries are answered, and the next share starts at `at`
  abbrev pub Ongoing : ℕ → ℕ → List ℕ → List ℕ → List ℕ → Type 0
  Ongoing i at held settled answers =
      Goes (Single v w hops hop) size (asks_from queries n 0) held₀ settled₀ (asks_from queries (n - i) i) held (drop at settled) (take at settled) (take (24 * i) answers)

  pub ongoing-start : (answers : List ℕ) → Ongoing 0 0 held₀ settled₀ answers
  ongoing-start answers h s a x =
      let e : n - 0 ≡ n = omega arith in
      subst (λ (k : ℕ). InTurn (Single v w hops hop) size (asks_from queries k 0) held₀ settled₀ h s a) e x

  pub ongoing-next : (i at k l : ℕ) (held settled answers h share answer : List ℕ) (q : Query) (limit : ℕ) → i < n → k ≡ size → l ≡ 24
      → at + size ≤ length settled → 24 * i + 24 ≤ length answers → length share ≡ length (mid_of at k settled) → length answer ≡ length (mid_of (24 * i) l answers)
      → q ≡ query_from queries (24 * i) → limit ≡ limit_in queries (24 * i) → Left (lent v w hops hop held (mid_of at k settled)) (query_of q) limit h share answer
      → Ongoing i at held settled answers → Ongoing (i + 1) (at + size) h (put_mid at k settled share) (put_mid (24 * i) l answers answer)
  ongoing-next i at k l held settled answers h share answer q limit below ek el fs fa ls la eq elimit one before =
      let long-share : length share ≡ size = ls ∙ ap (λ (x : ℕ). length (mid_of at x settled)) (ek ∙ sym cut-size) ∙ part-long at size settled fs in
      let long-answer : length answer ≡ 24 = la ∙ ap (λ (x : ℕ). length (mid_of (24 * i) x answers)) (el ∙ sym cut-answer) ∙ part-long (24 * i) 24 answers fa in
      let asked : query_of q ≡ query_in queries (24 * i) = ap query_of eq ∙ query-read queries (24 * i) in
      let here =
      subst (λ (Q : query.Query). Left (lent v w hops hop held (mid_of at size settled)) Q (limit_in queries (24 * i)) h share answer) asked
      (subst (λ (x : ℕ). Left (lent v w hops hop held (mid_of at size settled)) (query_of q) x h share answer) elimit
      (subst (λ (x : ℕ). Left (lent v w hops hop held (mid_of at x settled)) (query_of q) limit h share answer) ek one)) in
      let coming = subst (λ (l : List Ask). Goes (Single v w hops hop) size (asks_from queries n 0) held₀ settled₀ l held (drop at settled) (take at settled) (take (24 * i) answers)) (asks-next queries n i below) before in
      let z = goes_on (Single v w hops hop) size (asks_from queries n 0) held₀ settled₀ (ask_at queries i) (asks_from queries (n - (i + 1)) (i + 1)) held settled answers h share answer at (24 * i) fs fa long-share long-answer here coming in
      subst (λ (x : ℕ). Ongoing (i + 1) (at + size) h (put_mid at x settled share) (put_mid (24 * i) l answers answer)) (sym ek)
      (subst (λ (x : ℕ). Ongoing (i + 1) (at + size) h (put_mid at size settled share) (put_mid (24 * i) x answers answer)) (sym el)
      (subst (λ (m : ℕ). Goes (Single v w hops hop) size (asks_from queries n 0) held₀ settled₀ (asks_from queries (n - (i + 1)) (i + 1)) h (drop (at + size) (put_mid at size settled share)) (take (at + size) (put_mid at size settled share)) (take m (put_mid (24 * i) 24 answers answer))) (let e : 24 * i + 24 ≡ 24 * (i + 1) = omega arith in e) z))
    where
      cut-size : at + size - at ≡ size
      cut-size = omega arith

      cut-answer : 24 * i + 24 - 24 * i ≡ 24
      cut-answer = omega arith

  pub ongoing-end : (i at : ℕ) (held settled answers : List ℕ) → n ≤ i → length answers ≤ 24 * i → Ongoing i at held settled answers
      → InTurn (Single v w hops hop) size (asks_from queries n 0) held₀ settled₀ held settled answers
  ongoing-end i at held settled answers h f before =
      goes_end (Single v w hops hop) size (asks_from queries n 0) held₀ settled₀ held settled answers at (24 * i) f
      (subst (λ (l : List Ask). Goes (Single v w hops hop) size (asks_from queries n 0) held₀ settled₀ l held (drop at settled) (take at settled) (take (24 * i) answers)) (asks_none queries n i h) before)
