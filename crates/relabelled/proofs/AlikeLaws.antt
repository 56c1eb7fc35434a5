-- What is judged of stops, and the hops between them, go by which stops share a trip. Assumes nothing.
use mathlib.Core.Path.{◌≡◌, refl, sym, ap, ap₂, ◌∙◌}
use mathlib.Core.Bool.{Bool, not, cond, ◌&&◌, ◌||◌}
use mathlib.Core.List.{List, [], ◌∷◌, ◌++◌}
use Prim.Native.Nat.{ℕ, zero, suc, ◌+◌, ◌≤◌, ◌<◌, max}
use native.Mathlib.Omega.{arith}
use lib.Dec.{eqb, ltb}
use lib.ListN.{length}
use Rattle.journeys.specs.Counting.{joined}
use Rattle.journeys.specs.Bytes.{word}
use Rattle.journeys.specs.Refusals.{Refusal, unless, or_else, first_from}
use Rattle.journeys.proofs.Counting.{joined_same}
use Rattle.feed.specs.Lines.{place}
use Rattle.feed.specs.Stops.{Stop}
use Rattle.feed.specs.Trips.{stop, some, beyond, earlier, between, next, repeats, once, too_soon, in_time, first_bad_stop, hop, hop_to, hops_to, hops_of}
use Rattle.relabelled.specs.Alike.{Alike, Told}

both : {a b c d : Bool} → a ≡ c → b ≡ d → a && b ≡ c && d
both p q = ap₂ (λ (x y : Bool). x && y) p q

choice : {a a' b b' c c' : Bool} → a ≡ a' → b ≡ b' → c ≡ c' → cond a b c ≡ cond a' b' c'
choice p q r = cc

less : {x y x' y' : ℕ} → x ≡ x' → y ≡ y' → ltb x y ≡ ltb x' y'
less p q = ap₂ (λ (x y : ℕ). ltb x y) p q

equal : {x y x' y' : ℕ} → x ≡ x' → y ≡ y' → eqb x y ≡ eqb x' y'
equal p q = ap₂ (λ (x y : ℕ). eqb x y) p q

-- one test for another, as far as they agree
pub some_same : (f g : ℕ → Bool) (n : ℕ) → ((i : ℕ) → i < n → f i ≡ g i) → some f n ≡ some g n
unfolding some
some_same f g zero h = refl
some_same f g (suc n) h = ap₂ (λ (x y : Bool). x || y) (some_same f g n (λ i l. h i (omega arith))) (h n (omega arith))

from-same : (f g : ℕ → Refusal) (n i : ℕ) → ((k : ℕ) → i ≤ k → k < i + n → f k ≡ g k) → first_from f n i ≡ first_from g n i
unfolding first_from
from-same f g zero i h = refl
from-same f g (suc n) i h = ap₂ or_else (h i (omega arith) (omega arith)) (from-same f g n (i + 1) (λ k a b. h k (omega arith) (omega arith)))

pub beyond-same : (S T : List Stop) → length S ≡ length T → ((i : ℕ) → i < length S → (stop S i).vertex ≡ (stop T i).vertex) → beyond S ≡ beyond T
unfolding beyond
beyond-same [] [] e h = refl
beyond-same [] (t ∷ T) e h = absurd (omega arith)
beyond-same (s ∷ S) [] e h = absurd (omega arith)
beyond-same (s ∷ S) (t ∷ T) e h =
    ap₂ (λ (x y : ℕ). max (x + 1) y) (h 0 (omega arith)) (beyond-same S T (omega arith) (λ i l. h (suc i) (omega arith)))

module _ {S T : List Stop} (a : Alike S T) where
  sized : {f g : ℕ → Bool} → ((i : ℕ) → i < length S → f i ≡ g i) → some f (length S) ≡ some g (length T)
  sized {f} {g} h = some_same f g (length S) h ∙ ap (some g) a.size

  pub earlier-alike : (p i : ℕ) → p < length S → i < length S → earlier S p i ≡ earlier T p i
  unfolding earlier
  earlier-alike p i l m = both (a.trip p i l m) (less (a.sequence p l) (a.sequence i m))

  between-alike : (p i k : ℕ) → p < length S → i < length S → k < length S → between S p i k ≡ between T p i k
  unfolding between
  between-alike p i k l m n = both (both (a.timed k n) (earlier-alike p k l n)) (earlier-alike k i n m)

  pub next-alike : (p i : ℕ) → p < length S → i < length S → next S p i ≡ next T p i
  unfolding next
  next-alike p i l m = both (both (both (a.timed p l) (a.timed i m)) (earlier-alike p i l m)) (ap not (sized (λ k n. between-alike p i k l m n)))

  -- 15
  pub once-alike : (i : ℕ) → i < length S → once S i ≡ once T i
  unfolding once repeats
  once-alike i l = ap not (some_same (repeats S i) (repeats T i) i (λ j h. both (a.trip j i (omega arith) l) (equal (a.sequence j (omega arith)) (a.sequence i l))))

  soon-alike : (i p : ℕ) → i < length S → p < length S → too_soon S i p ≡ too_soon T i p
  unfolding too_soon
  soon-alike i p l m = both (next-alike p i m l) (less (a.arrival i l) (a.departure p m))

  -- 16
  pub time-alike : (i : ℕ) → i < length S → in_time S i ≡ in_time T i
  unfolding in_time
  time-alike i l =
      choice (a.timed i l)
      (both (ap not (less (a.departure i l) (a.arrival i l))) (ap not (sized (λ p m. soon-alike i p l m))))
      (both (sized (λ p m. earlier-alike p i m l)) (sized (λ p m. earlier-alike i p l m)))

  module _ (t : Told S T) where
    bad-alike : (number : ℕ) {good fine : ℕ → Bool} → ((i : ℕ) → i < length S → good i ≡ fine i) → first_bad_stop S number good ≡ first_bad_stop T number fine
    unfolding first_bad_stop
    bad-alike number {good} {fine} h =
        from-same (λ i. unless (good i) number (place (stop S i).line)) (λ i. unless (fine i) number (place (stop T i).line)) (length S) 0
        (λ k l m. ap₂ (λ (b : Bool) (n : ℕ). unless b number (place n)) (h k (omega arith)) (t.line k (omega arith)))
        ∙ ap (λ (n : ℕ). first_from (λ i. unless (fine i) number (place (stop T i).line)) n 0) a.size

    pub repeats-alike : first_bad_stop S 15 (once S) ≡ first_bad_stop T 15 (once T)
    repeats-alike = bad-alike 15 once-alike

    pub times-alike : first_bad_stop S 16 (in_time S) ≡ first_bad_stop T 16 (in_time T)
    times-alike = bad-alike 16 time-alike

    hop-alike : (p i : ℕ) → p < length S → i < length S → hop S p i ≡ hop T p i
    unfolding hop
    hop-alike p i l m = rw (a.vertex p l, a.vertex i m, a.departure p l, a.arrival i m, t.trip_number p l)

    to-alike : (v p i : ℕ) → p < length S → i < length S → hop_to S v p i ≡ hop_to T v p i
    unfolding hop_to
    to-alike v p i l m = rw (a.vertex p l, a.vertex i m, next-alike p i l m, hop-alike p i l m)

    hops-to-alike : (v : ℕ) → hops_to S v ≡ hops_to T v
    unfolding hops_to
    hops-to-alike v =
        joined_same (λ p. joined (hop_to S v p) (length S)) (λ p. joined (hop_to T v p) (length S)) (length S)
        (λ p l. joined_same (hop_to S v p) (hop_to T v p) (length S) (λ i m. to-alike v p i l m))
        ∙ ap (λ (n : ℕ). joined (λ p. joined (hop_to T v p) n) n) a.size

    pub hops-alike : hops_of S ≡ hops_of T
    unfolding hops_of
    hops-alike = joined_same (hops_to S) (hops_to T) (beyond S) (λ v h. hops-to-alike v) ∙ ap (joined (hops_to T)) (beyond-same S T a.size a.vertex)
