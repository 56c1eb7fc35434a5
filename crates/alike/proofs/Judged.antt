-- What is judged of stops goes by what they have alike. Assumes nothing.
use mathlib.Core.Path.{◌≡◌, refl, sym, ap, ap₂, ◌∙◌}
use mathlib.Core.Bool.{Bool, true, false, not, cond, ◌&&◌, ◌||◌}
use mathlib.Core.List.{List}
use Prim.Native.Nat.{ℕ, zero, suc, ◌<◌}
use lib.Dec.{eqb, ltb}
use lib.ListN.{length}
use Rattle.feed.specs.Stops.{Stop}
use Rattle.feed.specs.Trips.{stop, some, earlier, between, next, repeats, once, too_soon, in_time}
use Rattle.alike.specs.Alike.{Alike}

both : {a b c d : Bool} → a ≡ c → b ≡ d → a && b ≡ c && d
both p q = ap₂ (λ (x y : Bool). x && y) p q

some_as : (f g : ℕ → Bool) (n : ℕ) → ((i : ℕ) → f i ≡ g i) → some f n ≡ some g n
unfolding some
some_as f g zero h = refl
some_as f g (suc n) h = ap₂ (λ (x y : Bool). x || y) (some_as f g n h) (h n)

choice : {a a' b b' c c' : Bool} → a ≡ a' → b ≡ b' → c ≡ c' → cond a b c ≡ cond a' b' c'
choice p q r = cc

less : {a b c d : ℕ} → a ≡ c → b ≡ d → ltb a b ≡ ltb c d
less p q = ap₂ (λ (x y : ℕ). ltb x y) p q

module _ (S E : List Stop) (a : Alike S E) where
  pub earlier-as : (p i : ℕ) → earlier S p i ≡ earlier E p i
  unfolding earlier
  earlier-as p i = both (a.trips p i) (less (a.sequence p) (a.sequence i))

  between-as : (p i k : ℕ) → between S p i k ≡ between E p i k
  unfolding between
  between-as p i k = both (both (a.timed k) (earlier-as p k)) (earlier-as k i)

  some_of : (f g : ℕ → Bool) → ((i : ℕ) → f i ≡ g i) → some f (length S) ≡ some g (length E)
  some_of f g h = ap (some f) a.size ∙ some_as f g (length E) h

  pub next-as : (p i : ℕ) → next S p i ≡ next E p i
  unfolding next
  next-as p i = both (both (both (a.timed p) (a.timed i)) (earlier-as p i)) (ap not (some_of (between S p i) (between E p i) (between-as p i)))

  pub once-as : (i : ℕ) → once S i ≡ once E i
  unfolding once repeats
  once-as i = ap not (some_as (repeats S i) (repeats E i) i (λ j. both (a.trips j i) (ap₂ (λ (x y : ℕ). eqb x y) (a.sequence j) (a.sequence i))))

  pub time-as : (i : ℕ) → in_time S i ≡ in_time E i
  unfolding in_time too_soon
  time-as i =
      choice (a.timed i)
      (both (ap not (less (a.departure i) (a.arrival i))) (ap not (some_of (too_soon S i) (too_soon E i) (λ p. both (next-as p i) (less (a.arrival i) (a.departure p))))))
      (both (some_of (λ p. earlier S p i) (λ p. earlier E p i) (λ p. earlier-as p i)) (some_of (earlier S i) (earlier E i) (λ p. earlier-as i p)))
