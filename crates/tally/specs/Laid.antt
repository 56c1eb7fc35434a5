-- Counters in groups of 64, as narrow as the claims of each group allow, inside a scratch of 2,048 numbers of 16 bits.
-- The words of the counters stand up to 1,856, an entry for each group up to 1,972, and a list from 1,984 on. Assumes nothing.
use Rattle.std.specs.Prelude.{◌≡◌, Bool, true, cond, not, List, ℕ, zero, suc, ◌+◌, ◌-◌, ◌*◌, ◌/◌, ◌%◌, ◌≤◌, ◌<◌, ◌^◌, max, eqb, leb, ltb, get_or, set}
use Rattle.journeys.specs.Counting.{count}

-- what an entry tells of its group: the first of its words, and how many nibbles a counter has
abbrev pub entry : List ℕ → ℕ → ℕ
entry s g = get_or s (1856 + g) 0

abbrev pub start : ℕ → ℕ
start e = e / 8

abbrev pub nibbles : ℕ → ℕ
nibbles e = e % 8

-- a counter has one, two or four nibbles, so that none stands in two words
pub data Width : ℕ → Type 0 where
  narrow : Width 1
  middle : Width 2
  wide : Width 4

-- the counter k in the group of the entry e: its word, the weight of its lowest bit there, and its value in the word x
abbrev pub place : ℕ → ℕ → ℕ
place e k = start e + k % 64 * nibbles e / 4

abbrev pub unit : ℕ → ℕ → ℕ
unit e k = 16 ^ (k % 64 * nibbles e % 4)

abbrev pub digit : ℕ → ℕ → ℕ → ℕ
digit e k x = x / unit e k % 16 ^ nibbles e

-- the word of the counter k, what it has left, and the scratch with one taken off it
abbrev pub word_of : List ℕ → ℕ → ℕ
word_of s k = place (entry s (k / 64)) k

unfoldable pub left : List ℕ → ℕ → ℕ
left s k = digit (entry s (k / 64)) k (get_or s (word_of s k) 0)

unfoldable pub lowered : List ℕ → ℕ → List ℕ
lowered s k = set s (word_of s k) (get_or s (word_of s k) 0 - unit (entry s (k / 64)) k)

-- the greatest of c 0 .. c (n - 1), how many nibbles hold a number, and the words that are laid with a group of the claims c more: as before where there is no room
unfoldable pub greatest : (ℕ → ℕ) → ℕ → ℕ
greatest c zero = 0
greatest c (suc n) = max (greatest c n) (c n)

unfoldable pub width : ℕ → ℕ
width x = cond (ltb x 16) 1 (cond (ltb x 256) 2 4)

abbrev pub words_with : (ℕ → ℕ) → ℕ → ℕ
words_with c words =
    cond (leb (words + 16 * width (greatest c 64)) 1856) (words + 16 * width (greatest c 64)) words

-- the word w of a group of the claims c
unfoldable pub packed : (ℕ → ℕ) → ℕ → ℕ → ℕ
packed c size w =
    cond (eqb size 1) (c (4 * w) + 16 * c (4 * w + 1) + 256 * c (4 * w + 2) + 4096 * c (4 * w + 3))
    (cond (eqb size 2) (c (2 * w) + 256 * c (2 * w + 1)) (c w))

-- the i-th number of the list, and how often k stands among its first n
abbrev pub listed : List ℕ → ℕ → ℕ
listed s i = get_or s (1984 + i) 0

abbrev pub times : List ℕ → ℕ → ℕ → ℕ
times s n k = count (λ i. eqb (listed s i) k) n

-- how many of the first n words are not zero
abbrev pub filled : List ℕ → ℕ → ℕ
filled s n = count (λ i. not (eqb (get_or s i 0) 0)) n

-- nothing changed from `low` up to `high`
abbrev pub Same : ℕ → ℕ → List ℕ → List ℕ → Type 0
Same low high s s' = (k : ℕ) → low ≤ k → k < high → get_or s' k 0 ≡ get_or s k 0

-- the counter k has a word
pub record Placed (s : List ℕ) (k : ℕ) : Type 0 where
  pub inside : k < 7424
  pub width : Width (nibbles (entry s (k / 64)))
  pub room : word_of s k < 1856

-- `groups` groups have their words in order among the first `words` words
pub record Shaped (groups words : ℕ) (s : List ℕ) : Type 0 where
  pub least : 16 * groups ≤ words
  pub most : words ≤ 1856
  pub width : (g : ℕ) → g < groups → Width (nibbles (entry s g))
  pub inside : (g : ℕ) → g < groups → start (entry s g) + 16 * nibbles (entry s g) ≤ words
  pub apart : (g h : ℕ) → g < h → h < groups → start (entry s g) + 16 * nibbles (entry s g) ≤ start (entry s h)

-- and each counter has left what was not yet taken of its claim
pub record Laid (groups words : ℕ) (claims taken : ℕ → ℕ) (s : List ℕ) : Type 0 where
  pub shape : Shaped groups words s
  pub counted : (k : ℕ) → k < 64 * groups → left s k + taken k ≡ claims k

-- a group more, of the 64 claims in the list; `r` words are laid then
abbrev pub More : ℕ → ℕ → ℕ → List ℕ → List ℕ → Type 0
More groups words r s s' =
    (claims taken : ℕ → ℕ) → Laid groups words claims taken s
    → ((i : ℕ) → i < 64 → listed s i + taken (64 * groups + i) ≡ claims (64 * groups + i))
    → Laid (groups + 1) r claims taken s'

-- one taken off for each of the first n numbers of the list: r tells whether every counter had enough
abbrev pub Drained : ℕ → Bool → List ℕ → List ℕ → Type 0
Drained n r s s' =
    (groups words : ℕ) (claims taken : ℕ → ℕ) → Laid groups words claims taken s → ((i : ℕ) → i < n → listed s i < 64 * groups)
    → (r ≡ true → Laid groups words claims (λ k. taken k + times s n k) s')
    × (((k : ℕ) → k < 64 * groups → taken k + times s n k ≤ claims k) → r ≡ true)

-- every claim is met
abbrev pub Met : ℕ → List ℕ → Type 0
Met words s =
    (groups : ℕ) (claims taken : ℕ → ℕ) → Laid groups words claims taken s → (k : ℕ) → k < 64 * groups → taken k ≡ claims k
