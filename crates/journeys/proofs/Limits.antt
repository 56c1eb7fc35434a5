-- Every limit of the rules at its last good and its first bad value: the table of specs/Limits under one statement, and the largest counts as laws.
-- Assumes nothing.
use mathlib.Core.Path.{◌≡◌, refl}
use mathlib.Core.Bool.{true, false}
use mathlib.Core.List.{List, ◌++◌}
use Prim.Native.Nat.{ℕ, ◌*◌, ◌%◌}
use lib.ListN.{length, take, drop, replicate}
use Rattle.journeys.specs.Counting.{In}
use Rattle.journeys.specs.Refusals.{Refusal, fine, unless, or_else, whole_of, table_of, hop_size_ok, table_lengths, buffer_lengths}
use Rattle.journeys.specs.Answers.{Answer, Allowed}
use Rattle.journeys.specs.PartAnswers.{parts_answer, list_lengths}
use Rattle.journeys.specs.OneRun.{own_list}
use Rattle.journeys.specs.Marked.{Case, parts_over}
use Rattle.journeys.specs.Limits.{changed, length_limits, walk_limits, hop_limits, order_limits, query_limits, first_reasons, room_limits, limits}
use Rattle.journeys.proofs.Valid.{of-sizes}
use Rattle.journeys.proofs.Cases.{tested, cases-hold}

table : tested limits ≡ true
unfolding tested changed length_limits walk_limits hop_limits order_limits query_limits first_reasons room_limits limits
table = refl

-- In each row, whatever answer the definitions allow shows what the row says.
pub limit-cases : (c : Case) → In c limits → (a : Answer) → Allowed c.lent c.query c.limit a
    → c.view a (parts_answer (parts_over c.lent (own_list a) c.parts) c.query) ≡ c.want
limit-cases = cases-hold limits table

-- ---- the largest counts: 65,536 vertices, 262,144 walks and as many hops are good, and one more of any is refused
abbrev one : ℕ → Refusal
one place = record { number = 1; place = place }

module _ (v w h : List ℕ) where
  pub most-records : (size : ℕ) → hop_size_ok size ≡ true → length v ≡ 12 * 65536 → length w ≡ 16 * 262144 → length h ≡ size * 262144 → table_lengths size v w h ≡ fine
  unfolding table_lengths hop_size_ok table_of whole_of unless or_else
  most-records size ok a b =
      of-sizes (λ s. length h ≡ s * 262144 → table_lengths s v w h ≡ fine) (λ c. rw a (rw b (rw c refl))) (λ c. rw a (rw b (rw c refl))) size ok

  pub one-vertex-more : (size : ℕ) → length v ≡ 12 * 65537 → table_lengths size v w h ≡ one 0
  unfolding table_lengths table_of whole_of unless or_else
  one-vertex-more size a = rw a refl

  pub one-walk-more : (size : ℕ) → length v ≡ 12 * 65536 → length w ≡ 16 * 262145 → table_lengths size v w h ≡ one 1
  unfolding table_lengths table_of whole_of unless or_else
  one-walk-more size a b = rw a (rw b refl)

  pub one-hop-more : (size : ℕ) → hop_size_ok size ≡ true → length v ≡ 12 * 65536 → length w ≡ 16 * 262144 → length h ≡ size * 262145 → table_lengths size v w h ≡ one 2
  unfolding table_lengths hop_size_ok table_of whole_of unless or_else
  one-hop-more size ok a b =
      of-sizes (λ s. length h ≡ s * 262145 → table_lengths s v w h ≡ one 2) (λ c. rw a (rw b (rw c refl))) (λ c. rw a (rw b (rw c refl))) size ok

  -- Of any other size no table is good.
  pub other-size : (size : ℕ) → hop_size_ok size ≡ false → table_of 12 1 65536 v ≡ true → table_of 16 0 262144 w ≡ true → table_lengths size v w h ≡ one 2
  unfolding table_lengths unless or_else
  other-size size e a b = rw e (rw a (rw b refl))

-- The lent buffers and the list have no limit of count: any whole number of records is good.
pub any-room : (held settled : List ℕ) → length held % 16 ≡ 0 → length settled % 8 ≡ 0 → buffer_lengths held settled ≡ fine
unfolding buffer_lengths whole_of unless or_else
any-room held settled a b = rw a (rw b refl)

pub any-list : (list parts : List ℕ) → length list % 8 ≡ 0 → length parts % 12 ≡ 0 → list_lengths list parts ≡ fine
unfolding list_lengths whole_of unless or_else
any-list list parts a b = rw a (rw b refl)
