-- How far windows have come over the sorted stops, and what the end makes of it. Assumes nothing.
use Rattle.std.specs.Prelude.{◌≡◌, Result, List, map, ℕ, ◌<◌, ◌≤◌, length, take, drop}
use Rattle.journeys.specs.Counting.{none, joined}
use Rattle.journeys.specs.Bytes.{filled, cleared}
use Rattle.journeys.specs.Refusals.{fine}
use Rattle.table_bytes.specs.Columns.{at}
use Rattle.feed.specs.Lines.{lines_of, first_bad_line}
use Rattle.feed.specs.Ids.{ids_refusal}
use Rattle.sorting.specs.Sorted.{recs, sorted}
use Rattle.stoplist.specs.declared.Columns.{Columns}
use Rattle.stoplist.specs.Made.{packed, stops_made, entry_good, Inside}
use Rattle.hoporder.specs.Hops.{hop_out}
use Rattle.hopbytes.specs.Listing.{trip_at}
use Rattle.words.specs.Refusal.{Refusal}
use Rattle.words.specs.Told.{told}
use Rattle.departures.specs.Answered.{hops_told}
use Rattle.carry.specs.declared.Carry.{Carry}
use Rattle.carry.specs.Carried.{start, all_followed, all_hops, late_end}
use Rattle.sieve.specs.Kept.{bound, kept, Distinct}
use Rattle.windows.specs.declared.Run.{Run}

-- the records of the lines, and these sorted
abbrev pub lines_records : Columns → List ℕ → List ℕ → List ℕ → ℕ → List ℕ
lines_records C stops trips text from = map packed (stops_made C stops trips 2 (lines_of (drop from text)))

-- what a window asks of the texts
pub record Ready (C : Columns) (S T X : List ℕ) (from : ℕ) : Type 0 where
  pub inside : Inside C
  pub within : from ≤ length X
  pub text : length X < 4294967294
  pub good : first_bad_line 13 (entry_good C S T) 2 (lines_of (drop from X)) ≡ fine
  pub distinct : Distinct (lines_records C S T X from)
  pub stops : ids_refusal 65535 S ≡ fine
  pub trips : ids_refusal none T ≡ fine
  pub few : length T < 4294967296

-- k hops stand in front of the records, or k is above the room and they were more
pub data Held (room k : ℕ) (W H : List ℕ) : Type 0 where
  all : k ≤ room → take k W ≡ H → Held room k W H
  more : room < k → room < length H → Held room k W H

-- of the sorted stops S those below a bound are judged and joined
pub record Gone (S : List ℕ) (room : ℕ) (W : List ℕ) (r : Run) : Type 0 where
  pub carried : r.carry ≡ all_followed start (kept 0 (bound r.lo) S)
  pub hops : Held room r.hops W (all_hops start (kept 0 (bound r.lo) S))

-- 15, 16, 17 or the hops, as what is carried says it
pub data Ended (trips b : List ℕ) (room k : ℕ) (c : Carry) (r : Result ℕ Refusal) (d : List ℕ) : Type 0 where
  repeats : (c.fifteen ≡ none → ⊥) → told r ≡ record { number = 15; place = c.fifteen } → hops_told r ≡ 0 → d ≡ cleared b → Ended trips b room k c r d
  late : c.fifteen ≡ none → (late_end c ≡ none → ⊥) → told r ≡ record { number = 16; place = late_end c } → hops_told r ≡ 0 → d ≡ cleared b → Ended trips b room k c r d
  many : c.fifteen ≡ none → late_end c ≡ none → room < k → told r ≡ record { number = 17; place = 0 } → hops_told r ≡ 0 → d ≡ cleared b → Ended trips b room k c r d
  fits : c.fifteen ≡ none → late_end c ≡ none → k ≤ room → told r ≡ fine → hops_told r ≡ k → d ≡ filled b (joined (λ i. hop_out (trip_at trips) (at (sorted (recs k b)) i)) k) → Ended trips b room k c r d
