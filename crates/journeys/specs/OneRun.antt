-- The one run of RULES 11.7, which lists settled vertices, held vertices and parts: what the run and the parts operation give together. Assumes nothing.
use Rattle.std.specs.Prelude.{cond, ℕ, ◌*◌, leb, length, take}
use mathlib.Core.List.{List, flat_map}
use Rattle.journeys.specs.Bytes.{filled}
use Rattle.journeys.specs.Query.{Query}
use Rattle.journeys.specs.Order.{Settled}
use Rattle.journeys.specs.Parts.{Part, part_list, part_bytes}
use Rattle.journeys.specs.Answers.{Lent, Answer, tables, held_after, held_bytes, settled_bytes}
use Rattle.journeys.specs.PartAnswers.{PartsAnswer}

-- the six answers, and the three buffers afterwards
pub record OneAnswer : Type 0 where
  pub refusal : ℕ
  pub place : ℕ
  pub settled_count : ℕ
  pub part_count : ℕ
  pub held_count : ℕ
  pub finished : ℕ
  pub held : List ℕ
  pub settled : List ℕ
  pub parts : List ℕ

-- the list of a run: what is counted of its settled buffer. The zero rest behind it would be entries.
abbrev pub own_list : Answer → List ℕ
own_list a = take (8 * a.settled_count) a.settled

-- the answer of a run beside the answer for the parts of its list
unfoldable pub together : Answer → PartsAnswer → OneAnswer
together a p =
    record {
      refusal = a.refusal;
      place = a.place;
      settled_count = a.settled_count;
      part_count = p.part_count;
      held_count = a.held_count;
      finished = a.finished;
      held = a.held;
      settled = a.settled;
      parts = p.parts;
    }

-- l is the whole order of settling, `parts` the part buffer at the call: the one run after k steps with room for all
module _ (b : Lent) (parts : List ℕ) (Q : Query) (l : List Settled) where
  abbrev pub parts_after : ℕ → List Part
  parts_after k = part_list (tables b) Q (take k l)

  unfoldable pub one_run_after : ℕ → OneAnswer
  one_run_after k =
      record {
        refusal = 0;
        place = 0;
        settled_count = length (take k l);
        part_count = length (parts_after k);
        held_count = length (held_after b Q l k);
        finished = cond (leb (length l) k) 1 0;
        held = filled b.held (flat_map held_bytes (held_after b Q l k));
        settled = filled b.settled (flat_map settled_bytes (take k l));
        parts = filled parts (flat_map part_bytes (parts_after k));
      }
