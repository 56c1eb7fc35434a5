-- `departing::count_departing` meets its contract: both tables are counted into counters that start at zero. Assumes nothing.
use mathlib.Core.Path.{ap}
use mathlib.Core.Logic.{inr}
use Prim.Native.Nat.{ℕ, ◌+◌, ◌*◌}
use Rattle.records.specs.Columns.{records_in, leaving}
use Rattle.departing.specs.Scratch.{Outside, Counted}
use Rattle.departing.proofs.Ranges.{noted-kept, outside-then}
use Rattle.departing.proofs.Counters.{counted_same, zeroed, zeroed-outside}
use native.Mathlib.Omega.{arith}
use Rattle.departing.proofs.count_departing.Goals as goal
use Rattle.departing.proofs.count_departing.Goals.{After-count_block-low, After-zero}

after-zero : (c : After-zero) → Outside 0 1904 c.args.scratch.now c.zero.new.scratch
after-zero c = rw c.zero.ensures (zeroed-outside c.args.scratch.now)

after-walks : (c : After-count_block-low)
    → Outside 0 1904 c.args.scratch.now c.count_block-low.new.scratch
after-walks c =
    outside-then 0 1904 c.args.scratch.now c.zero.new.scratch c.count_block-low.new.scratch (rw c.zero.ensures (zeroed-outside c.args.scratch.now)) c.count_block-low.ensures.outside

pub count_block-low-requires : goal.count_block-low-requires
count_block-low-requires c =
    let w = c.args.walks.now in
    let o = after-zero (goal.at.count_block-low-requires c).After-zero in record {
      le_size = omega arith;
      g_bound = (omega arith, omega arith, omega arith, omega arith, omega arith, omega (arith, c.zero.auto.scratch));
      noted = noted-kept 16 w 1904 (records_in 16 w) 0 1904 c.args.scratch.now c.zero.new.scratch (λ i l. inr (omega arith)) o c.requires.noted;
    }

pub count_block-requires : goal.count_block-requires
count_block-requires c =
    let h = c.args.hops.now in record {
      le_size = omega arith;
      g_bound = (omega arith, omega arith, omega arith, omega arith, omega arith, omega (arith, c.zero.auto.scratch, c.count_block-low.auto));
      noted = noted-kept c.args.hop_size h 1974 (records_in c.args.hop_size h) 0 1904 c.args.scratch.now c.count_block-low.new.scratch (λ i l. inr (omega arith)) (after-walks (goal.at.count_block-requires c).After-count_block-low) c.requires.noted_2;
    }

pub returns : goal.returns
returns c =
    let a = c.args in
    let zeros : Counted a.len a.len c.zero.new.scratch (λ k. 0) = rw c.zero.ensures (zeroed a.scratch.now a.len (omega arith)) in record {
      counted = counted_same (λ k l. ap (λ (x : ℕ). x + leaving a.hop_size a.hops.now (1904 * a.g + k)) (omega arith))
          (c.count_block.ensures.by_index _ (c.count_block-low.ensures.by_index _ zeros));
      outside = outside-then 0 1904 a.scratch.now c.count_block-low.new.scratch c.count_block.new.scratch (after-walks (goal.at.returns c).After-count_block-low) c.count_block.ensures.outside;
    }
