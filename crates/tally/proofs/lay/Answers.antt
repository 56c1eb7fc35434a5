-- `tally::lay` meets its contract: the group stands behind the others, as wide as the greatest of its claims needs. Assumes nothing.
use mathlib.Core.Path.{◌≡◌, sym, ap, ◌∙◌}
use Prim.Native.Nat.{ℕ, ◌+◌, ◌*◌, ◌≤◌, ◌<◌, ◌^◌}
use native.Mathlib.Omega.{arith}
use borrow.Author.Tests.{le-leb}
use Rattle.journeys.proofs.Tests.{cond-true}
use Rattle.tally.specs.Laid.{greatest, width, listed}
use Rattle.tally.proofs.Digits.{greatest-most}
use Rattle.tally.proofs.Groups.{width_some, list-stays, laid-entered}
use Rattle.tally.proofs.lay.Goals as goal
use Rattle.tally.proofs.lay.Goals.{After-width-size}

small : (c : After-width-size) (i : ℕ) → i < 64 → listed c.args.scratch.now i < 16 ^ c.width-size.result
small c i l =
    let claims = listed c.args.scratch.now in
    omega (arith, c.width-size.ensures.2, c.greatest.ensures, greatest-most claims 64 i l)

-- the words that are laid with this group
size_is : (c : After-width-size) → c.width-size.result ≡ width (greatest (listed c.args.scratch.now) 64)
size_is c = c.width-size.ensures.0 ∙ ap width c.greatest.ensures

pub pack-requires : goal.pack-requires
pack-requires c = record {
  width = (c.width-size.ensures.1, omega arith, omega arith);
  by_index = small (goal.at.pack-requires c).After-width-size;
}

pub returns : goal.returns
returns c =
    let a = c.args in
    let size = c.width-size.result in
    let w = c.width-size.ensures.1 in
    let room : a.words + 16 * size ≤ 1856 = omega arith in
    let below = c.pack.ensures.same.0 in
    let behind = c.pack.ensures.same.1 in record {
      more = λ l. laid-entered a.groups a.words size a.scratch.now c.pack.new.scratch c.requires.0 (omega (arith, c.pack.auto)) w room below behind (small (goal.at.returns c).After-width-size) c.pack.ensures.by_index_2;
      scratch_unchanged = (λ e. absurd (omega (arith, width_some w)), omega arith, sym (rw (← size_is (goal.at.returns c).After-width-size) (cond-true _ _ (le-leb _ 1856 room))));
      same = list-stays a.groups a.words size a.scratch.now c.pack.new.scratch c.requires.0 (omega (arith, c.pack.auto)) w room below behind;
    }
