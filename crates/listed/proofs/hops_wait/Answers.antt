-- `hops_wait`: one hop more that rises and waits.
use mathlib.Core.Path.{◌≡◌, sym, ap, subst, ◌∙◌}
use mathlib.Core.List.{List}
use Prim.Native.Nat.{ℕ, ◌+◌, ◌-◌, ◌<◌, ◌≤◌}
use native.Mathlib.Omega.{arith}
use lib.ListN.{length}
use Rattle.records.specs.Columns.{records_in, from_at}
use Rattle.listing.specs.Places.{total, from_of}
use Rattle.listing.proofs.Froms.{of-hop}
use Rattle.listed.specs.Stretches.{Rising}
use Rattle.listed.specs.Waiting.{Leave, waited}
use Rattle.listed.proofs.Judging.{rising-more}
use Rattle.listed.proofs.WaitLaws.{leave-before, leave-here, waited-long, wrong-is, many_is}
use Rattle.listed.proofs.hops_wait.Goals as goal
use Rattle.listed.proofs.hops_wait.Goals.{At-loop-i}

-- the scratch is as long as it was
long : (c : At-loop-i) → length c.loop-i.scratch ≡ length c.args.scratch.now
long c = c.loop-i.invariant.2 ∙ sym c.requires.at_le_end.3

pub loop-i-preserved : goal.loop-i-preserved
loop-i-preserved c =
    let a = c.args in
    let F = from_of a.hop_size a.walks.now a.hops.now in
    let G = from_at a.hop_size a.hops.now in
    let ways = records_in 16 a.walks.now in
    let place = c.in_ok-place.place in
    let free : place < 512 = c.in_ok-place.ensures.0 in
    let x = c.word_at-x.result in
    let high : ways ≤ x = omega (arith, c.loop-i.invariant.3, c.if-x-least.false) in
    let low : x < total a.hop_size a.walks.now a.hops.now = omega (arith, c.if-n-x.false, c.requires.fits.long) in
    let e = c.wait.ensures in
    let back : Leave G c.wait.new.scratch (place + 1) → Leave G (waited c.loop-i.scratch place (x - ways) a.v) (place + 1) = λ all. subst (λ (z : List ℕ). Leave G z (place + 1)) e all in
    let before : Leave G c.wait.new.scratch (place + 1) → Leave G c.loop-i.scratch c.loop-i.many = λ all. c.in_ok-place.ensures.1 (leave-before c.loop-i.scratch place (x - ways) a.v c.loop-i.invariant.2 free G (back all)) in (
      omega (arith, c.loop-i-test.true),
      omega (arith, free),
      ap length e ∙ waited-long c.loop-i.scratch place (x - ways) a.v c.loop-i.invariant.2 free,
      omega (arith, high),
      λ all. c.loop-i.invariant.4 (before all),
      λ all first rising.
          rising-more F (total a.hop_size a.walks.now a.hops.now) a.v first a.list.now c.loop-i.i c.loop-i.least x (c.loop-i.invariant.5 (before all) first rising) c.word_at-x.ensures c.if-x-least.false low
          (of-hop a.hop_size a.walks.now a.walks.now a.hops.now x high ∙ leave-here c.loop-i.scratch place (x - ways) a.v c.loop-i.invariant.2 free G (back all)),
    )

pub returns : goal.returns
returns c =
    let a = c.args in
    let e : c.loop-i.i ≡ a.end = omega (arith, c.loop-i.invariant.0, c.loop-i-test.false) in
    many_is _ _ _ _ _ _ _ _ _ _ _ (record {
      few = c.loop-i.invariant.1;
      before = c.loop-i.invariant.4;
      risen = λ all first rising. record { low = c.loop-i.least; rising = subst (λ (j : ℕ). Rising (from_of a.hop_size a.walks.now a.hops.now) (total a.hop_size a.walks.now a.hops.now) a.v first j c.loop-i.least a.list.now) e (c.loop-i.invariant.5 all first rising) };
    })

pub returns-then-x-least : goal.returns-then-x-least
returns-then-x-least c = wrong-is _ _ _ _ _ _ _ _ _ _

pub returns-then-n-x : goal.returns-then-n-x
returns-then-n-x c = wrong-is _ _ _ _ _ _ _ _ _ _

pub returns-in_err-place : goal.returns-in_err-place
returns-in_err-place c = rw c.from_residual.ensures (wrong-is _ _ _ _ _ _ _ _ _ _)
