-- `all_windows`: the bound rises until it is above every record.
use borrow.Author.Rules.{rules}
use mathlib.Core.Path.{sym, ◌∙◌}
use Prim.Native.Nat.{◌-◌}
use native.Mathlib.Omega.{arith}
use Rattle.windows.proofs.GoneLaws.{gone-start, below-all}
use Rattle.windows.proofs.all_windows.Goals as goal

pub loop-c-init : goal.loop-c-init
loop-c-init c =
    (c.requires.target_len.0, c.requires.target_len.1, gone-start _ _ _, (omega arith, omega arith, omega arith))

pub window-run-requires : goal.window-run-requires
window-run-requires c =
    let p = c.requires.target_len in
    let i = c.loop-c.invariant in
    record { target_len = (i.0, i.1, p.2, below-all c.loop-c.run.lo (sym c.is_some.ensures ∙ c.loop-c-test.true) i.3, p.3) }

pub loop-c-preserved : goal.loop-c-preserved
loop-c-preserved c = let i = c.loop-c.invariant in (c.window-run.auto.target ∙ i.0, c.window-run.auto.spare ∙ i.1, c.window-run.ensures.1 i.2, search rules)
