-- `mode_fault`: the boarding time, then the scratch. Assumes nothing.
use mathlib.Core.Path.{◌∙◌}
use native.Mathlib.Omega.{arith}
use Rattle.audit.proofs.Whole.{sizes}
use Rattle.ride_intake.proofs.Judged.{boarding-long, scratch-short, mode-good}
use Rattle.ride_intake.proofs.mode_fault.Goals as goal

pub returns-then-boarding-gt600 : goal.returns-then-boarding-gt600
returns-then-boarding-gt600 c = c.refused.ensures.told ∙ boarding-long _ _ _ _ c.args.scratch.now _ c.if-boarding-gt600.true

pub nonzero_div-enough : goal.nonzero_div-enough
nonzero_div-enough c = omega (arith, (sizes _ _ _ _ c.requires).hop_fits)

pub overflow_mul-enough : goal.overflow_mul-enough
overflow_mul-enough c =
    let few = sizes c.args.hop_size c.args.vertices.now c.args.walks.now c.args.hops.now c.requires in
    record { fits = omega (arith, few.hops_most) }

pub returns-then-not-enough : goal.returns-then-not-enough
returns-then-not-enough c = c.refused-then-not-enough.ensures.told ∙ scratch-short _ _ _ _ c.args.scratch.now _ c.if-boarding-gt600.false c.if-not-enough.true-raw

pub returns : goal.returns
returns c = mode-good _ _ _ _ c.args.scratch.now _ c.if-boarding-gt600.false c.if-not-enough.false-raw
