-- `quick::drain_walks` meets its contract: where no walk is alone none is left to take off. Assumes nothing.
use Rattle.std.proofs.Common.{◌≡◌, ◌+◌, sym, ◌∙◌, arith}
use Rattle.quick.specs.Claims.{counted}
use Rattle.quick.proofs.Taken.{takes_none}
use Rattle.quick.proofs.Whole.{none-leaves}
use Rattle.quick.proofs.drain_walks.Goals as goal

pub returns : goal.returns
returns c =
    let a = c.args in
    let none : a.alone ≡ 0 = omega arith in
    λ _. takes_none a.groups (λ k. counted a.pairs 16 a.walks.now (a.base + k)) a.scratch.now
    (λ k. rw (c.requires.alone_value.1 none) (none-leaves a.walks.now (sym c.requires.alone_value.0 ∙ none) (a.base + k)))
