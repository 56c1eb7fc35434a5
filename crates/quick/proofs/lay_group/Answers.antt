-- `quick::lay_group` meets its contract: the group of claims that stands in the list is laid, or all is as before. Assumes nothing.
use Rattle.std.proofs.Common.{refl, arith}
use Rattle.quick.specs.Claims.{claim_of}
use Rattle.quick.proofs.Laying.{claimed-kept, claimed-more}
use Rattle.quick.proofs.lay_group.Goals as goal

pub returns-then-not-claims : goal.returns-then-not-claims
returns-then-not-claims c = record {
  claimed_2 = λ _. claimed-kept c.claims.ensures.same c.requires.claimed;
  claimed_3 = λ n. absurd (n refl);
}

pub returns : goal.returns
returns c =
    let a = c.args in
    let kept = claimed-kept c.claims.ensures.same c.requires.claimed in record {
      claimed_2 = λ e. rw (c.lay.ensures.scratch_unchanged.0 e) kept;
      claimed_3 = λ n.
          claimed-more (claim_of a.pairs a.vertices.now a.walks.now a.limit) a.base a.groups a.words c.lay.result _ _ kept
          (c.claims.ensures.claims c.if-not-claims.false) (c.lay.ensures.more (omega (arith, c.lay.ensures.scratch_unchanged.1)));
    }
