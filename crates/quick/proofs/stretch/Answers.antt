-- `quick::stretch` meets its contract: what is taken off is what was claimed, since nothing is left. Assumes nothing.
use Rattle.std.proofs.Common.{arith}
use Rattle.tally.proofs.Groups.{laid-placed}
use Rattle.quick.proofs.stretch.Goals as goal

pub drain_walks-requires : goal.drain_walks-requires
drain_walks-requires c =
    let laid = c.lay_claims-laid.ensures.laid in record {
      alone_value = (c.requires.ascending.1, c.requires.ascending.2);
      base_bound = (omega (arith, c.requires.base_le_limit), omega (arith, laid.shape.least, laid.shape.most), omega (arith, c.lay_claims-laid.auto, c.drain_table.auto, c.requires.base_le_limit));
      by_index = laid-placed (c.drain_table.ensures c.if-not-drain_table.false _ _ _ laid);
    }

pub returns : goal.returns
returns c =
    let a = c.args in
    let hopped = c.drain_table.ensures c.if-not-drain_table.false _ _ _ c.lay_claims-laid.ensures.laid in
    let done = c.drain_walks.ensures c.if-not-drain_walks.false _ _ _ hopped in (
      omega (arith, c.min.ensures, c.requires.base_le_limit),
      λ k l.
          record {
            small = c.lay_claims-laid.ensures.small k (omega (arith, c.min.ensures));
            exact = omega (arith, c.empty.ensures.0 c.if-not-empty.false _ _ _ done k (omega (arith, c.min.ensures)));
          },
    )
