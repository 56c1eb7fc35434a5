-- `build`: the nodes from p on are played.
use Rattle.table_tree.proofs.BuildLaws.{build-start, build-step}
use Rattle.table_tree.proofs.build.Goals as goal

pub loop-p-init : goal.loop-p-init
loop-p-init c = build-start c.requires.0.len c.requires.1

pub loop-p-preserved : goal.loop-p-preserved
loop-p-preserved c =
    build-step c.requires.0.fits c.loop-p.invariant c.loop-p-test.true c.tree-x.ensures c.tree-y.ensures c.winner-z.ensures c.set_tree.auto.b c.set_tree.ensures
