use Rattle.std.proofs.Common.{arith}
use Rattle.si_tree_tests.proofs.Children.{child_is_node}
use Rattle.si_tree_tests.proofs.seen.SeenTree.+read_below.Goals as goal

pub read_below-requires : goal.read_below-requires
read_below-requires n c = (
  omega (arith, c.decreases, c.if-deep-eq0.false),
  (c.requires.legal, child_is_node c.args.tree.now c.requires.legal c.args.id c.requires.node c.children-child-items.result.now c.children-child-items.ensures c.loop-child.child-index c.child-item.result c.loop-child-test.true c.child-item.is),
)
