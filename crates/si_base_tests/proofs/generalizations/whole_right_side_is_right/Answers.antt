use Rattle.si_base_tests.proofs.Vectors as made
use Rattle.si_base_tests.proofs.generalizations.whole_right_side_is_right.Goals as goal

pub with_a-requires : goal.with_a-requires
with_a-requires c = made.whole_constant 8

pub with_a-requires-2 : goal.with_a-requires-2
with_a-requires-2 c = made.whole_constant 10

pub is_split-requires : goal.is_split-requires
is_split-requires c = made.one_whole c.in_ok-node.node c.in_ok-new.new c.in_ok-node.ensures c.in_ok-new.ensures
