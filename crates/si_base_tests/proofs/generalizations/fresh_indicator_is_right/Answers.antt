use Rattle.std.proofs.Common.{refl}
use Rattle.si_base_tests.proofs.Vectors as made
use Rattle.si_base_tests.proofs.generalizations.fresh_indicator_is_right.Goals as goal

pub one-requires : goal.one-requires
one-requires c = made.whole_f made.a (made.g made.b) (refl, tt) (refl, ((refl, tt), tt))

pub one-requires-2 : goal.one-requires-2
one-requires-2 c = made.whole_f made.c (made.g made.b) (refl, tt) (refl, ((refl, tt), tt))

pub is_split-requires : goal.is_split-requires
is_split-requires c = made.one_fresh c.in_ok-node.node c.in_ok-new.new c.in_ok-node.ensures c.in_ok-new.ensures
