use Rattle.std.proofs.Common.{refl}
use Rattle.si_legal.specs.Bindings.{indicator}
use Rattle.si_base_tests.proofs.Vectors as made
use Rattle.si_base_tests.proofs.generalizations.kept_indicator_is_right.Goals as goal

pub one-requires : goal.one-requires
one-requires c = made.whole_f (indicator 1) made.a tt (refl, tt)

pub one-requires-2 : goal.one-requires-2
one-requires-2 c = made.whole_f made.b made.c (refl, tt) (refl, tt)

pub is_split-requires : goal.is_split-requires
is_split-requires c = made.one_kept c.in_ok-node.node c.in_ok-new.new c.in_ok-node.ensures c.in_ok-new.ensures
