use Rattle.si_tree.proofs.NumberLaws.{AreRenumbering}
use Rattle.si_tree.proofs.numbers.renumbered.Given as goal

abbrev pub invariant-loop-pair : goal.invariant-loop-pair
invariant-loop-pair l = AreRenumbering l.numbers l.bindings l.all l.pair-iterator
