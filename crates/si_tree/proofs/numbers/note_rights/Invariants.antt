use Rattle.si_tree.specs.Numbers.{rights_in}
use Rattle.si_tree.proofs.NumberLaws.{IsNoting}
use Rattle.si_tree.proofs.numbers.note_rights.Given as goal

abbrev pub invariant-loop-pair : goal.invariant-loop-pair
invariant-loop-pair l = IsNoting l.fn.numbers.items l.first (rights_in l.bindings) l.numbers.items l.next (rights_in l.pair-iterator)
