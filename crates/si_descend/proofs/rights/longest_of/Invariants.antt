use Rattle.std.proofs.Common.{◌≡◌, max}
use Rattle.si_descend.specs.Lending.{most_cells}
use Rattle.si_descend.proofs.rights.longest_of.Given as goal

abbrev pub invariant-loop-pair : goal.invariant-loop-pair
invariant-loop-pair l = most_cells l.bindings ≡ max l.longest (most_cells l.pair-iterator)
