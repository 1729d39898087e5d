use Rattle.std.proofs.Common.{◌≡◌, max}
use Rattle.si_tree.specs.Rights.{beyond_rights}
use Rattle.si_tree.proofs.rights.beyond_entries.Given as goal

abbrev pub invariant-loop-pair : goal.invariant-loop-pair
invariant-loop-pair l = beyond_rights l.bindings ≡ max l.bound (beyond_rights l.pair-iterator)
