use Rattle.si_flat.specs.declared.Owner.TheVariants.{Entry}
use Rattle.si_tests.proofs.AskedTerms.{copied}
use Rattle.si_tests.proofs.solutions.is_found_for.Goals as goal

pub is_found-requires-clause-entry : goal.is_found-requires-clause-entry
is_found-requires-clause-entry c = copied Entry c.args.cells.now c.in_ok-entry.entry c.in_ok-entry.ensures c.requires.entry
