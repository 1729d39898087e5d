use Rattle.si_flat.specs.declared.Owner.TheVariants.{Query}
use Rattle.si_tests.proofs.AskedTerms.{copied}
use Rattle.si_tests.proofs.solutions.is_right.Goals as goal

pub is_found_for-requires-clause-query : goal.is_found_for-requires-clause-query
is_found_for-requires-clause-query c = copied Query c.args.cells.now c.in_ok-query.query c.in_ok-query.ensures c.requires.query
