use Rattle.std.proofs.Common.{◌+◌, ◌*◌, map}
use Rattle.si_defs.specs.Terms.{row, size, sizes}
use Rattle.si_term.specs.Terms.{term_of}
use Rattle.si_tree_tests.proofs.kept.KeptEntries.+put.Given as goal

abbrev pub decreases-put_term : goal.decreases-put_term
decreases-put_term l = 2 * size (term_of l.term.now)

abbrev pub decreases-put_terms : goal.decreases-put_terms
decreases-put_terms l = 2 * sizes (row (map term_of l.terms.now)) + 1
